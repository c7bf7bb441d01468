use Rattle.std.proofs.Common.{refl}
use Rattle.html_encodings_multibyte.specs.Chinese.{gb18030_third, gb18030_fourth}
use Rattle.html_encodings_multibyte.proofs.rows.error_rows.Goals as goal

pub returns : goal.returns
unfolding gb18030_third gb18030_fourth
returns c = refl
