use Rattle.std.proofs.Common.{refl}
use Rattle.html_encodings_multibyte.specs.Chinese.{gb18030_third, gb18030_fourth}
use Rattle.html_encodings_multibyte.specs.Indexes.{gb18030_ranges}
use Rattle.html_encodings_multibyte.proofs.rows.range_rows.Goals as goal

pub returns : goal.returns
unfolding gb18030_third gb18030_fourth gb18030_ranges
returns c = refl
