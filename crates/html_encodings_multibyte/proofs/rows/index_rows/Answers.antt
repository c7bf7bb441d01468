use Rattle.std.proofs.Common.{refl}
use Rattle.html_encodings_multibyte.specs.Indexes.{gb18030_low, gb18030_high, gb18030_index, big5_low, big5_high, big5_index}
use Rattle.html_encodings_multibyte.specs.Indexes.{euc_kr_low, euc_kr_high, euc_kr_index, jis0208_index, jis0212_index}
use Rattle.html_encodings_multibyte.proofs.rows.index_rows.Goals as goal

pub returns : goal.returns
unfolding gb18030_low gb18030_high gb18030_index big5_low big5_high big5_index euc_kr_low euc_kr_high euc_kr_index jis0208_index jis0212_index
returns c = refl
