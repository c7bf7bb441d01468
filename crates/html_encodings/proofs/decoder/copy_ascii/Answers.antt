use Rattle.std.proofs.lemmas.Str.{IsUtf8-from_ascii}
use Rattle.html_encodings.proofs.decoder.copy_ascii.Goals as goal

pub from_utf8_unchecked-requires : goal.from_utf8_unchecked-requires
from_utf8_unchecked-requires c = IsUtf8-from_ascii _ c.ascii_prefix_len-count.ensures.ascii
