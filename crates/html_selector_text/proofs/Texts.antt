-- Texts of ASCII alone.
use Rattle.std.proofs.Common.{◌≡◌, ℕ, List}
use Rattle.std.specs.Prelude.{IsTrue}
use Rattle.std.specs.Str.{chars}
use Rattle.markup.specs.Plain.{is_plain}
use Rattle.markup.proofs.Plain.{chars-plain}

-- their characters are their bytes
pub plain_chars : (bytes : List ℕ) → IsTrue (is_plain bytes) → chars bytes ≡ bytes
plain_chars bytes h = chars-plain bytes h
