-- What reading a text from a source of bytes tells.
use Rattle.std.specs.Prelude.{◌≡◌, ℕ, ◌≤◌, Bool, true, false, List, ◌++◌, length, take, drop, IsUtf8, Option, None, Some, Result, Err, ◌⊎◌}
use Rattle.std.specs.Str.{IsValidUpTo}
use Rattle.std.specs.Str.Lossy.{utf8_error_len, utf8_valid_len}
use Rattle.html_input.specs.declared.fault.TextFault.{TextFault}
use Rattle.html_input.specs.declared.fault.TextFault.TheVariants.{NotUtf8, Read, Memory}

-- Bytes begin a UTF-8 text: after their longest front that is UTF-8 nothing stands, or bytes that end within a character.
abbrev pub BeginsText : List ℕ → Type 0
BeginsText bytes = utf8_error_len (drop (utf8_valid_len bytes) bytes) ≡ None

-- The input isn't UTF-8, its longest front that is has this length, and the last read showed it: what came before that read begins a text.
pub record ShowsNotUtf8 (whole left : List ℕ) (at : ℕ) : Type 0 where
  pub earlier : List ℕ
  pub last : List ℕ
  pub moved : whole ≡ (earlier ++ last) ++ left
  pub front : IsValidUpTo whole at
  pub soon : BeginsText earlier
  pub piece : length last ≤ 32768

-- What was read begins a text.
pub record HasBegun (whole left : List ℕ) : Type 0 where
  pub read : List ℕ
  pub moved : whole ≡ read ++ left
  pub text : BeginsText read

-- The longest front of bytes that begin a text has this length.
pub record IsFront (bytes : List ℕ) (n : ℕ) : Type 0 where
  pub within : n ≤ length bytes
  pub text : IsUtf8 (take n bytes)
  pub begins : utf8_error_len (drop n bytes) ≡ None
  pub longest : (n ≡ length bytes) ⊎ IsValidUpTo bytes n

-- Bytes begin no text, and the longest front of them and whatever follows them that is UTF-8 has this length.
abbrev pub StaysAtFault : List ℕ → ℕ → Type 0
StaysAtFault bytes at = (more : List ℕ) → IsValidUpTo (bytes ++ more) at

-- Bytes that begin a text are a text, and after it those of a character that they cut, if they do.
pub record IsSplit (bytes text cut : List ℕ) : Type 0 where
  pub parts : bytes ≡ text ++ cut
  pub front : IsFront bytes (length text)

-- Bytes that begin no text, after a text of so many bytes.
abbrev pub IsFaultAfter : ℕ → List ℕ → TextFault → Type 0
IsFaultAfter before bytes (NotUtf8 at) = (front : List ℕ) → IsUtf8 front → length front ≡ before → StaysAtFault (front ++ bytes) at
IsFaultAfter before bytes Read = ⊥
IsFaultAfter before bytes Memory = Unit {0}

-- What a fault says of the bytes that were left before and are left after a reading.
abbrev pub IsReadFault : (old new : Option (List ℕ)) → TextFault → Type 0
IsReadFault old new (NotUtf8 at) = (whole left : List ℕ) → old ≡ Some whole → new ≡ Some left → ShowsNotUtf8 whole left at
IsReadFault old new Read = (whole left : List ℕ) → old ≡ Some whole → new ≡ Some left → HasBegun whole left
IsReadFault old new Memory = Unit {0}

-- Whether a reading failed at the device.
abbrev pub is_read_fault : {T : Type 0} → Result T TextFault → Bool
is_read_fault (Err Read) = true
is_read_fault result = false
