-- Labels of encodings (Encoding Standard, section 4.2: "get an encoding").
use Rattle.std.specs.Prelude.{ℕ, Bool, Option, List, find, map}
use Rattle.std.specs.Option.{option_map}
use Rattle.std.specs.Str.{str_eq_ignore_ascii_case}
use Rattle.html_encodings.specs.Scanning.{trimmed}
use Rattle.html_encodings.specs.declared.names.Encoding.{Encoding}
use Rattle.html_encodings.specs.declared.names.TheConstants.{LABELS}

-- a label with its encoding
abbrev pub Row : Type 0
Row = List ℕ × Encoding

-- each label with its encoding
unfoldable pub labels : List Row
labels = map (λ row. (row.0.now, row.1)) LABELS

abbrev pub is_label : List ℕ → Row → Bool
is_label bytes row = str_eq_ignore_ascii_case row.0 bytes

-- the encoding of a label, in letters of any case and with white space at its ends
abbrev pub label_encoding : List ℕ → Option Encoding
label_encoding label = option_map (λ row. row.1) (find (is_label (trimmed label)) labels)
