-- What a tokenizer holds of a character reference, and what it makes of it (HTML Standard, sections 13.2.5.72 to 13.2.5.80).
use Rattle.std.specs.Prelude.{◌≡◌, ℕ, Bool, true, false, ◌&&◌, ◌||◌, not, nat_eq, is_none, List, [], ◌∷◌, ◌++◌, ◌≤◌, length}
use Rattle.std.specs.Prelude.{take, drop, Option, Some, None, if◌then◌else◌}
use Rattle.std.specs.Char.{is_ascii_alphanumeric, is_ascii_digit, is_ascii_hexdigit}
use Rattle.std.specs.List.{ends_with, list_all}
use Rattle.std.specs.Option.{is_some}
use Rattle.html_tokens.specs.declared.states.RawKind.TheVariants.{Rcdata}
use Rattle.html_tokens.specs.declared.states.State.{State}
use Rattle.html_tokens.specs.declared.states.State.TheVariants as state
use Rattle.html_tokens.specs.Characters.{run}
use Rattle.html_tokens.specs.Reference.{Reference, goes_on_at, is_no_character, named_by, number, numbered_reference, numeric}
use Rattle.html_tokens.specs.Reference.{reference_at, semicolon}
use Rattle.html_tokens.specs.Table.{Row, longest, values_of}
use Rattle.html_references.specs.References.{IsCheckedTable, is_front}
use Rattle.html_tokens.specs.Forbidden.{is_forbidden}
pub use Rattle.html_tokenizer_parts.specs.HeldChars.{is_held, is_named_with}
use Rattle.html_tokenizer_parts.specs.declared.held_reference.Ampersand.{Ampersand}
use Rattle.html_tokenizer_parts.specs.declared.held_reference.Ampersand.TheVariants.{Held, Unknown}
use Rattle.html_tokenizer_parts.specs.declared.numbers.Found.{Found}
use Rattle.html_tokenizer_parts.specs.declared.numbers.ReferenceFaults.{ReferenceFaults}

-- where the digits of a number in base 16, or else 10, end
abbrev pub stops : Bool → ℕ → Bool
stops true d = not (is_ascii_hexdigit d)
stops false d = not (is_ascii_digit d)

-- nothing stands in a text
abbrev pub is_no_text : List ℕ → Bool
is_no_text [] = true
is_no_text (c ∷ t) = false

-- digits, with ";" or nothing after them, where digits stand before or do not
abbrev pub are_digits : (ℕ → Bool) → Bool → List ℕ → Bool
are_digits stops some [] = true
are_digits stops some (c ∷ t) = if stops c then some && (nat_eq c 59 && is_no_text t) else are_digits stops true t

abbrev pub is_number_by : Bool → ℕ → List ℕ → Bool
is_number_by true c t = are_digits (stops true) false t
is_number_by false c t = are_digits (stops false) false (c ∷ t)

-- whether some text after this one makes a numeric reference of both, after "&#"
abbrev pub is_number_front : List ℕ → Bool
is_number_front [] = true
is_number_front (c ∷ t) = is_number_by (nat_eq c 120 || nat_eq c 88) c t

abbrev pub is_front_by : Bool → List Row → ℕ → List ℕ → Bool
is_front_by true rows h hs = is_number_front hs
is_front_by false rows h hs = is_front rows (h ∷ hs)

-- whether some text after this one makes a reference of both, after "&"
abbrev pub is_held_front : List Row → List ℕ → Bool
is_held_front rows [] = true
is_held_front rows (h ∷ hs) = is_front_by (nat_eq h 35) rows h hs

-- Whether a reference of which this is held may go on by c. Where it may not, no text after c changes what it is.
abbrev pub may_go_on : List Row → List ℕ → ℕ → Bool
may_go_on rows cs c = is_held_front rows (cs ++ c ∷ [])

-- whether "=", a letter or a digit stands at the front, or follows where nothing does
abbrev pub goes_on_before : List ℕ → Bool → Bool
goes_on_before [] follows = follows
goes_on_before (c ∷ t) follows = goes_on_at (c ∷ t)

abbrev pub is_text_before : List ℕ → List ℕ → Bool → Bool
is_text_before name after_it follows = not (ends_with nat_eq name (59 ∷ [])) && goes_on_before after_it follows

abbrev pub named_before : Bool → Option Row → List ℕ → Bool → Option Reference
named_before in_value None cs follows = None
named_before in_value (Some row) cs follows = named_by (in_value && is_text_before row.name (drop (length row.name) cs) follows) row

abbrev pub decided_by : Bool → Bool → List Row → ℕ → List ℕ → Bool → Option Reference
decided_by true in_value rows h hs follows = numbered_reference (numeric hs)
decided_by false in_value rows h hs follows = named_before in_value (longest rows (h ∷ hs)) (h ∷ hs) follows

-- the reference that was held, by whether "=", a letter or a digit follows
abbrev pub decided : Bool → List Row → List ℕ → Bool → Option Reference
decided in_value rows [] follows = None
decided in_value rows (h ∷ hs) follows = decided_by (nat_eq h 35) in_value rows h hs follows

abbrev pub resolved_by : Option Reference → List ℕ → List ℕ
resolved_by None cs = 38 ∷ cs
resolved_by (Some r) cs = r.chars ++ drop r.len cs

-- the text that "&" and what was held stand for: a reference's characters, or "&", and what is held after it
abbrev pub resolved : Bool → List Row → List ℕ → Bool → List ℕ
resolved in_value rows cs follows = resolved_by (decided in_value rows cs follows) cs

-- what a tokenizer found, as a reference
abbrev pub reference_of : Found → Reference
reference_of f = record { chars = values_of f.first f.second; len = f.len }

abbrev pub base_of : Bool → ℕ
base_of true = 16
base_of false = 10

-- whether the Standard names an error for a reference by its number: no character, a carriage return, another control or a noncharacter
abbrev pub is_faulty_number : ℕ → Bool
is_faulty_number n = is_no_character n || nat_eq n 13 || is_forbidden n

-- the same of n digits at the front of a text: also where there is none, or no ";" after them
abbrev pub is_faulty_run : ℕ → ℕ → List ℕ → Bool
is_faulty_run base n t = nat_eq n 0 || nat_eq (semicolon (drop n t)) 0 || is_faulty_number (number base (take n t))

abbrev pub is_faulty_digits : Bool → List ℕ → Bool
is_faulty_digits hex t = is_faulty_run (base_of hex) (run (stops hex) t) t

abbrev pub is_faulty_numeric_by : Bool → ℕ → List ℕ → Bool
is_faulty_numeric_by true c t = is_faulty_digits true t
is_faulty_numeric_by false c t = is_faulty_digits false (c ∷ t)

-- the same of a numeric reference, after "&#"
abbrev pub is_faulty_numeric : List ℕ → Bool
is_faulty_numeric [] = true
is_faulty_numeric (c ∷ t) = is_faulty_numeric_by (nat_eq c 120 || nat_eq c 88) c t

abbrev pub ends_in_semicolon : List ℕ → Bool
ends_in_semicolon cs = ends_with nat_eq cs (59 ∷ [])

-- the same of a named one: a name without ";" that is no text
abbrev pub is_faulty_named : Bool → Option Row → List ℕ → Bool → Bool
is_faulty_named in_value None cs follows = false
is_faulty_named in_value (Some row) cs follows =
    not (in_value && is_text_before row.name (drop (length row.name) cs) follows) && not (ends_in_semicolon row.name)

abbrev pub is_faulty_by : Bool → Bool → List Row → ℕ → List ℕ → Bool → Bool
is_faulty_by true in_value rows h hs follows = is_faulty_numeric hs
is_faulty_by false in_value rows h hs follows = is_faulty_named in_value (longest rows (h ∷ hs)) (h ∷ hs) follows

-- whether the Standard names an error for what was held after "&", by whether "=", a letter or a digit follows
abbrev pub is_faulty : Bool → List Row → List ℕ → Bool → Bool
is_faulty in_value rows [] follows = false
is_faulty in_value rows (h ∷ hs) follows = is_faulty_by (nat_eq h 35) in_value rows h hs follows

-- whether what was held, or else c after it, is or begins a name that no ";" ended, and no name of the table stands there
abbrev pub is_unknown : List Row → List ℕ → ℕ → Bool
is_unknown rows [] c = is_ascii_alphanumeric c
is_unknown rows (h ∷ hs) c = not (nat_eq h 35) && (not (ends_in_semicolon (h ∷ hs)) && is_none (longest rows (h ∷ hs)))

-- whether a reference has an error: no ";" ends it, or what it names is faulty
abbrev pub has_fault : ReferenceFaults → Bool
has_fault f = f.lacks_semicolon || is_some f.fault

-- a text is a name of the table, and this is what it stands for, with no error where it ends in ";"
pub record IsWhole (rows : List Row) (cs : List ℕ) (found : Found) : Type 0 where
  pub front : is_front rows cs ≡ true
  pub stands : (in_value : Bool) → Some (reference_of found) ≡ decided in_value rows cs false
  pub faultless : ends_in_semicolon cs ≡ true → is_faulty false rows cs false ≡ false
  pub len : found.len ≡ length cs

-- a reference that is decided before c, whatever follows
pub record IsDecided (rows : List Row) (cs : List ℕ) (c : ℕ) : Type 0 where
  pub checked : IsCheckedTable rows
  pub held : list_all is_held cs ≡ true
  pub front : is_held_front rows cs ≡ true
  pub ends : may_go_on rows cs c ≡ false

-- the states in which a reference may be held
abbrev pub may_hold : State → Bool
may_hold state.Data = true
may_hold (state.RawData Rcdata) = true
may_hold (state.AttributeValue kind) = true
may_hold _ = false

-- Some text after this one makes a reference of both, which takes all of this.
pub record BeginsReference (in_value : Bool) (rows : List Row) (cs : List ℕ) : Type 0 where
  pub more : List ℕ
  pub reference : Reference
  pub is : reference_at in_value rows (cs ++ more) ≡ Some reference
  pub whole : length cs ≤ reference.len

-- whether a reference is held in one of them, of which more may follow, or an unknown name stands there, if one of the two is so
abbrev pub fits_in : List Row → Option Ampersand → State → Bool
fits_in rows None st = true
fits_in rows (Some (Held cs)) st = is_held_front rows cs && may_hold st
fits_in rows (Some Unknown) st = may_hold st
