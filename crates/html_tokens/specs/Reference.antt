-- Character references, after their "&" (HTML Standard, sections 13.2.5.72 to 13.2.5.80).
use Rattle.std.specs.Prelude.{ℕ, zero, suc, ◌+◌, ◌-◌, ◌*◌, Bool, true, false, ◌||◌, ◌&&◌, not, nat_eq, nat_lt, nat_le, List, []}
use Rattle.std.specs.Prelude.{◌∷◌, length, take, drop, codes, Option, Some, None, if◌then◌else◌}
use Rattle.std.specs.Char.{is_ascii_digit, is_ascii_hexdigit, is_ascii_alphanumeric}
use Rattle.std.specs.List.{ends_with}
use Rattle.html_tokens.specs.Characters.{run}
use Rattle.html_tokens.specs.Table.{Row, values, longest}
use Rattle.html_tokens.specs.Fault.{Fault, Grave, Slight, slight_if}

-- what a reference stands for, and how many characters it takes after "&"
pub record Reference : Type 0 where
  pub chars : List ℕ
  pub len : ℕ

-- section 13.2.5.80: the character in place of one of 0x80 to 0x9F
abbrev pub replaced : ℕ → List (ℕ × ℕ) → ℕ
replaced n [] = n
replaced n (p ∷ ps) = if nat_eq n p.0 then p.1 else replaced n ps

abbrev pub replacements : List (ℕ × ℕ)
replacements =
    (0x80, 0x20AC) ∷ (0x82, 0x201A) ∷ (0x83, 0x0192) ∷ (0x84, 0x201E) ∷ (0x85, 0x2026) ∷ (0x86, 0x2020) ∷ (0x87, 0x2021)
    ∷ (0x88, 0x02C6) ∷ (0x89, 0x2030) ∷ (0x8A, 0x0160) ∷ (0x8B, 0x2039) ∷ (0x8C, 0x0152) ∷ (0x8E, 0x017D) ∷ (0x91, 0x2018)
    ∷ (0x92, 0x2019) ∷ (0x93, 0x201C) ∷ (0x94, 0x201D) ∷ (0x95, 0x2022) ∷ (0x96, 0x2013) ∷ (0x97, 0x2014) ∷ (0x98, 0x02DC)
    ∷ (0x99, 0x2122) ∷ (0x9A, 0x0161) ∷ (0x9B, 0x203A) ∷ (0x9C, 0x0153) ∷ (0x9E, 0x017E) ∷ (0x9F, 0x0178) ∷ []

-- 0, a surrogate, or above all characters
abbrev pub is_no_character : ℕ → Bool
is_no_character n = nat_eq n 0 || (nat_le 0xD800 n && nat_lt n 0xE000) || nat_lt 0x10FFFF n

-- the character that a number names
abbrev pub numbered : ℕ → ℕ
numbered n = if is_no_character n then 0xFFFD else replaced n replacements

-- the value of a digit, of either case
abbrev pub digit : ℕ → ℕ
digit c = if nat_lt c 65 then c - 48 else if nat_lt c 97 then c - 55 else c - 87

abbrev pub number_after : ℕ → ℕ → List ℕ → ℕ
number_after base n [] = n
number_after base n (c ∷ t) = number_after base (n * base + digit c) t

-- the number that digits write
abbrev pub number : ℕ → List ℕ → ℕ
number base digits = number_after base 0 digits

-- how many characters a ";" takes where it stands
abbrev pub semicolon : List ℕ → ℕ
semicolon [] = 0
semicolon (c ∷ t) = if nat_eq c 59 then 1 else 0

-- what a numeric reference writes, and how many characters it takes after "&"
pub record Number : Type 0 where
  pub value : ℕ
  pub len : ℕ

-- n digits after a prefix of k characters, if there is one digit at least
abbrev pub digits_at : ℕ → ℕ → ℕ → List ℕ → Option Number
digits_at k base zero t = None
digits_at k base (suc n) t = Some (record { value = number base (take (suc n) t); len = k + suc n + semicolon (drop (suc n) t) })

abbrev pub numeric_by : Bool → ℕ → List ℕ → Option Number
numeric_by true c t = digits_at 2 16 (run (λ d. not (is_ascii_hexdigit d)) t) t
numeric_by false c t = digits_at 1 10 (run (λ d. not (is_ascii_digit d)) (c ∷ t)) (c ∷ t)

-- a numeric reference, after "&#"
abbrev pub numeric : List ℕ → Option Number
numeric [] = None
numeric (c ∷ t) = numeric_by (nat_eq c 120 || nat_eq c 88) c t

-- what is wrong with a numeric reference: it is no clean text, and a fault where its number names no character
abbrev pub fault_of_number : Option Number → Fault
fault_of_number None = Slight
fault_of_number (Some n) = if is_no_character n.value then Grave else Slight

abbrev pub ends_in_semicolon : Option Row → Bool
ends_in_semicolon None = false
ends_in_semicolon (Some row) = ends_with nat_eq row.name (codes ";")

abbrev pub fault_of_reference_by : Bool → List Row → ℕ → List ℕ → Option Fault
fault_of_reference_by true rows c t = Some (fault_of_number (numeric t))
fault_of_reference_by false rows c t = slight_if (not (ends_in_semicolon (longest rows (c ∷ t))))

-- what is wrong with a "&" before this text, which is clean only with a name of the table that ends in ";"
abbrev pub fault_of_reference : List Row → List ℕ → Option Fault
fault_of_reference rows [] = Some Slight
fault_of_reference rows (c ∷ t) = fault_of_reference_by (nat_eq c 35) rows c t

abbrev pub numbered_reference : Option Number → Option Reference
numbered_reference None = None
numbered_reference (Some n) = Some (record { chars = numbered n.value ∷ []; len = n.len })

-- "=", an ASCII letter or a digit at the front
abbrev pub goes_on_at : List ℕ → Bool
goes_on_at [] = false
goes_on_at (c ∷ t) = nat_eq c 61 || is_ascii_alphanumeric c

-- whether a name in an attribute's value is text there: it has no ";" and goes on
abbrev pub is_text_in_value : List ℕ → List ℕ → Bool
is_text_in_value name after_it = not (ends_with nat_eq name (59 ∷ [])) && goes_on_at after_it

abbrev pub named_by : Bool → Row → Option Reference
named_by true row = None
named_by false row = Some (record { chars = values row; len = length row.name })

abbrev pub named_row : Bool → Option Row → List ℕ → Option Reference
named_row in_value None t = None
named_row in_value (Some row) t = named_by (in_value && is_text_in_value row.name (drop (length row.name) t)) row

abbrev pub reference_by : Bool → Bool → List Row → ℕ → List ℕ → Option Reference
reference_by true in_value rows c t = numbered_reference (numeric t)
reference_by false in_value rows c t = named_row in_value (longest rows (c ∷ t)) (c ∷ t)

-- the reference after "&", in an attribute's value or in text; none where "&" is text
abbrev pub reference_at : Bool → List Row → List ℕ → Option Reference
reference_at in_value rows [] = None
reference_at in_value rows (c ∷ t) = reference_by (nat_eq c 35) in_value rows c t
