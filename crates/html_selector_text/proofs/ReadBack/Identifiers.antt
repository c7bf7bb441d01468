-- Identifiers that are written are read as the same names.
use Rattle.std.proofs.Common.{◌≡◌, ◌∙◌, ℕ, zero, suc, ◌+◌, ◌*◌, ◌-◌, ◌<◌, ◌≤◌, ◌/◌, ◌%◌, Bool, true, false, cond, not, ◌||◌}
use Rattle.std.proofs.Common.{List, [], ◌∷◌, ◌++◌, length, drop, refl, sym, ap, subst, arith, append_assoc, inl, inr}
use Rattle.std.proofs.lemmas.List.{append-nil, length-append}
use Rattle.std.proofs.lemmas.List.Concat.{flat_map-cons}
use Rattle.std.specs.Prelude.{◌≢◌, ◌⊎◌, ◌==◌, min, nat_lt, nat_le, slice_index, flat_map}
use Rattle.std.specs.Char.{is_ascii_hexdigit, is_ascii_digit, is_ascii_alphanumeric, digit_value}
use Rattle.std.proofs.lemmas.Bool.{ne_eqb, eqb-true, cases_lt, le-ltb}
use Rattle.std.proofs.lemmas.Bool.Decides.{nat_tests, Decides-ltb}
use Rattle.html_selector_text.specs.Characters.{is_in_name, at_escape}
use Rattle.html_selector_text.specs.Scanning.{hex, escaped, code_point, name, name_steps}
use Rattle.html_selector_text.specs.Written.{hex_digit, as_code_point, is_control, later_character, digit_or_later}
use Rattle.html_selector_text.specs.Written.{behind_hyphen, identifier, NoZero, EndsName}

-- HEXADECIMAL DIGITS

is_hex : (n : ℕ) → n < 16 → is_ascii_hexdigit (hex_digit n) ≡ true
is_hex n less = grind (arith, nat_tests)

hex_value : (n : ℕ) → n < 16 → digit_value (hex_digit n) ≡ n
hex_value n less = grind (arith, nat_tests)

small_point : (v : ℕ) → 0 < v → v < 128 → code_point v ≡ v
small_point v some small = grind (arith, nat_tests)

capped : (v : ℕ) → v < 128 → min v 0x110000 ≡ v
capped v small = grind (arith, nat_tests)

-- an escape of one digit, or of two, with the white space that ends it
one_digit : (h v : ℕ) (rest : List ℕ) → is_ascii_hexdigit h ≡ true → digit_value h ≡ v → 0 < v → v < 16
    → escaped (h ∷ 32 ∷ rest) ≡ record { value = v; rest = rest }
unfolding escaped hex
one_digit h v rest is value some small =
    let sum : min (0 * 16 + v) 0x110000 ≡ v = grind (arith, nat_tests) in
    rw (is, value, sum, small_point v some (omega arith)) refl

two_digits : (h l a b : ℕ) (rest : List ℕ) → is_ascii_hexdigit h ≡ true → is_ascii_hexdigit l ≡ true → digit_value h ≡ a
    → digit_value l ≡ b → 0 < a → a < 8 → b < 16 → escaped (h ∷ l ∷ 32 ∷ rest) ≡ record { value = a * 16 + b; rest = rest }
unfolding escaped hex
two_digits h l a b rest is also value other some small less =
    let sum : min (0 * 16 + a) 0x110000 ≡ a = grind (arith, nat_tests) in
    let all : min (a * 16 + b) 0x110000 ≡ a * 16 + b = grind (arith, nat_tests) in
    rw (is, also, value, other, sum, all, small_point (a * 16 + b) (omega arith) (omega arith)) refl

-- a character that is escaped as a code point
pub code_point_read : (c : ℕ) (rest : List ℕ) → 0 < c → c < 128
    → escaped (drop 1 (as_code_point c ++ rest)) ≡ record { value = c; rest = rest }
code_point_read c rest some small = elim (cases_lt c 16) [
  | inl less ↦ rw ((Decides-ltb c 16).1 less) (one_digit (hex_digit c) c rest (is_hex c less) (hex_value c less) some less)
  | inr more ↦
      let high : c / 16 < 16 = omega arith in
      let low : c % 16 < 16 = omega arith in
      let whole : (c / 16) * 16 + c % 16 ≡ c = omega arith in
      rw (le-ltb c 16 more) (two_digits (hex_digit (c / 16)) (hex_digit (c % 16)) (c / 16) (c % 16) rest
      (is_hex (c / 16) high) (is_hex (c % 16) low) (hex_value (c / 16) high) (hex_value (c % 16) low) (omega arith) (omega arith) low
      ∙ ap (λ (v : ℕ). record { value = v; rest = rest }) whole)
]

hex_line : (n : ℕ) → n < 16 → hex_digit n ≢ 10
hex_line n less = grind (arith, nat_tests)

pub code_line : (c : ℕ) (rest : List ℕ) → c < 128 → slice_index (drop 1 (as_code_point c ++ rest)) 0 ≢ 10
code_line c rest small = elim (cases_lt c 16) [
  | inl less ↦ rw ((Decides-ltb c 16).1 less) (hex_line c less)
  | inr more ↦ rw (le-ltb c 16 more) (hex_line (c / 16) (omega arith))
]

pub either : (b : Bool) → (b ≡ true) ⊎ (b ≡ false)
either true = inl refl
either false = inr refl

-- an escape goes on behind its backslash
pub rest_long : (c : ℕ) (rest : List ℕ) → 1 ≤ length (drop 1 (as_code_point c ++ rest))
rest_long c rest = elim (either (nat_lt c 16)) [ inl is ↦ rw is (omega arith) | inr is ↦ rw is (omega arith) ]

-- ONE CHARACTER

step_plain : (m : ℕ) (so_far tail : List ℕ) (c : ℕ) → is_in_name c ≡ true
    → name_steps (suc m) so_far (c ∷ tail) ≡ name_steps m (so_far ++ c ∷ []) tail
step_plain m so_far tail c is =
    let some : (length (c ∷ tail) == 0) ≡ false = ne_eqb _ _ (omega arith) in
    rw (some, is) refl

step_escape : (m : ℕ) (so_far others tail : List ℕ) (c : ℕ) → slice_index others 0 ≢ 10 → escaped others ≡ record { value = c; rest = tail }
    → name_steps (suc m) so_far (92 ∷ others) ≡ name_steps m (so_far ++ c ∷ []) tail
unfolding at_escape
step_escape m so_far others tail c line is =
    let some : (length (92 ∷ others) == 0) ≡ false = ne_eqb _ _ (omega arith) in
    rw (some, ne_eqb _ _ line, is) refl

-- what the tests of a character tell
pub control_small : (c : ℕ) → is_control c ≡ true → c < 128
control_small c is = grind (arith, nat_tests)

pub no_line : (c : ℕ) → is_control c ≡ false → c ≢ 10
no_line c is = grind (arith, nat_tests)

abbrev is_plain : ℕ → Bool
is_plain c = (nat_le 128 c || is_ascii_alphanumeric c) || ((c == 45) || (c == 95))

plain_in_name : (c : ℕ) → is_plain c ≡ true → is_in_name c ≡ true
plain_in_name c is = grind (arith, nat_tests)

plain_hex : (c : ℕ) → is_plain c ≡ false → is_ascii_hexdigit c ≡ false
plain_hex c is = grind (arith, nat_tests)

digit_small : (c : ℕ) → is_ascii_digit c ≡ true → (0 < c) × (c < 128)
digit_small c is = grind (arith, nat_tests)

pub itself : (c : ℕ) (rest : List ℕ) → is_ascii_hexdigit c ≡ false → escaped (c ∷ rest) ≡ record { value = c; rest = rest }
unfolding escaped
itself c rest is = rw is refl

-- a character that is escaped as a code point is one step
step_code : (m : ℕ) (so_far tail : List ℕ) (c : ℕ) → 0 < c → c < 128
    → name_steps (suc m) so_far (as_code_point c ++ tail) ≡ name_steps m (so_far ++ c ∷ []) tail
step_code m so_far tail c some small =
    step_escape m so_far (drop 1 (as_code_point c ++ tail)) tail c (code_line c tail small) (code_point_read c tail some small)

-- and so is each character that is not at the beginning
later_step : (m : ℕ) (so_far tail : List ℕ) (c : ℕ) → c ≢ 0
    → name_steps (suc m) so_far (later_character c ++ tail) ≡ name_steps m (so_far ++ c ∷ []) tail
later_step m so_far tail c some =
    let zero_not : (c == 0) ≡ false = ne_eqb _ _ some in
    elim (either (is_control c)) [
      | inl is ↦ rw (zero_not, is) (step_code m so_far tail c (omega arith) (control_small c is))
      | inr not_control ↦ elim (either (is_plain c)) [
        | inl is ↦ rw (zero_not, not_control, is) (step_plain m so_far tail c (plain_in_name c is))
        | inr not_plain ↦ rw (zero_not, not_control, not_plain)
            (step_escape m so_far (c ∷ tail) tail c (no_line c not_control) (itself c tail (plain_hex c not_plain)))
      ]
    ]

not_chosen : (b : Bool) (x y : List ℕ) → b ≡ false → cond b x y ≡ y
not_chosen b x y is = rw is refl

digit_step : (m : ℕ) (so_far tail : List ℕ) (c : ℕ) → c ≢ 0
    → name_steps (suc m) so_far (digit_or_later c ++ tail) ≡ name_steps m (so_far ++ c ∷ []) tail
digit_step m so_far tail c some = elim (either (is_ascii_digit c)) [
  | inl is ↦ rw is (step_code m so_far tail c (digit_small c is).0 (digit_small c is).1)
  | inr not_digit ↦ ap (λ (t : List ℕ). name_steps (suc m) so_far (t ++ tail))
      (not_chosen _ (as_code_point c) (later_character c) not_digit)
      ∙ later_step m so_far tail c some
]

-- NAMES

pub code_long : (c : ℕ) → 1 ≤ length (as_code_point c)
code_long c = omega arith

later_long : (c : ℕ) → 1 ≤ length (later_character c)
later_long c = elim (either (c == 0)) [
  | inl is ↦ rw is (omega arith)
  | inr some ↦ elim (either (is_control c)) [
    | inl is ↦ rw (some, is) (code_long c)
    | inr not_control ↦ elim (either (is_plain c)) [
      | inl is ↦ rw (some, not_control, is) (omega arith)
      | inr not_plain ↦ rw (some, not_control, not_plain) (omega arith)
    ]
  ]
]

digit_long : (c : ℕ) → 1 ≤ length (digit_or_later c)
digit_long c = elim (either (is_ascii_digit c)) [
  | inl is ↦ rw is (code_long c)
  | inr not_digit ↦
      let long : List ℕ → Type 0 = λ t. 1 ≤ length t in
      subst long (sym (not_chosen _ (as_code_point c) (later_character c) not_digit)) (later_long c)
]

-- where a name ends
name_end : (n : ℕ) (so_far rest : List ℕ) → EndsName rest → name_steps n so_far rest ≡ record { text = so_far; rest = rest }
name_end zero so_far rest ends = refl
name_end (suc n) so_far rest ends = elim (either (not (length rest == 0))) [
  | inl is ↦ rw (is, ends.character, ends.escape) refl
  | inr is ↦ rw (is, ends.escape) refl
]

-- the rest of a name
later_read : (cs rest so_far : List ℕ) (n : ℕ) → NoZero cs → EndsName rest → length (flat_map later_character cs ++ rest) ≤ n
    → name_steps n so_far (flat_map later_character cs ++ rest) ≡ record { text = so_far ++ cs; rest = rest }
later_read [] rest so_far n some ends long =
    name_end n so_far rest ends ∙ ap (λ (t : List ℕ). record { text = t; rest = rest }) (sym (append-nil so_far))
later_read (c ∷ cs) rest so_far n some ends long =
    let all : flat_map later_character (c ∷ cs) ++ rest ≡ later_character c ++ (flat_map later_character cs ++ rest) =
    ap (λ (t : List ℕ). t ++ rest) (flat_map-cons later_character c cs)
    ∙ append_assoc (later_character c) (flat_map later_character cs) rest in
    let lengths : length (flat_map later_character (c ∷ cs) ++ rest)
    ≡ length (later_character c) + length (flat_map later_character cs ++ rest) =
    ap length all ∙ length-append (later_character c) (flat_map later_character cs ++ rest) in
    let one : n ≡ suc (n - 1) = omega (arith, later_long c) in
    let left : length (flat_map later_character cs ++ rest) ≤ n - 1 = omega (arith, later_long c) in
    rw (all, one) (later_step (n - 1) so_far (flat_map later_character cs ++ rest) c some.0
    ∙ (later_read cs rest (so_far ++ c ∷ []) (n - 1) some.1 ends left
    ∙ ap (λ (t : List ℕ). record { text = t; rest = rest }) (append_assoc so_far (c ∷ []) cs)))

-- a name whose first character is no digit
behind_read : (c : ℕ) (cs rest so_far : List ℕ) (n : ℕ) → NoZero (c ∷ cs) → EndsName rest
    → length ((digit_or_later c ++ flat_map later_character cs) ++ rest) ≤ n
    → name_steps n so_far ((digit_or_later c ++ flat_map later_character cs) ++ rest) ≡ record { text = so_far ++ c ∷ cs; rest = rest }
behind_read c cs rest so_far n some ends long =
    let all = append_assoc (digit_or_later c) (flat_map later_character cs) rest in
    let lengths : length ((digit_or_later c ++ flat_map later_character cs) ++ rest)
    ≡ length (digit_or_later c) + length (flat_map later_character cs ++ rest) =
    ap length all ∙ length-append (digit_or_later c) (flat_map later_character cs ++ rest) in
    let one : n ≡ suc (n - 1) = omega (arith, digit_long c) in
    let left : length (flat_map later_character cs ++ rest) ≤ n - 1 = omega (arith, digit_long c) in
    rw (all, one) (digit_step (n - 1) so_far (flat_map later_character cs ++ rest) c some.0
    ∙ (later_read cs rest (so_far ++ c ∷ []) (n - 1) some.1 ends left
    ∙ ap (λ (t : List ℕ). record { text = t; rest = rest }) (append_assoc so_far (c ∷ []) cs)))

hyphen_read : (cs rest : List ℕ) → NoZero cs → EndsName rest → name (identifier (45 ∷ cs) ++ rest) ≡ record { text = 45 ∷ cs; rest = rest }
unfolding name identifier
hyphen_read [] rest some ends =
    let line : slice_index (45 ∷ rest) 0 ≢ 10 = omega arith in
    step_escape (suc (length rest)) [] (45 ∷ rest) rest 45 line (itself 45 rest refl)
    ∙ name_end (suc (length rest)) (45 ∷ []) rest ends
hyphen_read (d ∷ ds) rest some ends =
    let tail = (digit_or_later d ++ flat_map later_character ds) ++ rest in
    let more : (length (d ∷ ds) == 0) ≡ false = ne_eqb _ _ (omega arith) in
    ap (λ (t : List ℕ). name_steps (length (t ++ rest)) [] (t ++ rest)) (not_chosen _ (92 ∷ 45 ∷ []) (45 ∷ behind_hyphen (d ∷ ds)) more)
    ∙ (step_plain (length tail) [] tail 45 refl ∙ behind_read d ds rest (45 ∷ []) (length tail) some ends (omega arith))

-- an identifier that is written is read as the same name
pub identifier_read : (cs rest : List ℕ) → NoZero cs → EndsName rest → name (identifier cs ++ rest) ≡ record { text = cs; rest = rest }
unfolding name identifier
identifier_read [] rest some ends = name_end (length rest) [] rest ends
identifier_read (c ∷ cs) rest some ends = elim (either (c == 45)) [
  | inl is ↦
      let whole : ℕ → Type 0 = λ c. name (identifier (c ∷ cs) ++ rest) ≡ record { text = c ∷ cs; rest = rest } in
      subst whole (sym (eqb-true _ _ is)) (hyphen_read cs rest some.1 ends)
  | inr other ↦ ap (λ (t : List ℕ). name_steps (length (t ++ rest)) [] (t ++ rest)) (not_chosen _ _ _ other)
      ∙ behind_read c cs rest [] (length ((digit_or_later c ++ flat_map later_character cs) ++ rest)) some ends (omega arith)
]
