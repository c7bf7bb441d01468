-- Strings that are written are read as the same characters.
use Rattle.std.proofs.Common.{◌≡◌, ◌∙◌, ℕ, suc, ◌+◌, ◌-◌, ◌≤◌, Bool, true, false, ◌||◌}
use Rattle.std.proofs.Common.{List, [], ◌∷◌, ◌++◌, length, drop, refl, sym, ap, arith, append_assoc, inl, inr}
use Rattle.std.proofs.lemmas.List.{append-nil, length-append}
use Rattle.std.proofs.lemmas.List.Concat.{flat_map-cons}
use Rattle.std.specs.Prelude.{◌≢◌, ◌==◌, nat_le, slice_index, flat_map}
use Rattle.std.specs.Char.{is_ascii_hexdigit}
use Rattle.std.proofs.lemmas.Bool.{ne_eqb}
use Rattle.std.proofs.lemmas.Bool.Decides.{nat_tests}
use Rattle.html_selector_text.specs.declared.tokens.TokenKind.TheVariants.{Str}
use Rattle.html_selector_text.specs.Scanning.{read, escaped, string_steps, string, token}
use Rattle.html_selector_text.specs.Written.{as_code_point, is_control, string_character, quoted, NoZero}
use Rattle.html_selector_text.proofs.ReadBack.Identifiers.{code_point_read, code_line, code_long, control_small, no_line, itself, either}
use Rattle.html_selector_text.proofs.ReadBack.Identifiers.{rest_long}

step_escape : (m : ℕ) (so_far others tail : List ℕ) (c : ℕ) → 1 ≤ length others → slice_index others 0 ≢ 10
    → escaped others ≡ record { value = c; rest = tail }
    → string_steps 34 (suc m) so_far (92 ∷ others) ≡ string_steps 34 m (so_far ++ c ∷ []) tail
step_escape m so_far others tail c long line is =
    let some : (length (92 ∷ others) == 0) ≡ false = ne_eqb _ _ (omega arith) in
    let two : nat_le (length (92 ∷ others)) 1 ≡ false = grind (arith, nat_tests) in
    rw (some, two, ne_eqb _ _ line, is) refl

step_plain : (m : ℕ) (so_far tail : List ℕ) (c : ℕ) → c ≢ 34 → c ≢ 92 → c ≢ 10
    → string_steps 34 (suc m) so_far (c ∷ tail) ≡ string_steps 34 m (so_far ++ c ∷ []) tail
step_plain m so_far tail c quote escape line =
    let some : (length (c ∷ tail) == 0) ≡ false = ne_eqb _ _ (omega arith) in
    rw (some, ne_eqb _ _ quote, ne_eqb _ _ line, ne_eqb _ _ escape) refl

-- what the tests of a character tell
abbrev is_special : ℕ → Bool
is_special c = (c == 34) || (c == 92)

special_hex : (c : ℕ) → is_special c ≡ true → is_ascii_hexdigit c ≡ false
special_hex c is = grind (arith, nat_tests)

no_quote : (c : ℕ) → is_special c ≡ false → c ≢ 34
no_quote c is = grind (arith, nat_tests)

no_escape : (c : ℕ) → is_special c ≡ false → c ≢ 92
no_escape c is = grind (arith, nat_tests)

-- each character is one step
step : (m : ℕ) (so_far tail : List ℕ) (c : ℕ) → c ≢ 0
    → string_steps 34 (suc m) so_far (string_character c ++ tail) ≡ string_steps 34 m (so_far ++ c ∷ []) tail
step m so_far tail c some =
    let zero_not : (c == 0) ≡ false = ne_eqb _ _ some in
    elim (either (is_control c)) [
      | inl is ↦
          let long : 1 ≤ length (drop 1 (as_code_point c ++ tail)) = rest_long c tail in
          rw (zero_not, is) (step_escape m so_far (drop 1 (as_code_point c ++ tail)) tail c long
          (code_line c tail (control_small c is)) (code_point_read c tail (omega arith) (control_small c is)))
      | inr not_control ↦ elim (either (is_special c)) [
        | inl is ↦ rw (zero_not, not_control, is)
            (step_escape m so_far (c ∷ tail) tail c (omega arith) (no_line c not_control) (itself c tail (special_hex c is)))
        | inr plain ↦ rw (zero_not, not_control, plain)
            (step_plain m so_far tail c (no_quote c plain) (no_escape c plain) (no_line c not_control))
      ]
    ]

character_long : (c : ℕ) → 1 ≤ length (string_character c)
character_long c = elim (either (c == 0)) [
  | inl is ↦ rw is (omega arith)
  | inr some ↦ elim (either (is_control c)) [
    | inl is ↦ rw (some, is) (code_long c)
    | inr not_control ↦ elim (either (is_special c)) [
      | inl is ↦ rw (some, not_control, is) (omega arith)
      | inr plain ↦ rw (some, not_control, plain) (omega arith)
    ]
  ]
]

-- up to the closing quote
characters_read : (cs rest so_far : List ℕ) (n : ℕ) → NoZero cs → length (flat_map string_character cs ++ 34 ∷ rest) ≤ n
    → string_steps 34 n so_far (flat_map string_character cs ++ 34 ∷ rest) ≡ read (Str (so_far ++ cs)) rest
characters_read [] rest so_far n some long =
    let one : n ≡ suc (n - 1) = omega arith in
    let more : (length (34 ∷ rest) == 0) ≡ false = ne_eqb _ _ (omega arith) in
    rw one (rw more (ap (λ (t : List ℕ). read (Str t) rest) (sym (append-nil so_far))))
characters_read (c ∷ cs) rest so_far n some long =
    let all : flat_map string_character (c ∷ cs) ++ 34 ∷ rest ≡ string_character c ++ (flat_map string_character cs ++ 34 ∷ rest) =
    ap (λ (t : List ℕ). t ++ 34 ∷ rest) (flat_map-cons string_character c cs)
    ∙ append_assoc (string_character c) (flat_map string_character cs) (34 ∷ rest) in
    let lengths : length (flat_map string_character (c ∷ cs) ++ 34 ∷ rest)
    ≡ length (string_character c) + length (flat_map string_character cs ++ 34 ∷ rest) =
    ap length all ∙ length-append (string_character c) (flat_map string_character cs ++ 34 ∷ rest) in
    let one : n ≡ suc (n - 1) = omega (arith, character_long c) in
    let left : length (flat_map string_character cs ++ 34 ∷ rest) ≤ n - 1 = omega (arith, character_long c) in
    rw (all, one) (step (n - 1) so_far (flat_map string_character cs ++ 34 ∷ rest) c some.0
    ∙ (characters_read cs rest (so_far ++ c ∷ []) (n - 1) some.1 left
    ∙ ap (λ (t : List ℕ). read (Str t) rest) (append_assoc so_far (c ∷ []) cs)))

-- a string that is written is one token, of the same characters
pub string_read : (cs rest : List ℕ) → NoZero cs → token (quoted cs ++ rest) ≡ read (Str cs) rest
unfolding token quoted string
string_read cs rest some =
    let all : ((34 ∷ []) ++ flat_map string_character cs ++ 34 ∷ []) ++ rest ≡ 34 ∷ (flat_map string_character cs ++ 34 ∷ rest) =
    append_assoc ((34 ∷ []) ++ flat_map string_character cs) (34 ∷ []) rest in
    ap token all ∙ characters_read cs rest [] (length (flat_map string_character cs ++ 34 ∷ rest)) some (omega arith)
