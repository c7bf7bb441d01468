-- The tokens of identifiers, strings and white space that are written.
use Rattle.std.proofs.Common.{◌≡◌, ◌∙◌, ℕ, ◌-◌, ◌<◌, Bool, true, false, cond, not, ◌&&◌, ◌||◌}
use Rattle.std.proofs.Common.{List, [], ◌∷◌, ◌++◌, length, drop, refl, sym, ap, subst, arith, append_assoc, inl, inr}
use Rattle.std.specs.Prelude.{◌==◌, ◌≢◌, slice_index, flat_map, nat_le}
use Rattle.std.specs.Char.{is_ascii_alphanumeric, is_ascii_digit}
use Rattle.std.proofs.lemmas.Bool.{cases_Bool, cond-false, ne_eqb, eqb-true}
use Rattle.std.proofs.lemmas.Bool.Decides.{nat_tests}
use Rattle.std.proofs.lemmas.List.Concat.{flat_map-cons}
use Rattle.html_selector_text.specs.declared.tokens.TokenKind.TheVariants.{Ident, Hash, Str, Space}
use Rattle.html_selector_text.specs.Characters.{begins_name, is_in_name, is_whitespace, at_escape, at_name, at_number}
use Rattle.html_selector_text.specs.Scanning.{read, name, past_whitespace, placed, ident_like_of, ident_like, hash_of, token}
use Rattle.html_selector_text.specs.Written.{as_code_point, is_control, later_character, digit_or_later, behind_hyphen, identifier, quoted}
use Rattle.html_selector_text.specs.Written.{NoZero, EndsName}
use Rattle.html_selector_text.specs.Readable.{IsName}
use Rattle.html_selector_text.proofs.ReadBack.Identifiers.{identifier_read, code_line, control_small, no_line}
use Rattle.html_selector_text.proofs.ReadBack.Strings.{string_read}
use Rattle.html_selector_text.proofs.ReadBack.Lexing.{tokens_of, token_first}

-- WHAT MAY FOLLOW AN IDENTIFIER

abbrev ends_at : ℕ → Bool
ends_at c = not (is_in_name c) && not (((c == 92) || (c == 40)) || (c == 62))

abbrev pub ends_ident : List ℕ → Bool
ends_ident [] = true
ends_ident (c ∷ rest) = ends_at c

at_no_name : (c : ℕ) → ends_at c ≡ true → is_in_name c ≡ false
at_no_name c h = grind (arith, nat_tests)

at_no_escape : (c : ℕ) → ends_at c ≡ true → (c == 92) ≡ false
at_no_escape c h = grind (arith, nat_tests)

at_no_open : (c : ℕ) → ends_at c ≡ true → (c == 40) ≡ false
at_no_open c h = grind (arith, nat_tests)

at_no_arrow : (c : ℕ) → ends_at c ≡ true → (62 == c) ≡ false
at_no_arrow c h = grind (arith, nat_tests)

pub ends_name : (rest : List ℕ) → ends_ident rest ≡ true → EndsName rest
unfolding at_escape
ends_name [] h = record { character = refl; escape = refl }
ends_name (c ∷ rest) h = record { character = at_no_name c h; escape = rw (at_no_escape c h) refl }

pub no_open : (rest : List ℕ) → ends_ident rest ≡ true → (slice_index rest 0 == 40) ≡ false
no_open [] h = refl
no_open (c ∷ rest) h = at_no_open c h

pub no_arrow : (rest : List ℕ) → ends_ident rest ≡ true → (62 == slice_index rest 0) ≡ false
no_arrow [] h = refl
no_arrow (c ∷ rest) h = at_no_arrow c h

-- HOW AN IDENTIFIER BEGINS

pub record Starts (chars : List ℕ) : Type 0 where
  pub head : ℕ
  pub tail : List ℕ
  pub is : chars ≡ head ∷ tail
  pub ident : token (head ∷ tail) ≡ ident_like (head ∷ tail)
  pub name : at_name (head ∷ tail) ≡ true
  pub hash : (is_in_name head || at_escape (head ∷ tail)) ≡ true
  pub digit : is_ascii_digit head ≡ false
  pub white : is_whitespace head ≡ false
  pub comment : (head == 47) ≡ false

-- tests of a character that a name begins with
abbrev plain_tests : ℕ → Bool
plain_tests c = (((not (is_whitespace c) && not ((c == 34) || (c == 39))) && (not (c == 35) && not (c == 64)))
    && ((not (60 == c) && not (c == 45)) && (not (c == 43) && not (c == 46)))) && (not (is_ascii_digit c) && not (c == 47))

is_plain : (c : ℕ) → begins_name c ≡ true → plain_tests c ≡ true
is_plain c h = grind (arith, nat_tests)

t_white : (c : ℕ) → plain_tests c ≡ true → is_whitespace c ≡ false
t_white c h = grind (arith, nat_tests)

t_quote : (c : ℕ) → plain_tests c ≡ true → ((c == 34) || (c == 39)) ≡ false
t_quote c h = grind (arith, nat_tests)

t_hash : (c : ℕ) → plain_tests c ≡ true → (c == 35) ≡ false
t_hash c h = grind (arith, nat_tests)

t_at : (c : ℕ) → plain_tests c ≡ true → (c == 64) ≡ false
t_at c h = grind (arith, nat_tests)

t_less : (c : ℕ) → plain_tests c ≡ true → (60 == c) ≡ false
t_less c h = grind (arith, nat_tests)

t_hyphen : (c : ℕ) → plain_tests c ≡ true → (c == 45) ≡ false
t_hyphen c h = grind (arith, nat_tests)

t_arrow : (c : ℕ) → plain_tests c ≡ true → (45 == c) ≡ false
t_arrow c h = grind (arith, nat_tests)

t_plus : (c : ℕ) → plain_tests c ≡ true → (c == 43) ≡ false
t_plus c h = grind (arith, nat_tests)

t_dot : (c : ℕ) → plain_tests c ≡ true → (c == 46) ≡ false
t_dot c h = grind (arith, nat_tests)

t_digit : (c : ℕ) → plain_tests c ≡ true → is_ascii_digit c ≡ false
t_digit c h = grind (arith, nat_tests)

t_slash : (c : ℕ) → plain_tests c ≡ true → (c == 47) ≡ false
t_slash c h = grind (arith, nat_tests)

plain_start : (c : ℕ) (tail : List ℕ) → begins_name c ≡ true → Starts (c ∷ tail)
unfolding token at_name at_number
plain_start c tail begins =
    let h = is_plain c begins in
    record {
      head = c;
      tail = tail;
      is = refl;
      ident = simp (
        t_white c h,
        t_quote c h,
        t_hash c h,
        t_at c h,
        t_less c h,
        t_arrow c h,
        t_hyphen c h,
        t_plus c h,
        t_dot c h,
        t_digit
            c h,
        begins,
      ) refl;
      name = rw (t_hyphen c h, begins) refl;
      hash = rw begins refl;
      digit = t_digit c h;
      white = t_white c h;
      comment = t_slash c h;
    }

escape_start : (others : List ℕ) → slice_index others 0 ≢ 10 → Starts (92 ∷ others)
unfolding token at_name at_number at_escape
escape_start others line =
    let n : (slice_index others 0 == 10) ≡ false = ne_eqb _ _ line in
    record {
      head = 92;
      tail = others;
      is = refl;
      ident = rw n refl;
      name = rw n refl;
      hash = rw n refl;
      digit = refl;
      white = refl;
      comment = refl;
    }

-- a hyphen and a backslash
hyphen_escape : (others : List ℕ) → slice_index others 0 ≢ 10 → Starts (45 ∷ 92 ∷ others)
unfolding token at_name at_number at_escape
hyphen_escape others line =
    let n : (slice_index others 0 == 10) ≡ false = ne_eqb _ _ line in
    record {
      head = 45;
      tail = 92 ∷ others;
      is = refl;
      ident = rw n refl;
      name = rw n refl;
      hash = refl;
      digit = refl;
      white = refl;
      comment = refl;
    }

two_hyphens : (tail : List ℕ) → (62 == slice_index tail 0) ≡ false → Starts (45 ∷ 45 ∷ tail)
unfolding token at_name at_number
two_hyphens [] arrow = record {
  head = 45;
  tail = 45 ∷ [];
  is = refl;
  ident = refl;
  name = refl;
  hash = refl;
  digit = refl;
  white = refl;
  comment = refl;
}
two_hyphens (f ∷ tail) arrow = record {
  head = 45;
  tail = 45 ∷ f ∷ tail;
  is = refl;
  ident = rw arrow refl;
  name = refl;
  hash = refl;
  digit = refl;
  white = refl;
  comment = refl;
}

hyphen_plain : (e : ℕ) (tail : List ℕ) → begins_name e ≡ true → Starts (45 ∷ e ∷ tail)
unfolding token at_name at_number
hyphen_plain e tail begins =
    let h = is_plain e begins in
    record {
      head = 45;
      tail = e ∷ tail;
      is = refl;
      ident = simp (t_arrow e h, t_hyphen e h, t_digit e h, t_dot e h, begins) refl;
      name = rw begins refl;
      hash = refl;
      digit = refl;
      white = refl;
      comment = refl;
    }

-- the second character that is written, or one behind a hyphen, is no `>`
no_such : (c : ℕ) → ((nat_le 128 c || is_ascii_alphanumeric c) || ((c == 45) || (c == 95))) ≡ true → (62 == c) ≡ false
no_such c is = grind (arith, nat_tests)

later_arrow : (c : ℕ) (tail : List ℕ) → (62 == slice_index (later_character c ++ tail) 0) ≡ false
later_arrow c tail = elim (cases_Bool (c == 0)) [
  | inl is ↦ rw is refl
  | inr some ↦ elim (cases_Bool (is_control c)) [
    | inl is ↦ rw (some, is) refl
    | inr control ↦ elim (cases_Bool ((nat_le 128 c || is_ascii_alphanumeric c) || ((c == 45) || (c == 95)))) [
      | inl is ↦ rw (some, control, is) (no_such c is)
      | inr is ↦ rw (some, control, is) refl
    ]
  ]
]

later_arrows : (cs rest : List ℕ) → (62 == slice_index rest 0) ≡ false
    → (62 == slice_index (flat_map later_character cs ++ rest) 0) ≡ false
later_arrows [] rest arrow = arrow
later_arrows (c ∷ cs) rest arrow =
    let all : flat_map later_character (c ∷ cs) ++ rest ≡ later_character c ++ (flat_map later_character cs ++ rest) =
    ap (λ (t : List ℕ). t ++ rest) (flat_map-cons later_character c cs)
    ∙ append_assoc (later_character c) (flat_map later_character cs) rest in
    rw all (later_arrow c (flat_map later_character cs ++ rest))

code_start : (c : ℕ) (tail : List ℕ) → c < 128 → Starts (as_code_point c ++ tail)
code_start c tail small = escape_start (drop 1 (as_code_point c ++ tail)) (code_line c tail small)

hyphen_code : (c : ℕ) (tail : List ℕ) → c < 128 → Starts (45 ∷ (as_code_point c ++ tail))
hyphen_code c tail small = hyphen_escape (drop 1 (as_code_point c ++ tail)) (code_line c tail small)

-- what the tests of a character tell
digit_small : (c : ℕ) → is_ascii_digit c ≡ true → c < 128
digit_small c is = grind (arith, nat_tests)

plain_begins : (c : ℕ) → ((nat_le 128 c || is_ascii_alphanumeric c) || ((c == 45) || (c == 95))) ≡ true → is_ascii_digit c ≡ false
    → (c == 45) ≡ false → begins_name c ≡ true
plain_begins c is digit hyphen = grind (arith, nat_tests)

-- a character that is no digit, and no hyphen
plain_or_escape : (c : ℕ) (tail : List ℕ) → c ≢ 0 → is_ascii_digit c ≡ false → (c == 45) ≡ false → Starts (later_character c ++ tail)
plain_or_escape c tail some digit hyphen =
    let zero_not : (c == 0) ≡ false = ne_eqb _ _ some in
    elim (cases_Bool (is_control c)) [
      | inl is ↦ rw (zero_not, is) (code_start c tail (control_small c is))
      | inr control ↦ elim (cases_Bool ((nat_le 128 c || is_ascii_alphanumeric c) || ((c == 45) || (c == 95)))) [
        | inl is ↦ rw (zero_not, control, is) (plain_start c tail (plain_begins c is digit hyphen))
        | inr is ↦ rw (zero_not, control, is) (escape_start (c ∷ tail) (no_line c control))
      ]
    ]

-- the first character, which is no hyphen
first_start : (c : ℕ) (tail : List ℕ) → c ≢ 0 → (c == 45) ≡ false → Starts (digit_or_later c ++ tail)
first_start c tail some hyphen = elim (cases_Bool (is_ascii_digit c)) [
  | inl is ↦ rw is (code_start c tail (digit_small c is))
  | inr digit ↦ subst (λ (x : List ℕ). Starts (x ++ tail))
      (sym (cond-false (is_ascii_digit c) (as_code_point c) (later_character c) digit)) (plain_or_escape c tail some digit hyphen)
]

behind_start : (c : ℕ) (tail : List ℕ) → c ≢ 0 → is_ascii_digit c ≡ false → (62 == slice_index tail 0) ≡ false
    → Starts (45 ∷ (later_character c ++ tail))
behind_start c tail some digit arrow =
    let zero_not : (c == 0) ≡ false = ne_eqb _ _ some in
    elim (cases_Bool (is_control c)) [
      | inl is ↦ rw (zero_not, is) (hyphen_code c tail (control_small c is))
      | inr control ↦ elim (cases_Bool ((nat_le 128 c || is_ascii_alphanumeric c) || ((c == 45) || (c == 95)))) [
        | inl is ↦ elim (cases_Bool (c == 45)) [
          | inl same ↦ subst (λ (x : ℕ). Starts (45 ∷ (later_character x ++ tail))) (sym (eqb-true _ _ same)) (two_hyphens tail arrow)
          | inr hyphen ↦ rw (zero_not, control, is) (hyphen_plain c tail (plain_begins c is digit hyphen))
        ]
        | inr is ↦ rw (zero_not, control, is) (hyphen_escape (c ∷ tail) (no_line c control))
      ]
    ]

-- the second one, behind a hyphen
second_start : (c : ℕ) (tail : List ℕ) → c ≢ 0 → (62 == slice_index tail 0) ≡ false → Starts (45 ∷ (digit_or_later c ++ tail))
second_start c tail some arrow = elim (cases_Bool (is_ascii_digit c)) [
  | inl is ↦ rw is (hyphen_code c tail (digit_small c is))
  | inr digit ↦ subst (λ (x : List ℕ). Starts (45 ∷ (x ++ tail)))
      (sym (cond-false (is_ascii_digit c) (as_code_point c) (later_character c) digit)) (behind_start c tail some digit arrow)
]

hyphen_first : (cs rest : List ℕ) → NoZero cs → (62 == slice_index rest 0) ≡ false → Starts (identifier (45 ∷ cs) ++ rest)
unfolding identifier
hyphen_first [] rest some arrow = escape_start (45 ∷ rest) (no_line 45 refl)
hyphen_first (d ∷ ds) rest some arrow =
    let more : (length (d ∷ ds) == 0) ≡ false = ne_eqb _ _ (omega arith) in
    let all : (digit_or_later d ++ flat_map later_character ds) ++ rest ≡ digit_or_later d ++ (flat_map later_character ds ++ rest) =
    append_assoc (digit_or_later d) (flat_map later_character ds) rest in
    rw more (subst (λ (x : List ℕ). Starts (45 ∷ x)) (sym all)
    (second_start d (flat_map later_character ds ++ rest) some.0 (later_arrows ds rest arrow)))

-- an identifier that is written begins as one
pub identifier_starts : (text rest : List ℕ) → IsName text → (62 == slice_index rest 0) ≡ false → Starts (identifier text ++ rest)
unfolding identifier
identifier_starts [] rest some arrow = absurd some
identifier_starts (c ∷ cs) rest some arrow = elim (cases_Bool (c == 45)) [
  | inl is ↦ subst (λ (x : ℕ). Starts (identifier (x ∷ cs) ++ rest)) (sym (eqb-true _ _ is)) (hyphen_first cs rest some.1 arrow)
  | inr other ↦
      let all : (digit_or_later c ++ flat_map later_character cs) ++ rest ≡ digit_or_later c ++ (flat_map later_character cs ++ rest) =
      append_assoc (digit_or_later c) (flat_map later_character cs) rest in
      let chosen = cond-false (c == 45) (cond (length cs == 0) (92 ∷ 45 ∷ []) (45 ∷ behind_hyphen cs))
      (digit_or_later c ++ flat_map later_character cs) other in
      subst (λ (x : List ℕ). Starts (x ++ rest)) (sym chosen)
      (subst Starts (sym all) (first_start c (flat_map later_character cs ++ rest) some.0 other))
]

-- IDENTIFIERS, IDS, STRINGS AND WHITE SPACE

pub no_zero : (text : List ℕ) → IsName text → NoZero text
no_zero [] some = tt
no_zero (c ∷ cs) some = some

pub ident_token : (total : ℕ) (text rest : List ℕ) → IsName text → ends_ident rest ≡ true
    → tokens_of total (identifier text ++ rest) ≡ placed (Ident text) (total - length (identifier text ++ rest)) ∷ tokens_of total rest
unfolding ident_like
ident_token total text rest some ends =
    let s = identifier_starts text rest some (no_arrow rest ends) in
    let same : List ℕ → Type 0 = λ x. tokens_of total x ≡ placed (Ident text) (total - length x) ∷ tokens_of total rest in
    let named : name (s.head ∷ s.tail) ≡ record { text = text; rest = rest } =
    subst (λ (x : List ℕ). name x ≡ record { text = text; rest = rest }) s.is (identifier_read text rest (no_zero text some)
    (ends_name rest ends)) in
    subst same (sym s.is) (token_first total s.head s.tail rest (Ident text) s.comment
    (s.ident ∙ (ap ident_like_of named ∙ rw (no_open rest ends) refl)))

pub hash_token : (total : ℕ) (text rest : List ℕ) → IsName text → ends_ident rest ≡ true
    → tokens_of total (35 ∷ (identifier text ++ rest))
    ≡ placed (Hash text true) (total - length (35 ∷ (identifier text ++ rest))) ∷ tokens_of total rest
unfolding token
hash_token total text rest some ends =
    let s = identifier_starts text rest some (no_arrow rest ends) in
    let same : List ℕ → Type 0 =
    λ x. tokens_of total (35 ∷ x) ≡ placed (Hash text true) (total - length (35 ∷ x)) ∷ tokens_of total rest in
    let named : name (s.head ∷ s.tail) ≡ record { text = text; rest = rest } =
    subst (λ (x : List ℕ). name x ≡ record { text = text; rest = rest }) s.is (identifier_read text rest (no_zero text some)
    (ends_name rest ends)) in
    subst same (sym s.is) (token_first total 35 (s.head ∷ s.tail) rest (Hash text true) refl
    (rw (s.hash, s.name) (ap (hash_of true) named)))

pub string_token : (total : ℕ) (text rest : List ℕ) → NoZero text
    → tokens_of total (quoted text ++ rest) ≡ placed (Str text) (total - length (quoted text ++ rest)) ∷ tokens_of total rest
unfolding quoted
string_token total text rest some =
    token_first total 34 (drop 1 (quoted text ++ rest)) rest (Str text) refl (string_read text rest some)

no_white : (chars : List ℕ) → is_whitespace (slice_index chars 0) ≡ false → past_whitespace chars ≡ chars
no_white [] h = refl
no_white (c ∷ rest) h = rw h refl

pub space_token : (total : ℕ) (rest : List ℕ) → is_whitespace (slice_index rest 0) ≡ false
    → tokens_of total (32 ∷ rest) ≡ placed Space (total - length (32 ∷ rest)) ∷ tokens_of total rest
unfolding token
space_token total rest white = token_first total 32 rest rest Space refl (ap (read Space) (no_white rest white))
