-- What parsing gives is as it is written: names without U+0000, and so on.
use Rattle.std.proofs.Common.{◌≡◌, ℕ, zero, suc, ◌-◌, ◌%◌, ◌<◌, ◌≤◌, Bool, true, false, cond, not, ◌&&◌, ◌||◌, Result, Ok, Err}
use Rattle.std.proofs.Common.{Option, Some, None, List, [], ◌∷◌, ◌++◌, length, drop, refl, arith, inl, inr}
use Rattle.std.specs.Prelude.{◌==◌, slice_index, codes}
use Rattle.std.proofs.lemmas.Bool.{both_ways, cases_Bool, eqb-false}
use native.Mathlib.Nat.{mod-lt}
use Rattle.markup.specs.declared.namespaces.KnownNamespace.{KnownNamespace}
use Rattle.selectors.specs.declared.selector.AttributeTest.{AttributeTest}
use Rattle.selectors.specs.declared.selector.CaseSensitivity.{CaseSensitivity}
use Rattle.selectors.specs.declared.selector.CaseSensitivity.TheVariants.{AsHtml}
use Rattle.selectors.specs.declared.selector.NamespaceTest.{NamespaceTest}
use Rattle.selectors.specs.declared.selector.NamespaceTest.TheVariants.{Any, Only}
use Rattle.selectors.specs.declared.selector.Nth.{Nth}
use Rattle.selectors.specs.declared.selector.Operator.{Operator}
use Rattle.selectors.specs.declared.selector.Operator.TheVariants.{Present}
use Rattle.selectors.specs.declared.selector.Simple.{Simple}
use Rattle.selectors.specs.declared.selector.Simple.TheVariants.{«Type»}
use Rattle.html_selector_text.specs.declared.nth.Suffix.{Suffix}
use Rattle.html_selector_text.specs.declared.nth.Suffix.TheVariants.{N, NDash, NDashDigits, Other}
use Rattle.html_selector_text.specs.declared.nth.Term.{Term}
use Rattle.html_selector_text.specs.declared.tokens.Token.{Token}
use Rattle.html_selector_text.specs.declared.tokens.TokenKind.{TokenKind}
use Rattle.html_selector_text.specs.declared.tokens.TokenKind.TheVariants.{Ident, Function, AtKeyword, Hash, Str, BadStr, Url, BadUrl}
use Rattle.html_selector_text.specs.declared.tokens.TokenKind.TheVariants.{Number, Percentage, Dimension, Space, Cdo, Cdc, Delim, End}
use Rattle.html_selector_text.specs.Reading.{is_delim, is_space, is_end, past_spaces, closes, past_close, ident_kind, ident_of}
use Rattle.html_selector_text.specs.Results.{Wrong, ◌>>=◌}
use Rattle.html_selector_text.specs.Scanning.{Counted, digits, is_word}
use Rattle.html_selector_text.specs.Simples as simples
use Rattle.html_selector_text.specs.Nth as nths
use Rattle.html_selector_text.specs.Written.{NoZero, is_present}
use Rattle.html_selector_text.specs.Readable.{IsName, IsNth, IsAttribute, AreSimples}
use Rattle.html_selector_text.proofs.ReadBack.Sound.{digits_small, SoundKind, Sound}

-- a result, if there is one, has a property
abbrev pub Gives : {A : Type 0} → (A → Type 0) → Result A Wrong → Type 0
Gives P (Ok x) = P x
Gives P (Err e) = Unit {0}

pub bind : {A B : Type 0} (P : A → Type 0) (Q : B → Type 0) (r : Result A Wrong) (f : A → Result B Wrong) → Gives P r
    → ((x : A) → P x → Gives Q (f x)) → Gives Q (r >>= f)
bind P Q (Ok x) f h k = k x h
bind P Q (Err e) f h k = tt

abbrev pub OnSome : {A : Type 0} → (A → Type 0) → Option A → Type 0
OnSome P (Some x) = P x
OnSome P None = Unit {0}

-- TOKENS

pub sound_drop : (k : ℕ) (ts : List Token) → Sound ts → Sound (drop k ts)
sound_drop zero ts h = h
sound_drop (suc k) [] h = tt
sound_drop (suc k) (t ∷ ts) h = sound_drop k ts h.1

pub sound_spaces : (ts : List Token) → Sound ts → Sound (past_spaces ts)
sound_spaces [] h = tt
sound_spaces (t ∷ ts) h = elim (cases_Bool (is_space t.kind)) [ inl is ↦ rw is (sound_spaces ts h.1) | inr is ↦ rw is h ]

pub sound_close : (ts : List Token) → Sound ts → Sound (past_close ts)
sound_close ts h = elim (cases_Bool (is_end ts)) [ inl is ↦ rw is h | inr is ↦ rw is (sound_drop 1 ts h) ]

ident_named : (kind : TokenKind) → SoundKind kind → OnSome IsName (ident_kind kind)
ident_named (Ident text) h = h
ident_named (Function text) h = tt
ident_named (AtKeyword text) h = tt
ident_named (Hash text id) h = tt
ident_named (Str text) h = tt
ident_named BadStr h = tt
ident_named Url h = tt
ident_named BadUrl h = tt
ident_named (Number value) h = tt
ident_named Percentage h = tt
ident_named (Dimension value unit) h = tt
ident_named Space h = tt
ident_named Cdo h = tt
ident_named Cdc h = tt
ident_named (Delim c) h = tt
ident_named End h = tt

pub ident_sound : (ts : List Token) → Sound ts → OnSome IsName (ident_of ts)
ident_sound [] h = tt
ident_sound (t ∷ ts) h = ident_named t.kind h.0

name_zero : (text : List ℕ) → IsName text → NoZero text
name_zero [] h = tt
name_zero (c ∷ cs) h = h

value_zero : (kind : TokenKind) → SoundKind kind → OnSome NoZero (simples.value_kind kind)
value_zero (Ident text) h = name_zero text h
value_zero (Function text) h = tt
value_zero (AtKeyword text) h = tt
value_zero (Hash text id) h = tt
value_zero (Str text) h = h
value_zero BadStr h = tt
value_zero Url h = tt
value_zero BadUrl h = tt
value_zero (Number value) h = tt
value_zero Percentage h = tt
value_zero (Dimension value unit) h = tt
value_zero Space h = tt
value_zero Cdo h = tt
value_zero Cdc h = tt
value_zero (Delim c) h = tt
value_zero End h = tt

value_sound : (ts : List Token) → Sound ts → OnSome NoZero (simples.value_of ts)
value_sound [] h = tt
value_sound (t ∷ ts) h = value_zero t.kind h.0

-- TYPE SELECTORS

abbrev PrefixSound : Option NamespaceTest × List Token → Type 0
PrefixSound x = Sound x.1

known_sound : (o : Option KnownNamespace) (ts : List Token) → Sound ts → Gives PrefixSound (simples.known_of o ts)
known_sound (Some known) ts h = sound_drop 2 ts h
known_sound None ts h = tt

named_prefix : (o : Option (List ℕ)) (ts : List Token) → Sound ts → Gives PrefixSound (simples.prefix_named o ts)
named_prefix None ts h = h
named_prefix (Some name) ts h = elim (cases_Bool (simples.at_bar (drop 1 ts))) [
  | inl is ↦ rw is (known_sound (simples.known_prefix name) ts h)
  | inr is ↦ rw is h
]

prefix_sound : (ts : List Token) → Sound ts → Gives PrefixSound (simples.prefix ts)
unfolding simples.prefix
prefix_sound ts h = elim (cases_Bool (simples.at_bar ts)) [
  | inl is ↦ rw is (sound_drop 1 ts h)
  | inr other ↦ elim (cases_Bool (is_delim 42 ts && simples.at_bar (drop 1 ts))) [
    | inl is ↦ rw (other, is) (sound_drop 2 ts h)
    | inr is ↦ rw (other, is) (named_prefix (ident_of ts) ts h)
  ]
]

abbrev pub SimplesSound : List Simple × List Token → Type 0
SimplesSound x = AreSimples x.0 × Sound x.1

no_name : (o : Option NamespaceTest) → AreSimples (simples.namespace_simples o)
no_name None = tt
no_name (Some Any) = tt
no_name (Some (Only known)) = tt

with_name : (o : Option NamespaceTest) (name : List ℕ) → IsName name → AreSimples (simples.namespace_simples o ++ «Type» name ∷ [])
with_name None name h = (h, tt)
with_name (Some Any) name h = (h, tt)
with_name (Some (Only known)) name h = (h, tt)

type_named : (o : Option NamespaceTest) (n : Option (List ℕ)) (ts : List Token) → OnSome IsName n → Sound ts
    → Gives SimplesSound (simples.type_named o n ts)
type_named o (Some name) ts own h = (with_name o name own, sound_drop 1 ts h)
type_named (Some namespace) None ts own h = tt
type_named None None ts own h = (tt, h)

type_behind : (o : Option NamespaceTest) (ts : List Token) → Sound ts → Gives SimplesSound (simples.type_behind o ts)
type_behind o ts h = elim (cases_Bool (is_delim 42 ts)) [
  | inl is ↦ rw is (no_name o, sound_drop 1 ts h)
  | inr is ↦ rw is (type_named o (ident_of ts) ts (ident_sound ts h) h)
]

pub type_sound : (ts : List Token) → Sound ts → Gives SimplesSound (simples.type_selector ts)
unfolding simples.type_selector
type_sound ts h = bind PrefixSound SimplesSound (simples.prefix ts) (λ p. simples.type_behind p.0 p.1) (prefix_sound ts h)
    (λ p sound. type_behind p.0 p.1 sound)

-- ATTRIBUTE SELECTORS

abbrev OperatorSound : Operator × List Token → Type 0
OperatorSound x = (is_present x.0 ≡ false) × Sound x.1

abbrev NamedSound : List ℕ × List Token → Type 0
NamedSound x = IsName x.0 × Sound x.1

abbrev ValuedSound : List ℕ × List Token → Type 0
ValuedSound x = NoZero x.0 × Sound x.1

abbrev CaseSound : CaseSensitivity × List Token → Type 0
CaseSound x = Sound x.1

abbrev pub AttributeSound : AttributeTest × List Token → Type 0
AttributeSound x = IsAttribute x.0 × Sound x.1

abbrev SignSound : Option Operator → Type 0
SignSound o = OnSome (λ operator. is_present operator ≡ false) o

sign_sound : (ts : List Token) → SignSound (simples.operator_sign ts)
sign_sound ts = elim (cases_Bool (is_delim 126 ts)) [
  | inl is ↦ rw is refl
  | inr a ↦ elim (cases_Bool (is_delim 124 ts)) [
    | inl is ↦ rw (a, is) refl
    | inr b ↦ elim (cases_Bool (is_delim 94 ts)) [
      | inl is ↦ rw (a, b, is) refl
      | inr c ↦ elim (cases_Bool (is_delim 36 ts)) [
        | inl is ↦ rw (a, b, c, is) refl
        | inr d ↦ elim (cases_Bool (is_delim 42 ts)) [
          | inl is ↦ rw (a, b, c, d, is) refl
          | inr is ↦ rw (a, b, c, d, is) tt
        ]
      ]
    ]
  ]
]

signed_sound : (o : Option Operator) (ts : List Token) → SignSound o → Sound ts → Gives OperatorSound (simples.operator_signed o ts)
signed_sound None ts own h = tt
signed_sound (Some operator) ts own h = elim (cases_Bool (is_delim 61 (drop 1 ts))) [
  | inl is ↦ rw is (own, sound_drop 2 ts h)
  | inr is ↦ rw is tt
]

operator_sound : (ts : List Token) → Sound ts → Gives OperatorSound (simples.operator_of ts)
unfolding simples.operator_of
operator_sound ts h = elim (cases_Bool (is_delim 61 ts)) [
  | inl is ↦ rw is (refl, sound_drop 1 ts h)
  | inr is ↦ rw is (signed_sound (simples.operator_sign ts) ts (sign_sound ts) h)
]

named_sound : (o : Option (List ℕ)) (ts : List Token) → OnSome IsName o → Sound ts → Gives NamedSound (simples.named o ts)
named_sound (Some name) ts own h = (own, sound_drop 1 ts h)
named_sound None ts own h = tt

valued_sound : (o : Option (List ℕ)) (ts : List Token) → OnSome NoZero o → Sound ts → Gives ValuedSound (simples.valued o ts)
valued_sound (Some value) ts own h = (own, sound_drop 1 ts h)
valued_sound None ts own h = tt

case_sound : (o : Option (List ℕ)) (ts : List Token) → Sound ts → Gives CaseSound (simples.case_named o ts)
case_sound None ts h = h
case_sound (Some name) ts h = elim (cases_Bool (is_word name (codes "i"))) [
  | inl is ↦ rw is (sound_drop 1 ts h)
  | inr other ↦ elim (cases_Bool (is_word name (codes "s"))) [
    | inl is ↦ rw (other, is) (sound_drop 1 ts h)
    | inr is ↦ rw (other, is) tt
  ]
]

closed_sound : (test : AttributeTest) (ts : List Token) → IsAttribute test → Sound ts → Gives AttributeSound (simples.closed_test test ts)
closed_sound test ts own h = elim (cases_Bool (closes 93 ts)) [
  | inl is ↦ rw is (own, sound_close ts h)
  | inr is ↦ rw is tt
]

tested_is : (namespace : NamespaceTest) (name : List ℕ) (operator : Operator) (value : List ℕ) (case : CaseSensitivity) → IsName name
    → is_present operator ≡ false → NoZero value → IsAttribute (simples.tested namespace name operator value case)
tested_is namespace name operator value case own some zero_free = record {
  name = own;
  value = zero_free;
  no_value = λ is. absurd (both_ways (is_present operator) some is);
  no_case = λ is. absurd (both_ways (is_present operator) some is);
}

compared_sound : (namespace : NamespaceTest) (name : List ℕ) (ts : List Token) → IsName name → Sound ts
    → Gives AttributeSound (simples.compared namespace name ts)
unfolding simples.compared
compared_sound namespace name ts own h =
    bind OperatorSound AttributeSound (simples.operator_of ts) (λ o. simples.valued (simples.value_of (past_spaces o.1)) (past_spaces o.1)
    >>= λ v. simples.case_named (ident_of (past_spaces v.1)) (past_spaces v.1)
    >>= λ c. simples.closed_test (simples.tested namespace name o.0 v.0 c.0) (past_spaces c.1)) (operator_sound ts h)
    (λ o operator. bind ValuedSound AttributeSound (simples.valued (simples.value_of (past_spaces o.1)) (past_spaces o.1))
    (λ v. simples.case_named (ident_of (past_spaces v.1)) (past_spaces v.1)
    >>= λ c. simples.closed_test (simples.tested namespace name o.0 v.0 c.0) (past_spaces c.1))
    (valued_sound (simples.value_of (past_spaces o.1)) (past_spaces o.1)
    (value_sound (past_spaces o.1) (sound_spaces o.1 operator.1)) (sound_spaces o.1 operator.1))
    (λ v value. bind CaseSound AttributeSound (simples.case_named (ident_of (past_spaces v.1)) (past_spaces v.1))
    (λ c. simples.closed_test (simples.tested namespace name o.0 v.0 c.0) (past_spaces c.1))
    (case_sound (ident_of (past_spaces v.1)) (past_spaces v.1) (sound_spaces v.1 value.1))
    (λ c case. closed_sound (simples.tested namespace name o.0 v.0 c.0) (past_spaces c.1)
    (tested_is namespace name o.0 v.0 c.0 own operator.0 value.0) (sound_spaces c.1 case))))

present_is : (namespace : NamespaceTest) (name : List ℕ) → IsName name → IsAttribute (simples.tested namespace name Present [] AsHtml)
present_is namespace name own = record { name = own; value = tt; no_value = λ is. refl; no_case = λ is. refl }

behind_name : (namespace : NamespaceTest) (name : List ℕ) (ts : List Token) → IsName name → Sound ts
    → Gives AttributeSound (cond (closes 93 ts) (Ok (simples.tested namespace name Present [] AsHtml, past_close ts))
    (simples.compared namespace name ts))
behind_name namespace name ts own h = elim (cases_Bool (closes 93 ts)) [
  | inl is ↦ rw is (present_is namespace name own, sound_close ts h)
  | inr is ↦ rw is (compared_sound namespace name ts own h)
]

pub attribute_sound : (ts : List Token) → Sound ts → Gives AttributeSound (simples.attribute ts)
unfolding simples.attribute
attribute_sound ts h =
    bind PrefixSound AttributeSound (simples.prefix (past_spaces ts)) (λ p. simples.named (ident_of p.1) p.1
    >>= λ n. cond (closes 93 (past_spaces n.1)) (Ok (
      simples.tested (simples.namespace_or_none p.0) n.0 Present [] AsHtml,
      past_close
          (past_spaces n.1),
    ))
    (simples.compared (simples.namespace_or_none p.0) n.0 (past_spaces n.1))) (prefix_sound (past_spaces ts) (sound_spaces ts h))
    (λ p sound. bind NamedSound AttributeSound (simples.named (ident_of p.1) p.1)
    (λ n. cond (closes 93 (past_spaces n.1)) (Ok (
      simples.tested (simples.namespace_or_none p.0) n.0 Present [] AsHtml,
      past_close
          (past_spaces n.1),
    ))
    (simples.compared (simples.namespace_or_none p.0) n.0 (past_spaces n.1))) (named_sound (ident_of p.1) p.1 (ident_sound p.1 sound) sound)
    (λ n name. behind_name (simples.namespace_or_none p.0) n.0 (past_spaces n.1) name.0 (sound_spaces n.1 name.1)))

-- AN+B

abbrev pub TermSmall : Term → Type 0
TermSmall t = t.value ≤ 1000000000

abbrev TermSound : Term × List Token → Type 0
TermSound x = TermSmall x.0 × Sound x.1

abbrev pub NthSound : Nth × List Token → Type 0
NthSound x = IsNth x.0 × Sound x.1

still : (first : ℕ) → first ≤ 1000000000 → IsNth (nths.nth_from first 0 false)
still first small = record { first = small; step = omega arith; rises = λ is. refl }

moving : (first step : ℕ) (descends : Bool) → first ≤ 1000000000 → step ≤ 1000000000 → (step ≡ 0 → ⊥)
    → IsNth (nths.nth_from first step descends)
moving first step descends small few some = record { first = small; step = few; rises = λ is. absurd (some is) }

either_small : (b : Bool) (x y : ℕ) → x ≤ 1000000000 → y ≤ 1000000000 → cond b x y ≤ 1000000000
either_small true x y h k = h
either_small false x y h k = k

below : (a b : ℕ) → a ≤ 1000000000 → (a ≡ 0 → ⊥) → (a - b % a) % a ≤ 1000000000
below a b small some =
    let more : 0 < a = omega (arith, some) in
    let less : (a - b % a) % a < a = mod-lt (a - b % a) more in
    omega (arith, less)

places_are : (a b : Term) → TermSmall a → TermSmall b → IsNth (nths.places a b)
unfolding nths.places
places_are a b small few = elim (cases_Bool (a.value == 0)) [
  | inl is ↦ rw is (still (cond b.is_negative 0 b.value) (either_small b.is_negative 0 b.value (omega arith) few))
  | inr some ↦ elim (cases_Bool a.is_negative) [
    | inl down ↦ elim (cases_Bool b.is_negative) [
      | inl is ↦ rw (some, down, is) (still 0 (omega arith))
      | inr is ↦ rw (some, down, is) (moving b.value a.value true few small (eqb-false a.value 0 some))
    ]
    | inr up ↦ rw (some, up) (moving (cond b.is_negative ((a.value - b.value % a.value) % a.value) b.value) a.value false
        (either_small b.is_negative ((a.value - b.value % a.value) % a.value) b.value (below a.value b.value small
        (eqb-false a.value 0 some)) few)
        small (eqb-false a.value 0 some))
  ]
]

integer_kind : (with_sign : Bool) (kind : TokenKind) → SoundKind kind → OnSome TermSmall (nths.integer_kind with_sign kind)
integer_kind with_sign (Ident text) h = tt
integer_kind with_sign (Function text) h = tt
integer_kind with_sign (AtKeyword text) h = tt
integer_kind with_sign (Hash text id) h = tt
integer_kind with_sign (Str text) h = tt
integer_kind with_sign BadStr h = tt
integer_kind with_sign Url h = tt
integer_kind with_sign BadUrl h = tt
integer_kind with_sign (Number value) h =
    elim (cases_Bool (value.is_integer && cond with_sign (nths.is_signed value.sign) (not (nths.is_signed value.sign)))) [
      | inl is ↦ rw is h
      | inr is ↦ rw is tt
    ]
integer_kind with_sign Percentage h = tt
integer_kind with_sign (Dimension value unit) h = tt
integer_kind with_sign Space h = tt
integer_kind with_sign Cdo h = tt
integer_kind with_sign Cdc h = tt
integer_kind with_sign (Delim c) h = tt
integer_kind with_sign End h = tt

integer_small : (with_sign : Bool) (ts : List Token) → Sound ts → OnSome TermSmall (nths.integer_of with_sign ts)
integer_small with_sign [] h = tt
integer_small with_sign (t ∷ ts) h = integer_kind with_sign t.kind h.0

signless_sound : (at : ℕ) (negative : Bool) (o : Option Term) (ts : List Token) → OnSome TermSmall o → Sound ts
    → Gives TermSound (nths.signless at negative o ts)
signless_sound at negative None ts own h = tt
signless_sound at negative (Some b) ts own h = (own, sound_drop 1 ts h)

b_sign_sound : (at : ℕ) (negative : Bool) (ts : List Token) → Sound ts → Gives TermSound (nths.b_behind_sign at negative ts)
unfolding nths.b_behind_sign
b_sign_sound at negative ts h =
    let s = sound_spaces ts h in
    signless_sound at negative (nths.integer_of false (past_spaces ts)) (past_spaces ts) (integer_small false (past_spaces ts) s) s

b_signed_sound : (at : ℕ) (o : Option Term) (next ts : List Token) → OnSome TermSmall o → Sound next → Sound ts
    → Gives TermSound (nths.b_signed at o next ts)
b_signed_sound at (Some b) next ts own h k = (own, sound_drop 1 next h)
b_signed_sound at None next ts own h k = elim (cases_Bool (is_delim 43 next)) [
  | inl is ↦ rw is (b_sign_sound at false (drop 1 next) (sound_drop 1 next h))
  | inr other ↦ elim (cases_Bool (is_delim 45 next)) [
    | inl is ↦ rw (other, is) (b_sign_sound at true (drop 1 next) (sound_drop 1 next h))
    | inr is ↦ rw (other, is) (omega arith, k)
  ]
]

b_n_sound : (at : ℕ) (ts : List Token) → Sound ts → Gives TermSound (nths.b_behind_n at ts)
unfolding nths.b_behind_n
b_n_sound at ts h =
    let s = sound_spaces ts h in
    b_signed_sound at (nths.integer_of true (past_spaces ts)) (past_spaces ts) ts (integer_small true (past_spaces ts) s) s h

abbrev SuffixSmall : Suffix → Type 0
SuffixSmall N = Unit {0}
SuffixSmall NDash = Unit {0}
SuffixSmall (NDashDigits value) = value ≤ 1000000000
SuffixSmall Other = Unit {0}

digits_suffix_small : (counted : Counted) → counted.value ≤ 1000000000 → SuffixSmall (nths.digits_suffix counted)
digits_suffix_small counted small = elim (cases_Bool (length counted.rest == 0)) [ inl is ↦ rw is small | inr is ↦ rw is tt ]

suffix_small : (word : List ℕ) → SuffixSmall (nths.suffix_of word)
unfolding nths.suffix_of
suffix_small word = elim (cases_Bool ((slice_index word 0 == 110) || (slice_index word 0 == 78))) [
  | inr is ↦ rw is tt
  | inl a ↦ elim (cases_Bool (length word == 1)) [
    | inl is ↦ rw (a, is) tt
    | inr b ↦ elim (cases_Bool (slice_index word 1 == 45)) [
      | inr is ↦ rw (a, b, is) tt
      | inl c ↦ elim (cases_Bool (length word == 2)) [
        | inl is ↦ rw (a, b, c, is) tt
        | inr is ↦ rw (a, b, c, is) (digits_suffix_small (digits 0 (drop 2 word)) (digits_small 0 (drop 2 word) (omega arith)))
      ]
    ]
  ]
]

b_behind_sound : (at : ℕ) (suffix : Suffix) (ts : List Token) → SuffixSmall suffix → Sound ts → Gives TermSound (nths.b_behind at suffix ts)
b_behind_sound at N ts own h = b_n_sound at ts h
b_behind_sound at NDash ts own h = b_sign_sound at true ts h
b_behind_sound at (NDashDigits value) ts own h = (own, h)
b_behind_sound at Other ts own h = tt

behind_sound : (at : ℕ) (a : Term) (word : List ℕ) (ts : List Token) → TermSmall a → Sound ts
    → Gives NthSound (nths.nth_behind at a word ts)
unfolding nths.nth_behind
behind_sound at a word ts small h = bind TermSound NthSound (nths.b_behind at (nths.suffix_of word) ts) (λ b. Ok (nths.places a b.0, b.1))
    (b_behind_sound at (nths.suffix_of word) ts (suffix_small word) h) (λ b sound. (places_are a b.0 small sound.0, sound.1))

abbrev own_term : Bool → ℕ → Term
own_term negative value = nths.signed negative value

nth_ident_sound : (at : ℕ) (name : List ℕ) (ts : List Token) → Sound ts → Gives NthSound (nths.nth_of_ident at name ts)
unfolding nths.nth_of_ident
nth_ident_sound at name ts h = elim (cases_Bool (is_word name (codes "odd"))) [
  | inl is ↦ rw is (places_are (own_term false 2) (own_term false 1) (omega arith) (omega arith), h)
  | inr a ↦ elim (cases_Bool (is_word name (codes "even"))) [
    | inl is ↦ rw (a, is) (places_are (own_term false 2) (own_term false 0) (omega arith) (omega arith), h)
    | inr b ↦ elim (cases_Bool (slice_index name 0 == 45)) [
      | inl is ↦ rw (a, b, is) (behind_sound at (own_term true 1) (drop 1 name) ts (omega arith) h)
      | inr is ↦ rw (a, b, is) (behind_sound at (own_term false 1) name ts (omega arith) h)
    ]
  ]
]

plus_sound : (at : ℕ) (o : Option (List ℕ)) (ts : List Token) → Sound ts → Gives NthSound (nths.nth_behind_plus at o ts)
plus_sound at None ts h = tt
plus_sound at (Some name) ts h = behind_sound at (own_term false 1) name (drop 1 ts) (omega arith) (sound_drop 1 ts h)

sign_plus : (at : ℕ) (ts : List Token) → Sound ts
    → Gives NthSound (cond (is_delim 43 ts) (nths.nth_behind_plus at (ident_of (drop 1 ts)) (drop 1 ts)) (nths.no_nth at))
sign_plus at ts h = elim (cases_Bool (is_delim 43 ts)) [
  | inl is ↦ rw is (plus_sound at (ident_of (drop 1 ts)) (drop 1 ts) (sound_drop 1 ts h))
  | inr is ↦ rw is tt
]

nth_kind : (at : ℕ) (kind : TokenKind) (ts : List Token) → SoundKind kind → Sound ts → Gives NthSound (nths.nth_of_kind at kind ts)
nth_kind at (Ident text) ts own h = nth_ident_sound at text (drop 1 ts) (sound_drop 1 ts h)
nth_kind at (Function text) ts own h = sign_plus at ts h
nth_kind at (AtKeyword text) ts own h = sign_plus at ts h
nth_kind at (Hash text id) ts own h = sign_plus at ts h
nth_kind at (Str text) ts own h = sign_plus at ts h
nth_kind at BadStr ts own h = sign_plus at ts h
nth_kind at Url ts own h = sign_plus at ts h
nth_kind at BadUrl ts own h = sign_plus at ts h
nth_kind at (Number value) ts own h = elim (cases_Bool value.is_integer) [
  | inl is ↦ rw is (places_are (own_term false 0) (nths.term_of value) (omega arith) own, sound_drop 1 ts h)
  | inr is ↦ rw is tt
]
nth_kind at Percentage ts own h = sign_plus at ts h
nth_kind at (Dimension value unit) ts own h = elim (cases_Bool value.is_integer) [
  | inl is ↦ rw is (behind_sound at (nths.term_of value) unit (drop 1 ts) own (sound_drop 1 ts h))
  | inr is ↦ rw is tt
]
nth_kind at Space ts own h = sign_plus at ts h
nth_kind at Cdo ts own h = sign_plus at ts h
nth_kind at Cdc ts own h = sign_plus at ts h
nth_kind at (Delim c) ts own h = sign_plus at ts h
nth_kind at End ts own h = sign_plus at ts h

pub nth_sound : (at : ℕ) (ts : List Token) → Sound ts → Gives NthSound (nths.nth at ts)
unfolding nths.nth
nth_sound at [] h = tt
nth_sound at (t ∷ ts) h = nth_kind at t.kind (t ∷ ts) h.0 h
