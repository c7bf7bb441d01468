-- What parsing gives is as the definition of what is read back asks.
use Rattle.std.proofs.Common.{◌≡◌, ℕ, zero, suc, ◌-◌, ◌≤◌, Bool, true, false, cond, not, ◌&&◌, ◌||◌, Result, Ok, Err}
use Rattle.std.proofs.Common.{Option, Some, None, List, [], ◌∷◌, ◌++◌, length, drop, refl, sym, subst, arith, inl, inr}
use Rattle.std.specs.Prelude.{◌==◌, codes, is_some, nat_lt, IsTrue}
use Rattle.std.specs.Str.{chars}
use Rattle.std.proofs.lemmas.Bool.{cases_Bool, true≢false}
use Rattle.markup.specs.Plain.{is_plain}
use Rattle.selectors.specs.declared.selector.Combinator.{Combinator}
use Rattle.selectors.specs.declared.selector.Nth.{Nth}
use Rattle.selectors.specs.declared.selector.Simple.{Simple}
use Rattle.selectors.specs.declared.selector.Simple.TheVariants.{«Type», Namespace, Id, Class, Attribute, Root, Scope, Empty, NthChild}
use Rattle.selectors.specs.declared.selector.Simple.TheVariants.{NthOfType}
use Rattle.html_selector_text.specs.declared.simples.FunctionName.{FunctionName}
use Rattle.html_selector_text.specs.declared.simples.FunctionName.TheVariants.{MatchesAny, MatchesNone, Has, NthClass}
use Rattle.html_selector_text.specs.declared.simples.ListKind.{ListKind}
use Rattle.html_selector_text.specs.declared.simples.ListKind.TheVariants.{Plain, Forgiving, Relative}
use Rattle.html_selector_text.specs.declared.simples.Meaning.{Meaning}
use Rattle.html_selector_text.specs.declared.simples.Meaning.TheVariants.{Link, Checked, Disabled, Enabled, Required, Optional}
use Rattle.html_selector_text.specs.declared.simples.Part.{Part}
use Rattle.html_selector_text.specs.declared.simples.Part.TheVariants.{Nothing, One, Two, List as Argument, Stands}
use Rattle.html_selector_text.specs.declared.simples.Test.{Test}
use Rattle.html_selector_text.specs.declared.simples.Test.TheVariants.{Is, Not, NthOf}
use Rattle.html_selector_text.specs.declared.tokens.Token.{Token}
use Rattle.html_selector_text.specs.declared.tokens.TokenKind.{TokenKind}
use Rattle.html_selector_text.specs.declared.tokens.TokenKind.TheVariants.{Ident, Function, AtKeyword, Hash, Str, BadStr, Url, BadUrl}
use Rattle.html_selector_text.specs.declared.tokens.TokenKind.TheVariants.{Number, Percentage, Dimension, Space, Cdo, Cdc, Delim, End}
use Rattle.html_selector_text.specs.Reading.{wrong, place, is_delim, past_spaces, closes, past_close, ident_of, ends, is_end_kind}
use Rattle.html_selector_text.specs.Results.{Wrong, ◌>>=◌}
use Rattle.html_selector_text.specs.Scanning.{is_word, tokens}
use Rattle.html_selector_text.specs.Simples as simples
use Rattle.html_selector_text.specs.Nth as nths
use Rattle.html_selector_text.specs.declared.meanings.TheConstants.{LINK, CHECKED, DISABLED, ENABLED, REQUIRED, OPTIONAL}
use Rattle.html_selector_text.specs.declared.fault.SyntaxFault.TheVariants.{PseudoElement, NoName}
use Rattle.html_selector_text.specs.Meanings.{meaning_text, meaning_tokens}
use Rattle.html_selector_text.specs.Grammar as grammar
use Rattle.html_selector_text.specs.Grammar.{list_at}
use Rattle.html_selector_text.specs.Trees.{ListTree, NoSelectors, ComplexTree, AloneTree, BesideTree, RelativeTree, ToTree}
use Rattle.html_selector_text.specs.Trees.{TestsTree, CompoundTree, LeftTree, joined}
use Rattle.html_selector_text.specs.Written.{is_none}
use Rattle.html_selector_text.specs.Readable.{IsName, IsNth, IsPart, AreParts, AreNamed, AreSimples, IsList, IsComplex, IsHasList, IsHas}
use Rattle.html_selector_text.specs.Readable.{IsRelative, IsTests}
use Rattle.html_selector_text.proofs.ReadBack.Parts.{some_characters, no_zeros}
use Rattle.html_selector_text.proofs.ReadBack.Joins.{at_depth}
use Rattle.html_selector_text.proofs.ReadBack.Sound.{SoundKind, Sound, tokens_sound}
use Rattle.html_selector_text.proofs.ReadBack.Sounds.{Gives, bind, OnSome, sound_drop, sound_spaces, sound_close, ident_sound, SimplesSound}
use Rattle.html_selector_text.proofs.ReadBack.Sounds.{type_sound, AttributeSound, attribute_sound, NthSound, nth_sound}
use Rattle.html_selector_text.proofs.Texts.{plain_chars}

-- PARTS

-- which lists stand in the parentheses of a test
abbrev TestIs : Bool → Test → ListKind → Type 0
TestIs in_has Is Plain = ⊥
TestIs in_has Is Forgiving = Unit {0}
TestIs in_has Is Relative = in_has ≡ false
TestIs in_has Not Plain = Unit {0}
TestIs in_has Not Forgiving = ⊥
TestIs in_has Not Relative = ⊥
TestIs in_has (NthOf nth) Plain = IsNth nth
TestIs in_has (NthOf nth) Forgiving = ⊥
TestIs in_has (NthOf nth) Relative = ⊥

abbrev PartIs : Bool → Part → Type 0
PartIs in_has Nothing = Unit {0}
PartIs in_has (One simple) = IsPart simple
PartIs in_has (Two simple other) = IsPart simple × IsPart other
PartIs in_has (Argument test kind) = TestIs in_has test kind
PartIs in_has (Stands meaning) = Unit {0}

abbrev PartSound : Bool → Part × List Token → Type 0
PartSound in_has x = PartIs in_has x.0 × Sound x.1

first_is : (from_end : Bool) → IsNth (simples.first from_end)
first_is from_end = record { first = omega arith; step = omega arith; rises = λ is. refl }

plain_sound : (in_has : Bool) (name : List ℕ) → PartIs in_has (simples.plain_class name)
plain_sound in_has name = elim (cases_Bool (is_word name (codes "root"))) [
  | inl is ↦ rw is tt
  | inr n0 ↦ elim (cases_Bool (is_word name (codes "scope"))) [
    | inl is ↦ rw (n0, is) tt
    | inr n1 ↦ elim (cases_Bool (is_word name (codes "empty"))) [
      | inl is ↦ rw (n0, n1, is) tt
      | inr n2 ↦ elim (cases_Bool (is_word name (codes "first-child"))) [
        | inl is ↦ rw (n0, n1, n2, is) (first_is false)
        | inr n3 ↦ elim (cases_Bool (is_word name (codes "last-child"))) [
          | inl is ↦ rw (n0, n1, n2, n3, is) (first_is true)
          | inr n4 ↦ elim (cases_Bool (is_word name (codes "only-child"))) [
            | inl is ↦ rw (n0, n1, n2, n3, n4, is) (first_is false, first_is true)
            | inr n5 ↦ elim (cases_Bool (is_word name (codes "first-of-type"))) [
              | inl is ↦ rw (n0, n1, n2, n3, n4, n5, is) (first_is false)
              | inr n6 ↦ elim (cases_Bool (is_word name (codes "last-of-type"))) [
                | inl is ↦ rw (n0, n1, n2, n3, n4, n5, n6, is) (first_is true)
                | inr n7 ↦ elim (cases_Bool (is_word name (codes "only-of-type"))) [
                  | inl is ↦ rw (n0, n1, n2, n3, n4, n5, n6, n7, is) (first_is false, first_is true)
                  | inr is ↦ rw (n0, n1, n2, n3, n4, n5, n6, n7, is) tt
                ]
              ]
            ]
          ]
        ]
      ]
    ]
  ]
]

unknown_sound : (in_has : Bool) (name : List ℕ) (ts : List Token) → Gives (PartSound in_has) (simples.unknown name ts)
unknown_sound in_has name ts = elim (cases_Bool ((is_word name (codes "before") || is_word name (codes "after"))
    || (is_word name (codes "first-line") || is_word name (codes "first-letter")))) [ inl is ↦ rw is tt | inr is ↦ rw is tt ]

meant_sound : (in_has : Bool) (o : Option Meaning) (name : List ℕ) (ts : List Token) → Sound ts
    → Gives (PartSound in_has) (simples.meant o name ts)
meant_sound in_has (Some meaning) name ts h = (tt, sound_drop 1 ts h)
meant_sound in_has None name ts h = unknown_sound in_has name ts

class_or_sound : (in_has : Bool) (part : Part) (name : List ℕ) (ts : List Token) → PartIs in_has part → Sound ts
    → Gives (PartSound in_has) (simples.class_or_meaning part name ts)
class_or_sound in_has Nothing name ts own h = meant_sound in_has (simples.meaning_of name) name ts h
class_or_sound in_has (One simple) name ts own h = (own, sound_drop 1 ts h)
class_or_sound in_has (Two simple other) name ts own h = (own, sound_drop 1 ts h)
class_or_sound in_has (Argument test kind) name ts own h = (own, sound_drop 1 ts h)
class_or_sound in_has (Stands meaning) name ts own h = (own, sound_drop 1 ts h)

class_sound : (in_has : Bool) (name : List ℕ) (ts : List Token) → Sound ts → Gives (PartSound in_has) (simples.class_named name ts)
unfolding simples.class_named
class_sound in_has name ts h = class_or_sound in_has (simples.plain_class name) name ts (plain_sound in_has name) h

nth_part : (of_type : Bool) (nth : Nth) → IsNth nth → IsPart (simples.nth_simple of_type nth)
nth_part true nth own = own
nth_part false nth own = own

behind_sound : (in_has of_type : Bool) (nth : Nth) (ts : List Token) → IsNth nth → Sound ts
    → Gives (PartSound in_has) (simples.nth_behind of_type nth ts)
behind_sound in_has of_type nth ts own h = elim (cases_Bool (closes 41 ts)) [
  | inl is ↦ rw is (nth_part of_type nth own, sound_close ts h)
  | inr other ↦ elim (cases_Bool (not of_type && simples.is_of (ident_of ts))) [
    | inl is ↦ rw (other, is) (own, sound_drop 1 ts h)
    | inr is ↦ rw (other, is) tt
  ]
]

at_place_is : (from_end : Bool) (nth : Nth) → IsNth nth → IsNth (simples.at_place from_end nth)
at_place_is from_end nth own = record { first = own.first; step = own.step; rises = own.rises }

nth_class_sound : (in_has of_type from_end : Bool) (ts : List Token) → Sound ts
    → Gives (PartSound in_has) (simples.nth_class of_type from_end ts)
unfolding simples.nth_class
nth_class_sound in_has of_type from_end ts h =
    bind NthSound (PartSound in_has) (nths.nth (place ts) (past_spaces (drop 1 ts)))
    (λ n. simples.nth_behind of_type (simples.at_place from_end n.0) (past_spaces n.1))
    (nth_sound (place ts) (past_spaces (drop 1 ts)) (sound_spaces (drop 1 ts) (sound_drop 1 ts h)))
    (λ n sound. behind_sound in_has of_type (simples.at_place from_end n.0) (past_spaces n.1) (at_place_is from_end n.0 sound.0)
    (sound_spaces n.1 sound.1))

has_sound : (in_has : Bool) (ts : List Token) → Sound ts → Gives (PartSound in_has) (simples.function_part in_has (Some Has) ts)
has_sound true ts h = tt
has_sound false ts h = (refl, sound_drop 1 ts h)

function_sound : (in_has : Bool) (o : Option FunctionName) (ts : List Token) → Sound ts
    → Gives (PartSound in_has) (simples.function_part in_has o ts)
function_sound in_has None ts h = tt
function_sound in_has (Some MatchesAny) ts h = (tt, sound_drop 1 ts h)
function_sound in_has (Some MatchesNone) ts h = (tt, sound_drop 1 ts h)
function_sound in_has (Some Has) ts h = has_sound in_has ts h
function_sound in_has (Some (NthClass of_type from_end)) ts h = nth_class_sound in_has of_type from_end ts h

function_named : (in_has : Bool) (name : List ℕ) (ts : List Token) → Sound ts
    → Gives (PartSound in_has) (simples.function_named in_has name ts)
unfolding simples.function_named
function_named in_has name ts h = function_sound in_has (simples.function_of name) ts h

no_pseudo : (in_has : Bool) (ts : List Token)
    → Gives (PartSound in_has) (cond (is_delim 58 ts) (Err (wrong PseudoElement ts)) (Err (wrong NoName ts)))
no_pseudo in_has ts = elim (cases_Bool (is_delim 58 ts)) [ inl is ↦ rw is tt | inr is ↦ rw is tt ]

pseudo_kind : (in_has : Bool) (kind : TokenKind) (ts : List Token) → Sound ts
    → Gives (PartSound in_has) (simples.pseudo_kind in_has kind ts)
pseudo_kind in_has (Ident text) ts h = class_sound in_has text ts h
pseudo_kind in_has (Function text) ts h = function_named in_has text ts h
pseudo_kind in_has (AtKeyword text) ts h = no_pseudo in_has ts
pseudo_kind in_has (Hash text id) ts h = no_pseudo in_has ts
pseudo_kind in_has (Str text) ts h = no_pseudo in_has ts
pseudo_kind in_has BadStr ts h = no_pseudo in_has ts
pseudo_kind in_has Url ts h = no_pseudo in_has ts
pseudo_kind in_has BadUrl ts h = no_pseudo in_has ts
pseudo_kind in_has (Number value) ts h = no_pseudo in_has ts
pseudo_kind in_has Percentage ts h = no_pseudo in_has ts
pseudo_kind in_has (Dimension value unit) ts h = no_pseudo in_has ts
pseudo_kind in_has Space ts h = no_pseudo in_has ts
pseudo_kind in_has Cdo ts h = no_pseudo in_has ts
pseudo_kind in_has Cdc ts h = no_pseudo in_has ts
pseudo_kind in_has (Delim c) ts h = no_pseudo in_has ts
pseudo_kind in_has End ts h = no_pseudo in_has ts

pseudo_sound : (in_has : Bool) (ts : List Token) → Sound ts → Gives (PartSound in_has) (simples.pseudo in_has ts)
unfolding simples.pseudo
pseudo_sound in_has [] h = tt
pseudo_sound in_has (t ∷ ts) h = pseudo_kind in_has t.kind (t ∷ ts) h

class_selector : (in_has : Bool) (o : Option (List ℕ)) (ts : List Token) → OnSome IsName o → Sound ts
    → Gives (PartSound in_has) (simples.class_selector o ts)
class_selector in_has (Some name) ts own h = (own, sound_drop 1 ts h)
class_selector in_has None ts own h = tt

attribute_part : (in_has : Bool) (ts : List Token) → Sound ts → Gives (PartSound in_has) (simples.attribute_part ts)
unfolding simples.attribute_part
attribute_part in_has ts h = bind AttributeSound (PartSound in_has) (simples.attribute ts) (λ test. Ok (One (Attribute test.0), test.1))
    (attribute_sound ts h) (λ test sound. sound)

sign_part : (in_has : Bool) (ts : List Token) → Sound ts → Gives (PartSound in_has) (simples.part_of_sign in_has ts)
sign_part in_has ts h = elim (cases_Bool (is_delim 46 ts)) [
  | inl is ↦ rw is (class_selector in_has (ident_of (drop 1 ts)) (drop 1 ts) (ident_sound (drop 1 ts) (sound_drop 1 ts h))
      (sound_drop 1 ts h))
  | inr a ↦ elim (cases_Bool (is_delim 91 ts)) [
    | inl is ↦ rw (a, is) (attribute_part in_has (drop 1 ts) (sound_drop 1 ts h))
    | inr b ↦ elim (cases_Bool (is_delim 58 ts)) [
      | inl is ↦ rw (a, b, is) (pseudo_sound in_has (drop 1 ts) (sound_drop 1 ts h))
      | inr is ↦ rw (a, b, is) (tt, h)
    ]
  ]
]

kind_part : (in_has : Bool) (kind : TokenKind) (ts : List Token) → SoundKind kind → Sound ts
    → Gives (PartSound in_has) (simples.part_of_kind in_has kind ts)
kind_part in_has (Ident text) ts own h = sign_part in_has ts h
kind_part in_has (Function text) ts own h = sign_part in_has ts h
kind_part in_has (AtKeyword text) ts own h = sign_part in_has ts h
kind_part in_has (Hash text true) ts own h = (own refl, sound_drop 1 ts h)
kind_part in_has (Hash text false) ts own h = (tt, h)
kind_part in_has (Str text) ts own h = sign_part in_has ts h
kind_part in_has BadStr ts own h = sign_part in_has ts h
kind_part in_has Url ts own h = sign_part in_has ts h
kind_part in_has BadUrl ts own h = sign_part in_has ts h
kind_part in_has (Number value) ts own h = sign_part in_has ts h
kind_part in_has Percentage ts own h = sign_part in_has ts h
kind_part in_has (Dimension value unit) ts own h = sign_part in_has ts h
kind_part in_has Space ts own h = sign_part in_has ts h
kind_part in_has Cdo ts own h = sign_part in_has ts h
kind_part in_has Cdc ts own h = sign_part in_has ts h
kind_part in_has (Delim c) ts own h = sign_part in_has ts h
kind_part in_has End ts own h = sign_part in_has ts h

next_sound : (in_has : Bool) (ts : List Token) → Sound ts → Gives (PartSound in_has) (simples.next_part in_has ts)
unfolding simples.next_part
next_sound in_has [] h = (tt, tt)
next_sound in_has (t ∷ ts) h = kind_part in_has t.kind (t ∷ ts) h.0 h

-- ONE SIMPLE SELECTOR MORE

parts_more : (before : List Simple) (s : Simple) → AreParts before → IsPart s → AreParts (before ++ s ∷ [])
parts_more [] s h own = (own, tt)
parts_more (b ∷ before) s h own = (h.0, parts_more before s h.1 own)

one_named : (s : Simple) → IsPart s → AreNamed (s ∷ [])
one_named («Type» name) own = absurd own
one_named (Namespace known) own = absurd own
one_named (Id name) own = (own, tt)
one_named (Class name) own = (own, tt)
one_named (Attribute test) own = (own, tt)
one_named Root own = (own, tt)
one_named Scope own = (own, tt)
one_named Empty own = (own, tt)
one_named (NthChild nth) own = (own, tt)
one_named (NthOfType nth) own = (own, tt)

named_more : (before : List Simple) (s : Simple) → AreNamed before → IsPart s → AreNamed (before ++ s ∷ [])
named_more [] s h own = one_named s own
named_more («Type» name ∷ before) s h own = (h.0, parts_more before s h.1 own)
named_more (Namespace known ∷ before) s h own = absurd h.0
named_more (Id name ∷ before) s h own = parts_more (Id name ∷ before) s h own
named_more (Class name ∷ before) s h own = parts_more (Class name ∷ before) s h own
named_more (Attribute test ∷ before) s h own = parts_more (Attribute test ∷ before) s h own
named_more (Root ∷ before) s h own = parts_more (Root ∷ before) s h own
named_more (Scope ∷ before) s h own = parts_more (Scope ∷ before) s h own
named_more (Empty ∷ before) s h own = parts_more (Empty ∷ before) s h own
named_more (NthChild nth ∷ before) s h own = parts_more (NthChild nth ∷ before) s h own
named_more (NthOfType nth ∷ before) s h own = parts_more (NthOfType nth ∷ before) s h own

one_simple : (s : Simple) → IsPart s → AreSimples (s ∷ [])
one_simple («Type» name) own = absurd own
one_simple (Namespace known) own = absurd own
one_simple (Id name) own = (own, tt)
one_simple (Class name) own = (own, tt)
one_simple (Attribute test) own = (own, tt)
one_simple Root own = (own, tt)
one_simple Scope own = (own, tt)
one_simple Empty own = (own, tt)
one_simple (NthChild nth) own = (own, tt)
one_simple (NthOfType nth) own = (own, tt)

simples_more : (before : List Simple) (s : Simple) → AreSimples before → IsPart s → AreSimples (before ++ s ∷ [])
simples_more [] s h own = one_simple s own
simples_more («Type» name ∷ before) s h own = named_more («Type» name ∷ before) s h own
simples_more (Namespace known ∷ before) s h own = named_more before s h own
simples_more (Id name ∷ before) s h own = named_more (Id name ∷ before) s h own
simples_more (Class name ∷ before) s h own = named_more (Class name ∷ before) s h own
simples_more (Attribute test ∷ before) s h own = named_more (Attribute test ∷ before) s h own
simples_more (Root ∷ before) s h own = named_more (Root ∷ before) s h own
simples_more (Scope ∷ before) s h own = named_more (Scope ∷ before) s h own
simples_more (Empty ∷ before) s h own = named_more (Empty ∷ before) s h own
simples_more (NthChild nth ∷ before) s h own = named_more (NthChild nth ∷ before) s h own
simples_more (NthOfType nth ∷ before) s h own = named_more (NthOfType nth ∷ before) s h own

-- COMPOUND SELECTORS

abbrev pub ListOk : ℕ → Bool → ListKind → ListTree → Type 0
ListOk depth in_has Plain list = (is_none list ≡ false) × IsList list depth in_has
ListOk depth in_has Forgiving list = IsList list depth in_has
ListOk depth in_has Relative list = (is_none list ≡ false) × IsHasList list depth

abbrev pub ListSound : ℕ → Bool → ListKind → ListTree × List Token → Type 0
ListSound depth in_has kind x = (1 ≤ depth) × (ListOk (depth - 1) in_has kind x.0 × Sound x.1)

-- what `:has()` asks is within it
abbrev pub Within : Bool → ListKind → Type 0
Within in_has kind = grammar.is_relative kind ≡ true → in_has ≡ true

abbrev pub InnerSound : ℕ → Type 0
InnerSound depth = (in_has : Bool) (kind : ListKind) (ts : List Token) → Within in_has kind → Sound ts
    → Gives (ListSound depth in_has kind) (list_at depth in_has kind ts)

abbrev CompoundOk : ℕ → Bool → CompoundTree → Type 0
CompoundOk depth in_has c = AreSimples c.simples × IsTests c.tests depth in_has

abbrev CompoundSound : ℕ → Bool → CompoundTree × List Token → Type 0
CompoundSound depth in_has x = CompoundOk depth in_has x.0 × Sound x.1

abbrev TurnSound : ℕ → Bool → grammar.Turn → Type 0
TurnSound depth in_has t = CompoundOk depth in_has t.compound × Sound t.rest

or_false : (b : Bool) → (b || false) ≡ b
or_false true = refl
or_false false = refl

or_true : (b : Bool) → (b || true) ≡ true
or_true true = refl
or_true false = refl

within_both : (in_has : Bool) (kind : ListKind) → Within (in_has || grammar.is_relative kind) kind
within_both in_has Plain is = absurd (true≢false (sym is))
within_both in_has Forgiving is = absurd (true≢false (sym is))
within_both in_has Relative is = or_true in_has

test_ok : (depth : ℕ) (in_has : Bool) (test : Test) (kind : ListKind) (list : ListTree) (others : TestsTree) → TestIs in_has test kind
    → 1 ≤ depth → ListOk (depth - 1) (in_has || grammar.is_relative kind) kind list → IsTests others depth in_has
    → IsTests (grammar.with_test test list others) depth in_has
test_ok depth in_has Is Plain list others own some those before = absurd own
test_ok depth in_has Is Forgiving list others own some those before =
    (some, (inl (subst (λ (b : Bool). IsList list (depth - 1) b) (or_false in_has) those), before))
test_ok depth in_has Is Relative list others own some those before = (some, (inr (own, those), before))
test_ok depth in_has Not Plain list others own some those before =
    (some, (those.0, (subst (λ (b : Bool). IsList list (depth - 1) b) (or_false in_has) those.1, before)))
test_ok depth in_has Not Forgiving list others own some those before = absurd own
test_ok depth in_has Not Relative list others own some those before = absurd own
test_ok depth in_has (NthOf nth) Plain list others own some those before =
    (some, (own, (those.0, (subst (λ (b : Bool). IsList list (depth - 1) b) (or_false in_has) those.1, before))))
test_ok depth in_has (NthOf nth) Forgiving list others own some those before = absurd own
test_ok depth in_has (NthOf nth) Relative list others own some those before = absurd own

told_sound : {A : Type 0} (P : A → Type 0) (at : ℕ) (r : Result A Wrong) → Gives P r → Gives P (grammar.told_at at r)
told_sound P at (Ok x) h = h
told_sound P at (Err e) h = tt

-- the tokens of a text of ASCII without U+0000
plain_sound_tokens : (bytes : List ℕ) → IsTrue (is_plain bytes) → some_characters bytes ≡ true → Sound (tokens (chars bytes))
plain_sound_tokens bytes plain some = subst (λ (x : List ℕ). Sound (tokens x)) (sym (plain_chars bytes (plain)))
    (tokens_sound bytes (no_zeros bytes some))

meaning_sound : (meaning : Meaning) → Sound (meaning_tokens meaning)
unfolding meaning_tokens meaning_text
meaning_sound Link = plain_sound_tokens LINK.now refl refl
meaning_sound Checked = plain_sound_tokens CHECKED.now refl refl
meaning_sound Disabled = plain_sound_tokens DISABLED.now refl refl
meaning_sound Enabled = plain_sound_tokens ENABLED.now refl refl
meaning_sound Required = plain_sound_tokens REQUIRED.now refl refl
meaning_sound Optional = plain_sound_tokens OPTIONAL.now refl refl

no_argument : (depth : ℕ) (in_has : Bool) (at : ℕ) (meaning : Meaning) → InnerSound depth
    → Gives (λ list. (1 ≤ depth) × IsList list (depth - 1) in_has) (grammar.meant (at_depth depth) in_has at meaning)
unfolding grammar.meant
no_argument depth in_has at meaning inner =
    bind (ListSound depth in_has Plain) (λ list. (1 ≤ depth) × IsList list (depth - 1) in_has)
    (grammar.told_at at (list_at depth in_has Plain (meaning_tokens meaning))) (λ list. Ok list.0)
    (told_sound (ListSound depth in_has Plain) at (list_at depth in_has Plain (meaning_tokens meaning))
    (inner in_has Plain (meaning_tokens meaning) (λ is. absurd (true≢false (sym is))) (meaning_sound meaning)))
    (λ list sound. (sound.0, sound.1.0.1))

part_sound : (depth : ℕ) (in_has : Bool) (so_far : CompoundTree) (at : ℕ) (part : Part) (rest : List Token) → InnerSound depth
    → CompoundOk depth in_has so_far → PartIs in_has part → Sound rest
    → Gives (TurnSound depth in_has) (grammar.with_part (at_depth depth) in_has so_far at part rest)
part_sound depth in_has so_far at Nothing rest inner before own h = (before, h)
part_sound depth in_has so_far at (One simple) rest inner before own h =
    ((simples_more so_far.simples simple before.0 own, before.1), h)
part_sound depth in_has so_far at (Two simple other) rest inner before own h =
    ((simples_more (so_far.simples ++ simple ∷ []) other (simples_more so_far.simples simple before.0 own.0) own.1, before.1), h)
part_sound depth in_has so_far at (Argument test kind) rest inner before own h =
    bind (ListSound depth (in_has || grammar.is_relative kind) kind) (TurnSound depth in_has)
    (list_at depth (in_has || grammar.is_relative kind) kind rest)
    (λ list. grammar.turned true (grammar.tested test list.0 so_far) (past_close list.1))
    (inner (in_has || grammar.is_relative kind) kind rest (within_both in_has kind) h)
    (λ list sound. (
      (before.0, test_ok depth in_has test kind list.0 so_far.tests own sound.0 sound.1.0 before.1),
      sound_close list.1
          sound.1.1,
    ))
part_sound depth in_has so_far at (Stands meaning) rest inner before own h =
    bind (λ (list : ListTree). (1 ≤ depth) × IsList list (depth - 1) in_has) (TurnSound depth in_has)
    (grammar.meant (at_depth depth) in_has at meaning) (λ list. grammar.turned true (grammar.tested Is list so_far) rest)
    (no_argument depth in_has at meaning inner) (λ list sound. ((before.0, (sound.0, (inl sound.1, before.1))), h))

turn_sound : (depth : ℕ) (in_has : Bool) (so_far : CompoundTree) (ts : List Token) → InnerSound depth → CompoundOk depth in_has so_far
    → Sound ts → Gives (TurnSound depth in_has) (grammar.turn (at_depth depth) in_has so_far ts)
unfolding grammar.turn
turn_sound depth in_has so_far ts inner before h =
    bind (PartSound in_has) (TurnSound depth in_has) (simples.next_part in_has ts)
    (λ p. grammar.with_part (at_depth depth) in_has so_far (place (drop 1 ts)) p.0 p.1) (next_sound in_has ts h)
    (λ p sound. part_sound depth in_has so_far (place (drop 1 ts)) p.0 p.1 inner before sound.0 sound.1)

going : (depth : ℕ) (in_has on : Bool) (x y : grammar.CompoundRead) → Gives (CompoundSound depth in_has) x
    → Gives (CompoundSound depth in_has) y → Gives (CompoundSound depth in_has) (cond on x y)
going depth in_has true x y h k = h
going depth in_has false x y h k = k

parts_sound : (depth : ℕ) (in_has : Bool) (n : ℕ) (so_far : CompoundTree) (ts : List Token) → InnerSound depth
    → CompoundOk depth in_has so_far → Sound ts → Gives (CompoundSound depth in_has) (grammar.parts (at_depth depth) in_has n so_far ts)
parts_sound depth in_has zero so_far ts inner before h = (before, h)
parts_sound depth in_has (suc n) so_far ts inner before h =
    bind (TurnSound depth in_has) (CompoundSound depth in_has) (grammar.turn (at_depth depth) in_has so_far ts)
    (λ t. cond t.goes_on (grammar.parts (at_depth depth) in_has n t.compound t.rest) (Ok (t.compound, t.rest)))
    (turn_sound depth in_has so_far ts inner before h)
    (λ t sound. going depth in_has t.goes_on (grammar.parts (at_depth depth) in_has n t.compound t.rest) (Ok (t.compound, t.rest))
    (parts_sound depth in_has n t.compound t.rest inner sound.0 sound.1) sound)

some_sound : (depth : ℕ) (in_has : Bool) (c : CompoundTree) (rest ts : List Token) → CompoundOk depth in_has c → Sound rest
    → Gives (CompoundSound depth in_has) (grammar.some_of c rest ts)
some_sound depth in_has c rest ts own h = elim (cases_Bool (nat_lt (length rest) (length ts))) [
  | inl is ↦ rw is (own, h)
  | inr is ↦ rw is tt
]

compound_sound : (depth : ℕ) (in_has : Bool) (ts : List Token) → InnerSound depth → Sound ts
    → Gives (CompoundSound depth in_has) (grammar.compound (at_depth depth) in_has ts)
unfolding grammar.compound
compound_sound depth in_has ts inner h =
    bind SimplesSound (CompoundSound depth in_has) (simples.type_selector ts)
    (λ t. grammar.parts (at_depth depth) in_has (length ts) (grammar.no_parts t.0) t.1 >>= λ c. grammar.some_of c.0 c.1 ts)
    (type_sound ts h)
    (λ t sound. bind (CompoundSound depth in_has) (CompoundSound depth in_has)
    (grammar.parts (at_depth depth) in_has (length ts) (grammar.no_parts t.0) t.1) (λ c. grammar.some_of c.0 c.1 ts)
    (parts_sound depth in_has (length ts) (grammar.no_parts t.0) t.1 inner (sound.0, tt) sound.1)
    (λ c all. some_sound depth in_has c.0 c.1 ts all.0 all.1))

-- COMPLEX SELECTORS

abbrev ComplexSound : ℕ → Bool → ComplexTree × List Token → Type 0
ComplexSound depth in_has x = IsComplex x.0 depth in_has × Sound x.1

past_written_sound : (ts : List Token) → Sound ts → Sound (grammar.past_written ts)
past_written_sound ts h = elim (cases_Bool (is_some (grammar.written_combinator ts))) [
  | inl is ↦ rw is (sound_spaces (drop 1 ts) (sound_drop 1 ts h))
  | inr is ↦ rw is h
]

past_sound : (ts : List Token) → Sound ts → Sound (grammar.past_combinator ts)
unfolding grammar.past_combinator
past_sound ts h = past_written_sound (past_spaces ts) (sound_spaces ts h)

abbrev beside_of : ℕ → Bool → ℕ → ComplexTree → List Token → Option Combinator → grammar.ComplexRead
beside_of depth in_has n so_far ts None = Ok (so_far, past_spaces ts)
beside_of depth in_has n so_far ts (Some combinator) = grammar.compound (at_depth depth) in_has (grammar.past_combinator ts)
    >>= λ c. grammar.beside (at_depth depth) in_has n (BesideTree so_far combinator c.0.simples c.0.tests) c.1

beside_one : (n depth : ℕ) (in_has : Bool) (so_far : ComplexTree) (ts : List Token) (o : Option Combinator) → InnerSound depth
    → IsComplex so_far depth in_has → Sound ts
    → ((c : ComplexTree) (more : List Token) → IsComplex c depth in_has → Sound more
    → Gives (ComplexSound depth in_has) (grammar.beside (at_depth depth) in_has n c more))
    → Gives (ComplexSound depth in_has) (beside_of depth in_has n so_far ts o)
beside_one n depth in_has so_far ts None inner before h go = (before, sound_spaces ts h)
beside_one n depth in_has so_far ts (Some combinator) inner before h go =
    bind (CompoundSound depth in_has) (ComplexSound depth in_has) (grammar.compound (at_depth depth) in_has (grammar.past_combinator ts))
    (λ c. grammar.beside (at_depth depth) in_has n (BesideTree so_far combinator c.0.simples c.0.tests) c.1)
    (compound_sound depth in_has (grammar.past_combinator ts) inner (past_sound ts h))
    (λ c sound. go (BesideTree so_far combinator c.0.simples c.0.tests) c.1 (before, sound.0) sound.1)

beside_sound : (n depth : ℕ) (in_has : Bool) (so_far : ComplexTree) (ts : List Token) → InnerSound depth → IsComplex so_far depth in_has
    → Sound ts → Gives (ComplexSound depth in_has) (grammar.beside (at_depth depth) in_has n so_far ts)
beside_sound zero depth in_has so_far ts inner before h = (before, h)
beside_sound (suc n) depth in_has so_far ts inner before h =
    beside_one n depth in_has so_far ts (grammar.combinator_of ts) inner before h
    (λ c more own sound. beside_sound n depth in_has c more inner own sound)

complex_sound : (depth : ℕ) (in_has : Bool) (ts : List Token) → InnerSound depth → Sound ts
    → Gives (ComplexSound depth in_has) (grammar.complex (at_depth depth) in_has ts)
unfolding grammar.complex
complex_sound depth in_has ts inner h =
    bind (CompoundSound depth in_has) (ComplexSound depth in_has) (grammar.compound (at_depth depth) in_has (past_spaces ts))
    (λ c. grammar.beside (at_depth depth) in_has (length ts) (AloneTree c.0.simples c.0.tests) c.1)
    (compound_sound depth in_has (past_spaces ts) inner (sound_spaces ts h))
    (λ c sound. beside_sound (length ts) depth in_has (AloneTree c.0.simples c.0.tests) c.1 inner sound.0 sound.1)

-- RELATIVE SELECTORS

abbrev RelativeSound : ℕ → RelativeTree × List Token → Type 0
RelativeSound depth x = IsRelative x.0 depth × Sound x.1

abbrev LeftsOk : ℕ → List LeftTree → Type 0
LeftsOk depth [] = Unit {0}
LeftsOk depth (left ∷ lefts) = CompoundOk depth true left.compound × LeftsOk depth lefts

lefts_more : (depth : ℕ) (lefts : List LeftTree) (left : LeftTree) → LeftsOk depth lefts → CompoundOk depth true left.compound
    → LeftsOk depth (lefts ++ left ∷ [])
lefts_more depth [] left h own = (own, tt)
lefts_more depth (l ∷ lefts) left h own = (h.0, lefts_more depth lefts left h.1 own)

joined_ok : (depth : ℕ) (lefts : List LeftTree) (rest : RelativeTree) → LeftsOk depth lefts → IsRelative rest depth
    → IsRelative (joined lefts rest) depth
joined_ok depth [] rest h own = own
joined_ok depth (l ∷ lefts) rest h own = (h.0, joined_ok depth lefts rest h.1 own)

abbrev relative_of : ℕ → ℕ → List LeftTree → Combinator → CompoundTree × List Token → Option Combinator → grammar.RelativeRead
relative_of depth n so_far first c None = Ok (joined so_far (ToTree first c.0.simples c.0.tests), past_spaces c.1)
relative_of depth n so_far first c (Some combinator) =
    grammar.relative_to (at_depth depth) true n (so_far ++ grammar.behind first c.0 ∷ []) combinator (grammar.past_combinator c.1)

relative_one : (n depth : ℕ) (so_far : List LeftTree) (first : Combinator) (c : CompoundTree × List Token) (o : Option Combinator)
    → LeftsOk depth so_far → CompoundSound depth true c
    → ((lefts : List LeftTree) (combinator : Combinator) (more : List Token) → LeftsOk depth lefts → Sound more
    → Gives (RelativeSound depth) (grammar.relative_to (at_depth depth) true n lefts combinator more))
    → Gives (RelativeSound depth) (relative_of depth n so_far first c o)
relative_one n depth so_far first c None before sound go =
    (joined_ok depth so_far (ToTree first c.0.simples c.0.tests) before sound.0, sound_spaces c.1 sound.1)
relative_one n depth so_far first c (Some combinator) before sound go =
    go (so_far ++ grammar.behind first c.0 ∷ []) combinator (grammar.past_combinator c.1)
    (lefts_more depth so_far (grammar.behind first c.0) before sound.0) (past_sound c.1 sound.1)

relative_to_sound : (n depth : ℕ) (so_far : List LeftTree) (first : Combinator) (ts : List Token) → InnerSound depth → LeftsOk depth so_far
    → Sound ts → Gives (RelativeSound depth) (grammar.relative_to (at_depth depth) true n so_far first ts)
relative_to_sound zero depth so_far first ts inner before h = tt
relative_to_sound (suc n) depth so_far first ts inner before h =
    bind (CompoundSound depth true) (RelativeSound depth) (grammar.compound (at_depth depth) true ts)
    (λ c. relative_of depth n so_far first c (grammar.combinator_of c.1)) (compound_sound depth true ts inner h)
    (λ c sound. relative_one n depth so_far first c (grammar.combinator_of c.1) before sound
    (λ lefts combinator more own k. relative_to_sound n depth lefts combinator more inner own k))

relative_sound : (depth : ℕ) (ts : List Token) → InnerSound depth → Sound ts
    → Gives (RelativeSound depth) (grammar.relative (at_depth depth) true ts)
unfolding grammar.relative
relative_sound depth ts inner h = relative_to_sound (length ts) depth [] _ (grammar.past_combinator ts) inner tt (past_sound ts h)

-- LISTS

abbrev ItemOk : ℕ → Bool → ListKind → Option ComplexTree → Type 0
ItemOk depth in_has Plain (Some one) = IsComplex one depth in_has
ItemOk depth in_has Plain None = ⊥
ItemOk depth in_has Forgiving (Some one) = IsComplex one depth in_has
ItemOk depth in_has Forgiving None = Unit {0}
ItemOk depth in_has Relative (Some one) = IsHas one depth
ItemOk depth in_has Relative None = ⊥

abbrev ItemSound : ℕ → Bool → ListKind → Option ComplexTree × List Token → Type 0
ItemSound depth in_has kind x = ItemOk depth in_has kind x.0 × Sound x.1

values_sound : (opened : List ℕ) (ts : List Token) → Sound ts → Sound (grammar.past_values opened ts)
values_sound opened [] h = tt
values_sound opened (t ∷ ts) h = elim (cases_Bool (is_end_kind t.kind || ((length opened == 0) && ends (t ∷ ts)))) [
  | inl is ↦ rw is h
  | inr is ↦ rw is (values_sound (grammar.brackets_after opened t.kind) ts h.1)
]

forgiven_sound : (depth : ℕ) (in_has : Bool) (r : grammar.ComplexRead) (ts : List Token) → Gives (ComplexSound depth in_has) r → Sound ts
    → Gives (ItemSound depth in_has Forgiving) (grammar.forgiven r ts)
forgiven_sound depth in_has (Ok x) ts own h = elim (cases_Bool (ends x.1)) [
  | inl is ↦ rw is own
  | inr is ↦ rw is (tt, values_sound [] ts h)
]
forgiven_sound depth in_has (Err e) ts own h = elim (cases_Bool (grammar.is_final e.fault)) [
  | inl is ↦ rw is tt
  | inr is ↦ rw is (tt, values_sound [] ts h)
]

item_of_sound : (depth : ℕ) (in_has : Bool) (kind : ListKind) (ts : List Token) → Within in_has kind → InnerSound depth → Sound ts
    → Gives (ItemSound depth in_has kind) (grammar.item_of (at_depth depth) in_has kind ts)
item_of_sound depth in_has Plain ts within inner h =
    bind (ComplexSound depth in_has) (ItemSound depth in_has Plain) (grammar.complex (at_depth depth) in_has ts) (λ c. Ok (Some c.0, c.1))
    (complex_sound depth in_has ts inner h) (λ c sound. sound)
item_of_sound depth in_has Forgiving ts within inner h =
    forgiven_sound depth in_has (grammar.complex (at_depth depth) in_has ts) ts (complex_sound depth in_has ts inner h) h
item_of_sound depth in_has Relative ts within inner h =
    bind (RelativeSound depth) (ItemSound depth in_has Relative) (grammar.relative (at_depth depth) in_has ts)
    (λ r. Ok (Some (grammar.has_alone r.0), r.1))
    (subst (λ (b : Bool). Gives (RelativeSound depth) (grammar.relative (at_depth depth) b ts)) (sym (within refl))
    (relative_sound depth ts inner h))
    (λ r sound. ((refl, (sound.0, refl)), sound.1))

item_sound : (depth : ℕ) (in_has : Bool) (kind : ListKind) (ts : List Token) → Within in_has kind → InnerSound depth → Sound ts
    → Gives (ItemSound depth in_has kind) (grammar.item (at_depth depth) in_has kind ts)
unfolding grammar.item
item_sound depth in_has kind ts within inner h = item_of_sound depth in_has kind ts within inner h

abbrev SoFar : ℕ → Bool → ListKind → ListTree → Type 0
SoFar depth in_has Plain list = IsList list depth in_has
SoFar depth in_has Forgiving list = IsList list depth in_has
SoFar depth in_has Relative list = IsHasList list depth

abbrev EndSound : ℕ → Bool → ListKind → ListTree × List Token → Type 0
EndSound depth in_has kind x = ListOk depth in_has kind x.0 × Sound x.1

front_so_far : (depth : ℕ) (in_has : Bool) (kind : ListKind) (o : Option ComplexTree) (list : ListTree) → ItemOk depth in_has kind o
    → SoFar depth in_has kind list → SoFar depth in_has kind (grammar.in_front o list)
front_so_far depth in_has Plain (Some one) list own before = (own, before)
front_so_far depth in_has Plain None list own before = absurd own
front_so_far depth in_has Forgiving (Some one) list own before = (own, before)
front_so_far depth in_has Forgiving None list own before = before
front_so_far depth in_has Relative (Some one) list own before = (own, before)
front_so_far depth in_has Relative None list own before = absurd own

front_ok : (depth : ℕ) (in_has : Bool) (kind : ListKind) (o : Option ComplexTree) (list : ListTree) → ItemOk depth in_has kind o
    → SoFar depth in_has kind list → ListOk depth in_has kind (grammar.in_front o list)
front_ok depth in_has Plain (Some one) list own before = (refl, (own, before))
front_ok depth in_has Plain None list own before = absurd own
front_ok depth in_has Forgiving (Some one) list own before = (own, before)
front_ok depth in_has Forgiving None list own before = before
front_ok depth in_has Relative (Some one) list own before = (refl, (own, before))
front_ok depth in_has Relative None list own before = absurd own

finished_sound : (depth : ℕ) (in_has : Bool) (kind : ListKind) (list : ListTree) (rest : List Token) → ListOk depth in_has kind list
    → Sound rest
    → Gives (EndSound depth in_has kind) (grammar.finished list rest)
finished_sound depth in_has kind list rest own h = elim (cases_Bool (ends rest)) [ inl is ↦ rw is (own, h) | inr is ↦ rw is tt ]

choose : (depth : ℕ) (in_has : Bool) (kind : ListKind) (b : Bool) (x y : grammar.ListRead) → Gives (EndSound depth in_has kind) x
    → Gives (EndSound depth in_has kind) y → Gives (EndSound depth in_has kind) (cond b x y)
choose depth in_has kind true x y h k = h
choose depth in_has kind false x y h k = k

items_sound : (n depth : ℕ) (in_has : Bool) (kind : ListKind) (so_far : ListTree) (ts : List Token) → Within in_has kind → InnerSound depth
    → SoFar depth in_has kind so_far → Sound ts → Gives (EndSound depth in_has kind) (grammar.items
    (at_depth depth) in_has kind n so_far ts)
items_sound zero depth in_has kind so_far ts within inner before h = tt
items_sound (suc n) depth in_has kind so_far ts within inner before h =
    bind (ItemSound depth in_has kind) (EndSound depth in_has kind) (grammar.item (at_depth depth) in_has kind ts)
    (λ one. cond (is_delim 44 one.1) (grammar.items (at_depth depth) in_has kind n (grammar.in_front one.0 so_far) (drop 1 one.1))
    (grammar.finished (grammar.in_front one.0 so_far) one.1)) (item_sound depth in_has kind ts within inner h)
    (λ one sound. choose depth in_has kind (is_delim 44 one.1)
    (grammar.items (at_depth depth) in_has kind n (grammar.in_front one.0 so_far) (drop 1 one.1))
    (grammar.finished (grammar.in_front one.0 so_far) one.1)
    (items_sound n depth in_has kind (grammar.in_front one.0 so_far) (drop 1 one.1) within inner
    (front_so_far depth in_has kind one.0 so_far sound.0 before) (sound_drop 1 one.1 sound.1))
    (finished_sound depth in_has kind (grammar.in_front one.0 so_far) one.1
    (front_ok depth in_has kind one.0 so_far sound.0 before) sound.1))

nothing_so_far : (depth : ℕ) (in_has : Bool) (kind : ListKind) → SoFar depth in_has kind NoSelectors
nothing_so_far depth in_has Plain = tt
nothing_so_far depth in_has Forgiving = tt
nothing_so_far depth in_has Relative = tt

one_less : (depth : ℕ) (in_has : Bool) (kind : ListKind) (r : grammar.ListRead) → Gives (EndSound depth in_has kind) r
    → Gives (ListSound (suc depth) in_has kind) r
one_less depth in_has kind (Ok x) h =
    let same : depth ≡ suc depth - 1 = omega arith in
    (omega arith, (subst (λ (d : ℕ). ListOk d in_has kind x.0) same h.0, h.1))
one_less depth in_has kind (Err e) h = tt

pub list_sound : (depth : ℕ) → InnerSound depth
unfolding list_at
list_sound zero in_has kind ts within h = tt
list_sound (suc depth) in_has kind ts within h = one_less depth in_has kind
    (grammar.items (at_depth depth) in_has kind (length ts) NoSelectors ts)
    (items_sound (length ts) depth in_has kind NoSelectors ts within (λ in_has kind ts within h. list_sound depth in_has kind ts within h)
    (nothing_so_far depth in_has kind) h)
