-- Pseudo-classes that are written are read back.
use Rattle.std.proofs.Common.{◌≡◌, ◌∙◌, ℕ, ◌-◌, Bool, true, false, Some}
use Rattle.std.proofs.Common.{List, [], ◌∷◌, ◌++◌, length, refl, sym, ap, subst, arith, append_assoc, inl, inr}
use Rattle.std.specs.Prelude.{◌==◌, codes}
use Rattle.std.proofs.lemmas.Bool.{cases_Bool, and_parts, eqb-true}
use Rattle.std.proofs.lemmas.List.{append-nil}
use Rattle.selectors.specs.declared.selector.Nth.{Nth}
use Rattle.selectors.specs.declared.selector.Simple.{Simple}
use Rattle.selectors.specs.declared.selector.Simple.TheVariants.{«Type», Namespace, Id, Class, Attribute, Root, Scope, Empty, NthChild}
use Rattle.selectors.specs.declared.selector.Simple.TheVariants.{NthOfType}
use Rattle.html_selector_text.specs.declared.simples.FunctionName.TheVariants.{NthClass}
use Rattle.html_selector_text.specs.declared.tokens.TokenKind.TheVariants.{Delim}
use Rattle.html_selector_text.specs.Characters.{at_name, at_number}
use Rattle.html_selector_text.specs.Scanning.{placed, token, is_word}
use Rattle.html_selector_text.specs.Simples.{next_part, pseudo, function_named, nth_class, function_of, nth_simple, first}
use Rattle.html_selector_text.specs.Written.{identifier, nth_text, is_first, simple_text, one_text}
use Rattle.html_selector_text.specs.Readable.{IsNth, IsPart}
use Rattle.html_selector_text.proofs.ReadBack.Lexing.{tokens_of, token_first}
use Rattle.html_selector_text.proofs.ReadBack.Words.{space_token}
use Rattle.html_selector_text.proofs.ReadBack.Parts.{follows, IsRead, IsWord, no_zeros, word_token, function_token, colon_token}
use Rattle.html_selector_text.proofs.ReadBack.Parts.{pseudo_read}
use Rattle.html_selector_text.proofs.ReadBack.Parts.{id_read, class_read, root_read, scope_read, empty_read}
use Rattle.html_selector_text.proofs.ReadBack.Attributes.{attribute_read}
use Rattle.html_selector_text.proofs.ReadBack.Numbers.{EndsNth, nth_read}

pub close_token : (total : ℕ) (rest : List ℕ)
    → tokens_of total (41 ∷ rest) ≡ placed (Delim 41) (total - length (41 ∷ rest)) ∷ tokens_of total rest
unfolding token at_number at_name
close_token total rest = token_first total 41 rest rest (Delim 41) refl refl

close_ends : (total : ℕ) (rest : List ℕ) → EndsNth total (41 ∷ rest)
close_ends total rest =
    let is = close_token total rest in
    record { ends = refl; number = rw is refl; plus = rw is refl; minus = rw is refl }

pub of_word : IsWord (codes "of")
unfolding identifier
of_word = record { is_name = no_zeros (codes "of") refl; as_it_is = refl }

-- `of` and its white space
pub of_token : (total : ℕ) (rest : List ℕ) → EndsNth total (32 ∷ 111 ∷ 102 ∷ 32 ∷ rest)
of_token total rest =
    let space = space_token total (111 ∷ 102 ∷ 32 ∷ rest) refl in
    let word = word_token total (codes "of") (32 ∷ rest) of_word refl in
    record { ends = refl; number = rw (space, word) refl; plus = rw (space, word) refl; minus = rw (space, word) refl }

-- A NUMBER OF SIBLINGS

function_read : (total : ℕ) (word : List ℕ) (of_type : Bool) (nth : Nth) (rest : List ℕ) → IsWord word → is_word word (codes "url") ≡ false
    → function_of word ≡ Some (NthClass of_type nth.from_end) → IsNth nth
    → IsRead total (nth_simple of_type nth) (58 ∷ (word ++ 40 ∷ (nth_text nth ++ 41 ∷ rest))) rest
unfolding next_part pseudo function_named nth_class
function_read total word of_type nth rest is url named value =
    let colon = colon_token total (word ++ 40 ∷ (nth_text nth ++ 41 ∷ rest)) in
    let function = function_token total word (nth_text nth ++ 41 ∷ rest) is url in
    let close = close_token total rest in
    let n = nth_read total nth (41 ∷ rest) value (close_ends total rest) in
    record {
      next = λ in_has. rw (colon, function, named, n.spaces, n.read _, close) refl;
      fewer = rw (colon, function) (omega (arith, n.fewer, ap length close));
    }

pub child_word : IsWord (codes "nth-child")
unfolding identifier
child_word = record { is_name = no_zeros (codes "nth-child") refl; as_it_is = refl }

pub last_child_word : IsWord (codes "nth-last-child")
unfolding identifier
last_child_word = record { is_name = no_zeros (codes "nth-last-child") refl; as_it_is = refl }

type_word : IsWord (codes "nth-of-type")
unfolding identifier
type_word = record { is_name = no_zeros (codes "nth-of-type") refl; as_it_is = refl }

last_type_word : IsWord (codes "nth-last-of-type")
unfolding identifier
last_type_word = record { is_name = no_zeros (codes "nth-last-of-type") refl; as_it_is = refl }

first_child_word : IsWord (codes "first-child")
unfolding identifier
first_child_word = record { is_name = no_zeros (codes "first-child") refl; as_it_is = refl }

last_one_word : IsWord (codes "last-child")
unfolding identifier
last_one_word = record { is_name = no_zeros (codes "last-child") refl; as_it_is = refl }

first_type_word : IsWord (codes "first-of-type")
unfolding identifier
first_type_word = record { is_name = no_zeros (codes "first-of-type") refl; as_it_is = refl }

last_one_type_word : IsWord (codes "last-of-type")
unfolding identifier
last_one_type_word = record { is_name = no_zeros (codes "last-of-type") refl; as_it_is = refl }

-- the first one, or the last one
first_read : (total : ℕ) (from_end : Bool) (rest : List ℕ) → follows rest ≡ true
    → IsRead total (NthChild (first from_end)) (simple_text (NthChild (first from_end)) ++ rest) rest
first_read total false rest follow = pseudo_read total (codes "first-child") rest (NthChild (first false)) first_child_word refl follow
first_read total true rest follow = pseudo_read total (codes "last-child") rest (NthChild (first true)) last_one_word refl follow

first_type_read : (total : ℕ) (from_end : Bool) (rest : List ℕ) → follows rest ≡ true
    → IsRead total (NthOfType (first from_end)) (simple_text (NthOfType (first from_end)) ++ rest) rest
first_type_read total false rest follow =
    pseudo_read total (codes "first-of-type") rest (NthOfType (first false)) first_type_word refl follow
first_type_read total true rest follow =
    pseudo_read total (codes "last-of-type") rest (NthOfType (first true)) last_one_type_word refl follow

is_first_one : (f s : ℕ) (d e : Bool) → f ≡ 1 → s ≡ 0 → d ≡ false
    → first e ≡ record { first = f; step = s; descends = d; from_end = e }
is_first_one f s d e a b c = cc

first_is : (nth : Nth) → IsNth nth → is_first nth ≡ true → first nth.from_end ≡ nth
first_is nth value is =
    let both = and_parts (nth.first == 1) (nth.step == 0) is in
    let none : nth.step ≡ 0 = eqb-true nth.step 0 both.1 in
    is_first_one nth.first nth.step nth.descends nth.from_end (eqb-true nth.first 1 both.0) none (value.rises none)

-- the text of a class with an argument, and what stands behind it
argument_text : (front text rest : List ℕ) → (front ++ (text ++ 41 ∷ [])) ++ rest ≡ front ++ (text ++ 41 ∷ rest)
argument_text front text rest = append_assoc front (text ++ 41 ∷ []) rest
    ∙ ap (λ (x : List ℕ). front ++ x) (append_assoc text (41 ∷ []) rest)

child_function : (total f s : ℕ) (d e : Bool) (rest : List ℕ) → IsNth (record { first = f; step = s; descends = d; from_end = e })
    → is_first (record { first = f; step = s; descends = d; from_end = e }) ≡ false
    → IsRead total (NthChild (record { first = f; step = s; descends = d; from_end = e }))
    (simple_text (NthChild (record { first = f; step = s; descends = d; from_end = e })) ++ rest) rest
child_function total f s d false rest value other =
    let nth : Nth = record { first = f; step = s; descends = d; from_end = false } in
    rw other (subst (λ (x : List ℕ). IsRead total (NthChild nth) x rest) (sym (argument_text (codes ":nth-child(") (nth_text nth) rest))
    (function_read total (codes "nth-child") false nth rest child_word refl refl value))
child_function total f s d true rest value other =
    let nth : Nth = record { first = f; step = s; descends = d; from_end = true } in
    rw other (subst (λ (x : List ℕ). IsRead total (NthChild nth) x rest) (sym (argument_text (codes ":nth-last-child(")
    (nth_text nth) rest))
    (function_read total (codes "nth-last-child") false nth rest last_child_word refl refl value))

type_function : (total f s : ℕ) (d e : Bool) (rest : List ℕ) → IsNth (record { first = f; step = s; descends = d; from_end = e })
    → is_first (record { first = f; step = s; descends = d; from_end = e }) ≡ false
    → IsRead total (NthOfType (record { first = f; step = s; descends = d; from_end = e }))
    (simple_text (NthOfType (record { first = f; step = s; descends = d; from_end = e })) ++ rest) rest
type_function total f s d false rest value other =
    let nth : Nth = record { first = f; step = s; descends = d; from_end = false } in
    rw other (subst (λ (x : List ℕ). IsRead total (NthOfType nth) x rest) (sym (argument_text (codes ":nth-of-type(") (nth_text nth) rest))
    (function_read total (codes "nth-of-type") true nth rest type_word refl refl value))
type_function total f s d true rest value other =
    let nth : Nth = record { first = f; step = s; descends = d; from_end = true } in
    rw other (subst (λ (x : List ℕ). IsRead total (NthOfType nth) x rest) (sym (argument_text (codes ":nth-last-of-type(")
    (nth_text nth) rest))
    (function_read total (codes "nth-last-of-type") true nth rest last_type_word refl refl value))

child_read : (total : ℕ) (nth : Nth) (rest : List ℕ) → IsNth nth → follows rest ≡ true
    → IsRead total (NthChild nth) (simple_text (NthChild nth) ++ rest) rest
child_read total nth rest value follow = elim (cases_Bool (is_first nth)) [
  | inl is ↦ subst (λ (x : Nth). IsRead total (NthChild x) (simple_text (NthChild x) ++ rest) rest) (first_is nth value is)
      (first_read total nth.from_end rest follow)
  | inr other ↦ child_function total nth.first nth.step nth.descends nth.from_end rest value other
]

type_read : (total : ℕ) (nth : Nth) (rest : List ℕ) → IsNth nth → follows rest ≡ true
    → IsRead total (NthOfType nth) (simple_text (NthOfType nth) ++ rest) rest
type_read total nth rest value follow = elim (cases_Bool (is_first nth)) [
  | inl is ↦ subst (λ (x : Nth). IsRead total (NthOfType x) (simple_text (NthOfType x) ++ rest) rest) (first_is nth value is)
      (first_type_read total nth.from_end rest follow)
  | inr other ↦ type_function total nth.first nth.step nth.descends nth.from_end rest value other
]

-- ALL PARTS

pub part_read : (total : ℕ) (simple : Simple) (rest : List ℕ) → IsPart simple → follows rest ≡ true
    → IsRead total simple (simple_text simple ++ rest) rest
part_read total («Type» name) rest is follow = absurd is
part_read total (Namespace known) rest is follow = absurd is
part_read total (Id name) rest is follow = id_read total name rest is follow
part_read total (Class name) rest is follow = class_read total name rest is follow
part_read total (Attribute test) rest is follow = attribute_read total test rest is
part_read total Root rest is follow = root_read total rest follow
part_read total Scope rest is follow = scope_read total rest follow
part_read total Empty rest is follow = empty_read total rest follow
part_read total (NthChild nth) rest is follow = child_read total nth rest is follow
part_read total (NthOfType nth) rest is follow = type_read total nth rest is follow

-- no `*` stands behind a part
pub part_text : (simple : Simple) (simples : List Simple) → IsPart simple → one_text simple simples ≡ simple_text simple
part_text («Type» name) simples is = absurd is
part_text (Namespace known) simples is = absurd is
part_text (Id name) simples is = append-nil (simple_text (Id name))
part_text (Class name) simples is = append-nil (simple_text (Class name))
part_text (Attribute test) simples is = append-nil (simple_text (Attribute test))
part_text Root simples is = append-nil (simple_text Root)
part_text Scope simples is = append-nil (simple_text Scope)
part_text Empty simples is = append-nil (simple_text Empty)
part_text (NthChild nth) simples is = append-nil (simple_text (NthChild nth))
part_text (NthOfType nth) simples is = append-nil (simple_text (NthOfType nth))
