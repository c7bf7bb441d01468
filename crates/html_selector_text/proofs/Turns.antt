-- One turn of each loop of the grammar, where i of n turns were made, and what is wrong in one.
use Rattle.std.proofs.Common.{◌≡◌, ◌∙◌, ℕ, suc, ◌+◌, ◌-◌, ◌<◌, Bool, cond, List, [], ◌∷◌, ◌++◌, map, drop, Some, None}
use Rattle.std.proofs.Common.{Result, Ok, refl, ap, arith}
use Rattle.selectors.specs.declared.selector.Combinator.{Combinator}
use Rattle.html_selector_text.specs.declared.fault.SelectorError.{SelectorError}
use Rattle.html_selector_text.specs.declared.fault.SelectorError.TheVariants as errors
use Rattle.html_selector_text.specs.declared.simples.ListKind.{ListKind}
use Rattle.html_selector_text.specs.declared.tokens.Token.{Token}
use Rattle.html_selector_text.specs.Results.{Wrong, ◌>>=◌, Fails}
use Rattle.html_selector_text.specs.Reading.{is_delim, past_spaces}
use Rattle.html_selector_text.specs.Trees.{ListTree, ComplexTree, BesideTree, CompoundTree, RelativeTree, ToTree, ThenTree}
use Rattle.html_selector_text.specs.declared.trees.LeftPart.{LeftPart}
use Rattle.html_selector_text.specs.Trees.{LeftTree, left_tree, joined}
use Rattle.std.proofs.lemmas.List.{map-append}
use Rattle.html_selector_text.specs.Grammar.{Inner, CompoundRead, ComplexRead, ListRead, turn, parts, compound, combinator_of}
use Rattle.html_selector_text.specs.Grammar.{past_combinator, beside, item, items}
use Rattle.html_selector_text.specs.Grammar.{in_front, finished, RelativeRead, behind, relative_to}

more : (n i : ℕ) → i < n → n - i ≡ suc (n - (i + 1))
more n i less = omega arith

-- what is wrong with a first step is wrong with both
fails_first : {A B : Type 0} (e : SelectorError) (first : Result A Wrong) (f : A → Result B Wrong) (both : Result B Wrong)
    → Fails e first → both ≡ (first >>= f) → Fails e both
fails_first errors.Memory first f both h is = tt
fails_first (errors.Syntax fault at) first f both h is = is ∙ rw h refl

pub parts_step : (inner : Inner) (in_has : Bool) (n i : ℕ) (so_far : CompoundTree) (tokens : List Token) → i < n
    → parts inner in_has (n - i) so_far tokens ≡ (turn inner in_has so_far tokens
    >>= λ t. cond t.goes_on (parts inner in_has (n - (i + 1)) t.compound t.rest) (Ok (t.compound, t.rest)))
parts_step inner in_has n i so_far tokens less = rw (more n i less) refl

pub parts_fails : (e : SelectorError) (inner : Inner) (in_has : Bool) (n i : ℕ) (so_far : CompoundTree) (tokens : List Token)
    (whole : CompoundRead) → i < n → whole ≡ parts inner in_has (n - i) so_far tokens → Fails e (turn inner in_has so_far tokens)
    → Fails e whole
parts_fails e inner in_has n i so_far tokens whole less is h = fails_first e (turn inner in_has so_far tokens)
    (λ t. cond t.goes_on (parts inner in_has (n - (i + 1)) t.compound t.rest) (Ok (t.compound, t.rest))) whole h
    (is ∙ parts_step inner in_has n i so_far tokens less)

pub beside_step : (inner : Inner) (in_has : Bool) (n i : ℕ) (so_far : ComplexTree) (tokens : List Token) → i < n
    → beside inner in_has (n - i) so_far tokens ≡ elim (combinator_of tokens) as (λ _. ComplexRead) [
      | None ↦ Ok (so_far, past_spaces tokens)
      | Some combinator ↦ compound inner in_has (past_combinator tokens)
          >>= λ c. beside inner in_has (n - (i + 1)) (BesideTree so_far combinator c.0.simples c.0.tests) c.1
    ]
beside_step inner in_has n i so_far tokens less = rw (more n i less) refl

pub beside_fails : (e : SelectorError) (inner : Inner) (in_has : Bool) (n i : ℕ) (so_far : ComplexTree) (tokens : List Token)
    (combinator : Combinator) (whole : ComplexRead) → i < n → whole ≡ beside inner in_has (n - i) so_far tokens
    → combinator_of tokens ≡ Some combinator → Fails e (compound inner in_has (past_combinator tokens)) → Fails e whole
beside_fails e inner in_has n i so_far tokens combinator whole less is some h =
    fails_first e (compound inner in_has (past_combinator tokens))
    (λ c. beside inner in_has (n - (i + 1)) (BesideTree so_far combinator c.0.simples c.0.tests) c.1) whole h
    (is ∙ (beside_step inner in_has n i so_far tokens less ∙ rw some refl))

pub items_step : (inner : Inner) (in_has : Bool) (kind : ListKind) (n i : ℕ) (so_far : ListTree) (tokens : List Token) → i < n
    → items inner in_has kind (n - i) so_far tokens ≡ (item inner in_has kind tokens
    >>= λ one. cond (is_delim 44 one.1) (items inner in_has kind (n - (i + 1)) (in_front one.0 so_far) (drop 1 one.1))
    (finished (in_front one.0 so_far) one.1))
items_step inner in_has kind n i so_far tokens less = rw (more n i less) refl

pub items_fails : (e : SelectorError) (inner : Inner) (in_has : Bool) (kind : ListKind) (n i : ℕ) (so_far : ListTree)
    (tokens : List Token) (whole : ListRead) → i < n → whole ≡ items inner in_has kind (n - i) so_far tokens
    → Fails e (item inner in_has kind tokens) → Fails e whole
items_fails e inner in_has kind n i so_far tokens whole less is h = fails_first e (item inner in_has kind tokens)
    (λ one. cond (is_delim 44 one.1) (items inner in_has kind (n - (i + 1)) (in_front one.0 so_far) (drop 1 one.1))
    (finished (in_front one.0 so_far) one.1)) whole h (is ∙ items_step inner in_has kind n i so_far tokens less)

pub relative_step : (inner : Inner) (in_has : Bool) (n i : ℕ) (so_far : List LeftTree) (first : Combinator) (tokens : List Token) → i < n
    → relative_to inner in_has (n - i) so_far first tokens ≡ (compound inner in_has tokens
    >>= λ c. elim (combinator_of c.1) as (λ _. RelativeRead) [
      | None ↦ Ok (joined so_far (ToTree first c.0.simples c.0.tests), past_spaces c.1)
      | Some combinator ↦ relative_to inner in_has (n - (i + 1)) (so_far ++ behind first c.0 ∷ []) combinator (past_combinator c.1)
    ])
relative_step inner in_has n i so_far first tokens less = rw (more n i less) refl

pub relative_fails : (e : SelectorError) (inner : Inner) (in_has : Bool) (n i : ℕ) (so_far : List LeftTree) (first : Combinator)
    (tokens : List Token) (whole : RelativeRead) → i < n → whole ≡ relative_to inner in_has (n - i) so_far first tokens
    → Fails e (compound inner in_has tokens) → Fails e whole
relative_fails e inner in_has n i so_far first tokens whole less is h = fails_first e (compound inner in_has tokens)
    (λ c. elim (combinator_of c.1) as (λ _. RelativeRead) [
      | None ↦ Ok (joined so_far (ToTree first c.0.simples c.0.tests), past_spaces c.1)
      | Some combinator ↦ relative_to inner in_has (n - (i + 1)) (so_far ++ behind first c.0 ∷ []) combinator (past_combinator c.1)
    ]) whole h (is ∙ relative_step inner in_has n i so_far first tokens less)

-- one compound selector more
pub lefts_more : (parts : List LeftPart) (part : LeftPart) → map left_tree (parts ++ part ∷ []) ≡ map left_tree parts ++ left_tree part ∷ []
lefts_more parts part = map-append left_tree parts (part ∷ [])

pub joined_append : (lefts : List LeftTree) (left : LeftTree) (rest : RelativeTree)
    → joined (lefts ++ left ∷ []) rest ≡ joined lefts (ThenTree left.combinator left.compound.simples left.compound.tests rest)
joined_append [] left rest = refl
joined_append (l ∷ ls) left rest = ap (ThenTree l.combinator l.compound.simples l.compound.tests) (joined_append ls left rest)

-- the last compound selector is in front of the rest
pub joined_last : (parts : List LeftPart) (part : LeftPart) (rest : RelativeTree) → joined (map left_tree (parts ++ part ∷ [])) rest
    ≡ joined (map left_tree parts) (ThenTree part.combinator (left_tree part).compound.simples (left_tree part).compound.tests rest)
joined_last parts part rest = rw (lefts_more parts part) (joined_append (map left_tree parts) (left_tree part) rest)
