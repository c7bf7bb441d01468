-- What becomes of the open elements around one of them.
use Rattle.std.proofs.Common.{◌≡◌, ◌∙◌, ℕ, Bool, true, false, List, [], ◌∷◌, ◌++◌, Some, None, refl, sym, ap, suc, drop, take}
use Rattle.std.proofs.Common.{get_or, map, remove, reverse, arith, subst, true≢false, eqb-true}
use Rattle.std.specs.Prelude.{◌||◌, nat_eq, not}
use Rattle.std.specs.List.{list_any}
use Rattle.markup.specs.Forest.{Forest, IsNode}
use Rattle.markup.proofs.PutTexts.{element-IsNode}
use Rattle.html_rules.specs.Names.{element_name_of}
use Rattle.html_rules_laws.specs.Soundness.{AreOpened}
use Rattle.html_rules.specs.Adoption.{furthest_block, is_number, opened_after, opened_before}
use Rattle.html_rules.specs.Choice.{choose}
use Rattle.html_rules.specs.Stack.{in_scope, is_open, without_number}
use Rattle.html_rules.specs.State.{Open, is_in}
use Rattle.html_rules.specs.declared.tag_set.TagSet.{TagSet}
use Rattle.html_rules.specs.declared.tag_set.TagSet.TheVariants as set
use Rattle.html_stack.specs.Found.{IsNewest}
use Rattle.html_stack.specs.Stacks.{open_of, opens_of}
use Rattle.html_stack.specs.declared.entries.OpenElement.{OpenElement}
use Rattle.html_stack.proofs.Newest.{or-left, or-right, removed-at, split-at}

pub number-none : (n : ℕ) (xs : List Open) → is_open n xs ≡ false → without_number n xs ≡ xs
number-none n [] h = refl
number-none n (x ∷ xs) h = rw (or-left (nat_eq x.number n) (is_open n xs) h)
    (ap (λ ys. x ∷ ys) (number-none n xs (or-right (nat_eq x.number n) (is_open n xs) h)))

pub number-at : (n : ℕ) (later : List Open) (x : Open) (earlier : List Open) → list_any (is_number n) later ≡ false
    → is_number n x ≡ true → without_number n (later ++ x ∷ earlier) ≡ later ++ earlier
number-at n [] x earlier h here = rw here refl
number-at n (y ∷ later) x earlier h here = rw (or-left (nat_eq y.number n) (list_any (is_number n) later) h)
    (ap (λ ys. y ∷ ys) (number-at n later x earlier (or-right (nat_eq y.number n) (list_any (is_number n) later) h) here))

pub before-at : (n : ℕ) (later : List Open) (x : Open) (earlier : List Open) → list_any (is_number n) later ≡ false
    → is_number n x ≡ true → opened_before n (later ++ x ∷ earlier) ≡ earlier
before-at n [] x earlier h here = rw here refl
before-at n (y ∷ later) x earlier h here = rw (or-left (nat_eq y.number n) (list_any (is_number n) later) h)
    (before-at n later x earlier (or-right (nat_eq y.number n) (list_any (is_number n) later) h) here)

pub after-at : (n : ℕ) (later : List Open) (x : Open) (earlier : List Open) → list_any (is_number n) later ≡ false
    → is_number n x ≡ true → opened_after n (later ++ x ∷ earlier) ≡ later
after-at n [] x earlier h here = rw here refl
after-at n (y ∷ later) x earlier h here = rw (or-left (nat_eq y.number n) (list_any (is_number n) later) h)
    (ap (λ ys. y ∷ ys) (after-at n later x earlier (or-right (nat_eq y.number n) (list_any (is_number n) later) h) here))

pub open-at : (n : ℕ) (later : List Open) (x : Open) (earlier : List Open) → is_number n x ≡ true → is_open n (later ++ x ∷ earlier) ≡ true
open-at n [] x earlier here = rw here refl
open-at n (y ∷ later) x earlier here = rw (open-at n later x earlier here) (or-true (nat_eq y.number n)) where
  or-true : (b : Bool) → (b || true) ≡ true
  or-true true = refl
  or-true false = refl

passed : (b c d : Bool) → c ≡ not d → choose b (λ _. false) (λ _. c) ≡ not (b || d)
passed true c d e = refl
passed false c d e = e

-- one that is open is in scope where no later one bounds it
pub scope-at : (n : ℕ) (scope : TagSet) (later : List Open) (x : Open) (earlier : List Open)
    → list_any (is_number n) later ≡ false → is_number n x ≡ true → in_scope scope (is_number n)
    (later ++ x ∷ earlier) ≡ not (list_any (is_in scope) later)
scope-at n scope [] x earlier h here = rw here refl
scope-at n scope (y ∷ later) x earlier h here =
    rw (or-left (nat_eq y.number n) (list_any (is_number n) later) h)
    (passed (is_in scope y) _ _ (scope-at n scope later x earlier (or-right (nat_eq y.number n) (list_any (is_number n) later) h) here))

-- the furthest block
pub block-none : (xs : List Open) → list_any (is_in set.SpecialTag) xs ≡ false → furthest_block xs ≡ None
block-none [] h = refl
block-none (x ∷ xs) h = rw (
  block-none xs (or-right (is_in set.SpecialTag x) (list_any (is_in set.SpecialTag) xs) h),
  or-left (is_in set.SpecialTag x) (list_any (is_in set.SpecialTag) xs) h,
) refl

pub block-deeper : (newer xs : List Open) (b : Open) → furthest_block xs ≡ Some b → furthest_block (newer ++ xs) ≡ Some b
block-deeper [] xs b h = h
block-deeper (y ∷ newer) xs b h = rw (block-deeper newer xs b h) refl

pub block-at : (newer : List Open) (x : Open) (xs : List Open) → furthest_block xs ≡ None
    → is_in set.SpecialTag x ≡ true → furthest_block (newer ++ x ∷ xs) ≡ Some x
block-at newer x xs h here = block-deeper newer (x ∷ xs) x (rw (h, here) refl)

-- an element leaves the vector
pub unstacked : {H : Type 0} (node : H → ℕ) (n : ℕ) (xs : List (OpenElement H)) (i : ℕ) → IsNewest (open_of node)
    (is_number n) xs i → without_number n (opens_of node xs) ≡ opens_of node (remove xs i)
unstacked node n [] i is = absurd (let less = is.within in omega arith)
unstacked node n (x ∷ xs) i is =
    ap (without_number n) (split-at (open_of node) (x ∷ xs) i x is.within)
    ∙ number-at n (reverse (map (open_of node) (drop (suc i) (x ∷ xs)))) (open_of node (get_or (x ∷ xs) i x))
    (reverse (map (open_of node) (take i (x ∷ xs)))) is.newer (is.here x)
    ∙ sym (removed-at (open_of node) (x ∷ xs) i)

pub newest-open : {H : Type 0} (node : H → ℕ) (n : ℕ) (xs : List (OpenElement H)) (i : ℕ) → IsNewest (open_of node)
    (is_number n) xs i → is_open n (opens_of node xs) ≡ true
newest-open node n [] i is = absurd (let less = is.within in omega arith)
newest-open node n (x ∷ xs) i is =
    ap (is_open n) (split-at (open_of node) (x ∷ xs) i x is.within)
    ∙ open-at n (reverse (map (open_of node) (drop (suc i) (x ∷ xs)))) (open_of node (get_or (x ∷ xs) i x))
    (reverse (map (open_of node) (take i (x ∷ xs)))) (is.here x)

-- an element that is open is a node
pub open-node : (f : Forest) (n : ℕ) (xs : List Open) → AreOpened f xs → is_open n xs ≡ true → IsNode f n
open-node f n [] h e = absurd (true≢false (sym e))
open-node f n (x ∷ xs) h e = by (nat_eq x.number n) refl e (open-node f n xs h.1) where
  by : (b : Bool) → nat_eq x.number n ≡ b → (b || is_open n xs) ≡ true → (is_open n xs ≡ true → IsNode f n) → IsNode f n
  by true same e go = subst (λ k. IsNode f k) (eqb-true x.number n same)
      (element-IsNode f x.number (element_name_of x.namespace x.name) h.0.named)
  by false same e go = go e
