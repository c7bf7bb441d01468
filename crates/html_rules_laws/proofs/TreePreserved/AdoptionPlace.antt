-- The place for the common ancestor lies outside the block that the adoption agency moves, since the formatting element is in scope.
use Rattle.std.proofs.Common.{◌≡◌, ◌∙◌, ℕ, ◌+◌, ◌-◌, ◌<◌, Bool, true, false, List, [], ◌∷◌, ◌++◌, Option, Some, None, refl, sym}
use Rattle.std.proofs.Common.{ap, subst, true≢false, arith}
use Rattle.std.specs.Prelude.{◌&&◌, ◌||◌, nat_eq}
use Rattle.std.proofs.lemmas.Bool.{eq-eqb, ne_eqb}
use Rattle.markup.specs.Forest.{Above, Forest, Place, above_of, data_of, is_contents, node_count, parent_at, parent_of, place_near}
use Rattle.markup.specs.Forest.NodeData.{Contents}
use Rattle.markup.specs.Named.{IsTree}
use Rattle.markup.proofs.PutTexts.{element-IsNode}
use Rattle.markup.proofs.Walks.{Above-IsNode, Above-step, Above-trans}
use Rattle.html_rules.specs.Adoption.{furthest_block, is_number, opened_after, opened_before, or_first}
use Rattle.html_rules.specs.Choice.{choose}
use Rattle.html_rules.specs.Names.{element_name_of}
use Rattle.html_rules.specs.Places.{foster_place, inside, place_for}
use Rattle.html_rules.specs.Stack.{in_scope, is_open, number_from, root_number}
use Rattle.html_rules.specs.Sets.{mathml_names_of, names_of, svg_names_of}
use Rattle.html_rules.specs.State.{Open, current_node, current_number, is_in}
use Rattle.html_rules.specs.declared.tag_set.TagSet.TheVariants as set
use Rattle.html_rules_laws.specs.Soundness.{AreOpened, IsApart, IsClear, IsOpened}
use Rattle.html_rules_laws.proofs.TreePreserved.AdoptionOrder.{Each, NoneAbove, apart-between, apart-right, clear-rows}
use Rattle.html_rules_laws.proofs.TreePreserved.AdoptionOrder.{each-map, opened-left, opened-right}
use Rattle.html_rules_laws.proofs.TreePreserved.AdoptionStanding.{element-plain, not_above_document}
use Rattle.html_rules_laws.proofs.SetFacts.{out-within}
use Rattle.html_rules_laws.proofs.TreePreserved.Standing.{IsPart, gone, kept, part-apart, part-clear, part-opened, part-same}
use Rattle.html_rules_laws.proofs.TreePreserved.StandingTrees.{template-Parent, template-data}

-- a node that neither the block nor a later element stands above
pub record IsOuter (f : Forest) (block : Open) (later : List Open) (q : ℕ) : Type 0 where
  pub there : q < node_count f
  pub under : Above f block.number q → ⊥
  pub none : NoneAbove f later q

abbrev AreOuter : Forest → Open → List Open → List Open → Type 0
AreOuter f block later [] = Unit {0}
AreOuter f block later (x ∷ xs) = IsOuter f block later x.number × AreOuter f block later xs

-- what a later element is above, in terms of another node
none-map : (f : Forest) (xs : List Open) (p q : ℕ) → AreOpened f xs → NoneAbove f xs p
    → ((x : Open) → IsOpened f x → Above f x.number q → Above f x.number p) → NoneAbove f xs q
none-map f [] p q h n up = tt
none-map f (x ∷ xs) p q h n up = (λ a. n.0 (up x h.0 a), none-map f xs p q h.1 n.1 up)

none-document : (f : Forest) (xs : List Open) → IsTree f → above_of f 0 ≡ None → AreOpened f xs → NoneAbove f xs 0
none-document f [] tree top h = tt
none-document f (x ∷ xs) tree top h = (not_above_document f x tree top h.0, none-document f xs tree top h.1)

document-Outer : (f : Forest) (block : Open) (later : List Open) → IsTree f → above_of f 0 ≡ None → IsOpened f block
    → AreOpened f later → IsOuter f block later 0
document-Outer f block later tree top is h = record {
  there = tree.forest.document;
  under = not_above_document f block tree top is;
  none = none-document f later tree top h;
}

outer-map : (f : Forest) (block : Open) (later : List Open) (p q : ℕ) → q < node_count f → IsOpened f block
    → AreOpened f later → IsOuter f block later p
    → ((x : Open) → IsOpened f x → Above f x.number q → Above f x.number p) → IsOuter f block later q
outer-map f block later p q there is h outer up = record {
  there = there;
  under = λ a. outer.under (up block is a);
  none = none-map f later p q h outer.none up;
}

-- what bounds no scope is neither a template nor a table
not_template : (x : Open) → is_in set.DefaultScope x ≡ false → is_in set.Template x ≡ false
unfolding names_of mathml_names_of svg_names_of
not_template x h = out-within set.Template set.DefaultScope refl x h

not_table : (x : Open) → is_in set.DefaultScope x ≡ false → is_in set.Table x ≡ false
unfolding names_of mathml_names_of svg_names_of
not_table x h = out-within set.Table set.DefaultScope refl x h

-- the contents of a template are outside where it is
contents-Outer : (f : Forest) (block : Open) (later : List Open) (x : Open) → IsTree f → IsOpened f block
    → AreOpened f later → IsOpened f x → is_in set.Template x ≡ true → IsOuter f block later x.number → IsOuter f block later (x.number + 1)
contents-Outer f block later x tree is h named t outer =
    let n : ℕ = x.number + 1 in
    let about : data_of f n ≡ Contents = template-data f x tree named t in
    let above : above_of f n ≡ Some x.number = rw about (ap Some (let e : x.number + 1 - 1 ≡ x.number = omega arith in e)) in
    outer-map f block later x.number n (template-Parent f x tree named t).there is h outer
    (λ y opened up. Above-step f y.number n x.number
    (λ same. let plain = element-plain (data_of f y.number) (element_name_of y.namespace y.name) opened.named
    in let plain' : is_contents (data_of f n) ≡ false = subst (λ k. is_contents (data_of f k) ≡ false)
    (sym same) plain in true≢false (sym (ap is_contents about) ∙ plain')) above up)

-- in a forest that has nothing new above what is outside, the parent of an element that is outside is so too
parent-Outer : (f0 f : Forest) (block : Open) (later : List Open) (x : Open) (p : ℕ) → IsOpened f0 block → AreOpened f0 later → IsOpened f x
    → ((a n : ℕ) → n < node_count f0 → (Above f0 block.number n → ⊥) → Above f a n → Above f0 a n)
    → IsOuter f0 block later x.number → parent_of f x.number ≡ Some p → IsOuter f0 block later p
parent-Outer f0 f block later x p is h named outside outer e =
    let plain = element-plain (data_of f x.number) (element_name_of x.namespace x.name) named.named in
    let above : above_of f x.number ≡ Some p = rw plain e in
    let old : Above f0 p x.number = outside p x.number outer.there outer.under (Above.further above Above.here) in
    outer-map f0 block later x.number p (Above-IsNode f0 p x.number outer.there old) is h outer
    (λ y opened up. Above-trans f0 y.number p x.number up old)

outer-choose : (f : Forest) (block : Open) (later : List Open) (b : Bool) (p q : Place)
    → (b ≡ true → IsOuter f block later (parent_at p)) → (b ≡ false → IsOuter f block later (parent_at q))
    → IsOuter f block later (parent_at (choose b (λ _. p) (λ _. q)))
outer-choose f block later true p q h k = h refl
outer-choose f block later false p q h k = k refl

module _ (f0 f : Forest) (block : Open) (later : List Open) (tree : IsTree f0) (is : IsOpened f0 block) (h : AreOpened f0 later)
    (outside : (a n : ℕ) → n < node_count f0 → (Above f0 block.number n → ⊥) → Above f a n → Above f0 a n)
    (document : IsOuter f0 block later 0)
  where
    near-Outer : (x : Open) (xs : List Open) → IsOpened f x → AreOuter f0 block later (x ∷ xs)
        → IsOuter f0 block later (parent_at (place_near x.number (current_number xs) (parent_of f x.number)))
    near-Outer x xs named outer = by (parent_of f x.number) refl where
      current : (xs : List Open) → AreOuter f0 block later xs → IsOuter f0 block later (current_number xs)
      current [] o = document
      current (y ∷ ys) o = o.0

      by : (o : Option ℕ) → parent_of f x.number ≡ o → IsOuter f0 block later (parent_at (place_near x.number (current_number xs) o))
      by None e = current xs outer.1
      by (Some p) e = parent-Outer f0 f block later x p is h named outside outer.0 e

    foster-Outer : (root : ℕ) (xs : List Open) → AreOpened f0 xs → AreOpened f xs → AreOuter f0 block later xs
        → IsOuter f0 block later root → IsOuter f0 block later (parent_at (foster_place f root xs))
    foster-Outer root [] old now outer r = r
    foster-Outer root (x ∷ xs) old now outer r =
        outer-choose f0 block later (is_in set.Template x) _ _
        (λ e. contents-Outer f0 block later x tree is h old.0 e outer.0)
        (λ e. outer-choose f0 block later (is_in set.Table x) _ _ (λ e. near-Outer x xs now.0 outer)
        (λ e. foster-Outer root xs old.1 now.1 outer.1 r))

    inside-Outer : (x : Open) → IsOpened f0 x → IsOuter f0 block later x.number → IsOuter f0 block later (parent_at (inside x))
    inside-Outer x old outer = outer-choose f0 block later (is_in set.Template x) _ _
        (λ e. contents-Outer f0 block later x tree is h old e outer) (λ e. outer)

-- elements that bound no scope are passed over where a foster parent is looked for
abbrev AreInside : List Open → Type 0
AreInside [] = Unit {0}
AreInside (x ∷ xs) = (is_in set.DefaultScope x ≡ false) × AreInside xs

foster-passes : (f : Forest) (root : ℕ) (xs ys : List Open) → AreInside xs → foster_place f root (xs ++ ys) ≡ foster_place f root ys
foster-passes f root [] ys h = refl
foster-passes f root (x ∷ xs) ys h = rw (not_template x h.0, not_table x h.0) (foster-passes f root xs ys h.1)

-- the elements opened after one that is in scope bound none
scope-inside : (n : ℕ) (xs : List Open) → in_scope set.DefaultScope (is_number n) xs ≡ true → AreInside (opened_after n xs)
scope-inside n [] h = tt
scope-inside n (x ∷ xs) h = by (nat_eq x.number n) (is_in set.DefaultScope x) refl h (scope-inside n xs) where
  by : (a b : Bool) → is_in set.DefaultScope x ≡ b → choose a (λ _. true)
      (λ _. choose b (λ _. false) (λ _. in_scope set.DefaultScope (is_number n) xs)) ≡ true
      → (in_scope set.DefaultScope (is_number n) xs ≡ true → AreInside (opened_after n xs))
      → AreInside (choose a (λ _. []) (λ _. x ∷ opened_after n xs))
  by true b e h rest = tt
  by false true e h rest = absurd (true≢false (sym h))
  by false false e h rest = (e, rest h)

-- an open element, and what was opened after it and before it
pub record IsSplit (n : ℕ) (xs : List Open) (x : Open) : Type 0 where
  pub number : nat_eq x.number n ≡ true
  pub parts : xs ≡ opened_after n xs ++ x ∷ opened_before n xs

pub split : (n : ℕ) (xs : List Open) → is_open n xs ≡ true → (x : Open) × IsSplit n xs x
split n [] h = absurd (true≢false (sym h))
split n (x ∷ xs) h = by (nat_eq x.number n) refl h (split n xs) where
  by : (b : Bool) → nat_eq x.number n ≡ b → (b || is_open n xs) ≡ true
      → (is_open n xs ≡ true → (y : Open) × IsSplit n xs y) → (y : Open) × IsSplit n (x ∷ xs) y
  by true e h go = (x, record { number = e; parts = rw e refl })
  by false e h go = let rest = go h in (rest.0, record { number = rest.1.number; parts = rw e (ap (λ ys. x ∷ ys) rest.1.parts) })

-- an open element, with what was opened after it and before it, where a block is the furthest of those after it
pub record IsCut (n : ℕ) (block : Open) (xs : List Open) (x : Open) : Type 0 where
  pub parts : xs ≡ opened_after n xs ++ x ∷ opened_before n xs
  pub part : IsPart (opened_after block.number xs ++ block ∷ x ∷ opened_before n xs) xs

pub part-behind : (xs ys : List Open) → IsPart ys (xs ++ ys)
part-behind [] ys = part-same ys
part-behind (x ∷ xs) ys = gone x (xs ++ ys) ys (part-behind xs ys)

pub split-part : (n : ℕ) (xs : List Open) (x : Open) → IsSplit n xs x → IsPart (x ∷ opened_before n xs) xs
split-part n xs x is = subst (λ ys. IsPart (x ∷ opened_before n xs) ys) (sym is.parts)
    (part-behind (opened_after n xs) (x ∷ opened_before n xs))

pub none-some : (x : Open) → None ≡ Some x → ⊥
none-some x e = cc

pub special-is : (b : Bool) (x block : Open) → choose b (λ _. Some x) (λ _. None) ≡ Some block → x ≡ block
special-is true x block e = some-is x block e where
  some-is : (x y : Open) → Some x ≡ Some y → x ≡ y
  some-is x y e = cc
special-is false x block e = absurd (none-some block e)

pub cut : (f : Forest) (n : ℕ) (block : Open) (xs : List Open) → IsApart f xs → is_open n xs ≡ true
    → furthest_block (opened_after n xs) ≡ Some block → (x : Open) × IsCut n block xs x
cut f n block [] a h e = absurd (true≢false (sym h))
cut f n block (x ∷ xs) a h e = by (nat_eq x.number n) refl h e (cut f n block xs a.1) where
  deeper : (o : Option Open) → nat_eq x.number n ≡ false → is_open n xs ≡ true
      → furthest_block (opened_after n xs) ≡ o → or_first o x ≡ Some block
      → (is_open n xs ≡ true → furthest_block (opened_after n xs) ≡ Some block → (y : Open) × IsCut n block xs y)
      → (y : Open) × IsCut n block (x ∷ xs) y
  deeper (Some other) b h e e' go =
      let rest = go h (e ∙ e') in
      let clear = part-clear f x.number xs (opened_after block.number xs ++ block ∷ rest.0 ∷ opened_before n xs) rest.1.part a.0 in
      let apart : nat_eq x.number block.number ≡ false = ne_eqb x.number block.number
      (λ same. clear-in f x.number (opened_after block.number xs) block (rest.0 ∷ opened_before n xs) clear
      (subst (λ k. Above f x.number k) same Above.here)) in
      (rest.0, record { parts = rw b (ap (λ ys. x ∷ ys) rest.1.parts); part = rw (apart, b) (kept x xs _ rest.1.part) })
    where
      clear-in : (f : Forest) (k : ℕ) (xs : List Open) (y : Open) (ys : List Open) → IsClear f k (xs ++ y ∷ ys) → Above f k y.number → ⊥
      clear-in f k [] y ys c = c.0
      clear-in f k (x ∷ xs) y ys c = clear-in f k xs y ys c.1
  deeper None b h e e' go =
      let rest = split n xs h in
      let same = special-is (is_in set.SpecialTag x) x block e' in (
        rest.0,
        record {
          parts = rw b (ap (λ ys. x ∷ ys) rest.1.parts);
          part = subst (λ k. IsPart (opened_after k.number (x ∷ xs) ++ k ∷ rest.0 ∷ opened_before n (x ∷ xs))
              (x ∷ xs)) same (rw (eq-eqb x.number x.number refl, b) (kept x xs _ (split-part n xs rest.0 rest.1)));
        },
      )

  by : (b : Bool) → nat_eq x.number n ≡ b → (b || is_open n xs) ≡ true
      → furthest_block (choose b (λ _. []) (λ _. x ∷ opened_after n xs)) ≡ Some block
      → (is_open n xs ≡ true → furthest_block (opened_after n xs) ≡ Some block → (y : Open) × IsCut n block xs y)
      → (y : Open) × IsCut n block (x ∷ xs) y
  by true b h e go = absurd (none-some block e)
  by false b h e go = deeper (furthest_block (opened_after n xs)) b h refl e go

-- the elements from the formatting element on are outside
outers : (f : Forest) (block : Open) (later zs : List Open) → AreOpened f zs → IsClear f block.number zs
    → Each (λ x. IsClear f x.number zs) later → AreOuter f block later zs
outers f block later [] h c e = tt
outers f block later (z ∷ zs) h c e = (
  record {
    there = element-IsNode f z.number (element_name_of z.namespace z.name) h.0.named;
    under = c.0;
    none = none-first later e;
  },
  outers f block later zs h.1 c.1
      (each-map (λ x. IsClear f x.number (z ∷ zs)) (λ x. IsClear f x.number zs) later (λ x c. c.1) e),
)
  where
    none-first : (xs : List Open) → Each (λ x. IsClear f x.number (z ∷ zs)) xs → NoneAbove f xs z.number
    none-first [] e = tt
    none-first (x ∷ xs) e = (e.0.0, none-first xs e.1)

root-Outer : (f : Forest) (block : Open) (later : List Open) (x : Open) (xs : List Open) → AreOuter f block later
    (x ∷ xs) → IsOuter f block later (number_from x.number xs)
root-Outer f block later x [] o = o.0
root-Outer f block later x (y ∷ ys) o = root-Outer f block later y ys o.1

root-behind : (n : ℕ) (xs : List Open) (y : Open) (ys : List Open) → number_from n (xs ++ y ∷ ys) ≡ number_from y.number ys
root-behind n [] y ys = refl
root-behind n (x ∷ xs) y ys = root-behind x.number xs y ys

-- the place for the first of the elements before the formatting element
pub place-Outer : (f0 f : Forest) (foster : Bool) (n : ℕ) (block x : Open) (xs : List Open) → IsTree f0
    → above_of f0 0 ≡ None → AreOpened f0 xs → IsApart f0 xs → AreOpened f xs → IsCut n block xs x
    → in_scope set.DefaultScope (is_number n) xs ≡ true
    → ((a n : ℕ) → n < node_count f0 → (Above f0 block.number n → ⊥) → Above f a n → Above f0 a n)
    → IsOuter f0 block (opened_after block.number xs) (parent_at (place_for foster f xs (current_node (opened_before n xs))))
place-Outer f0 f foster n block x xs tree top old apart now is scope outside = by (opened_before n xs) refl where
  later : List Open
  later = opened_after block.number xs

  all : AreOpened f0 (later ++ block ∷ x ∷ opened_before n xs)
  all = part-opened f0 xs _ is.part old

  rest : AreOpened f0 (block ∷ x ∷ opened_before n xs)
  rest = opened-right f0 later (block ∷ x ∷ opened_before n xs) all

  in_order : IsApart f0 (later ++ block ∷ x ∷ opened_before n xs)
  in_order = part-apart f0 xs _ is.part apart

  outer : AreOuter f0 block later (x ∷ opened_before n xs)
  outer = outers f0 block later (x ∷ opened_before n xs) rest.1 (apart-right f0 later (block ∷ x ∷ opened_before n xs) in_order).0
      (each-map _ (λ y. IsClear f0 y.number (x ∷ opened_before n xs)) later (λ y c. c.1)
      (clear-rows f0 later (block ∷ x ∷ opened_before n xs) (apart-between f0 later (block ∷ x ∷ opened_before n xs) in_order)))

  document : IsOuter f0 block later 0
  document = document-Outer f0 block later tree top rest.0 (opened-left f0 later (block ∷ x ∷ opened_before n xs) all)

  root : IsOuter f0 block later (root_number xs)
  root = subst (λ k. IsOuter f0 block later k)
      (sym (ap (number_from 0) is.parts ∙ root-behind 0 (opened_after n xs) x (opened_before n xs)))
      (root-Outer f0 block later x (opened_before n xs) outer)

  passes : foster_place f (root_number xs) xs ≡ foster_place f (root_number xs) (x ∷ opened_before n xs)
  passes = ap (foster_place f (root_number xs)) is.parts ∙ foster-passes f (root_number xs) (opened_after n xs)
      (x ∷ opened_before n xs) (scope-inside n xs scope)

  here : AreOpened f (x ∷ opened_before n xs)
  here = opened-right f (opened_after n xs) (x ∷ opened_before n xs) (subst (λ ys. AreOpened f ys) is.parts now)

  fostered : IsOuter f0 block later (parent_at (foster_place f (root_number xs) xs))
  fostered = subst (λ place. IsOuter f0 block later (parent_at place)) (sym passes)
      (foster-Outer f0 f block later tree rest.0 (opened-left f0 later (block ∷ x ∷ opened_before n xs) all) outside
      document (root_number xs) (x ∷ opened_before n xs) rest.1 here outer root)

  by : (zs : List Open) → opened_before n xs ≡ zs → IsOuter f0 block later (parent_at (place_for foster f xs (current_node zs)))
  by [] e = document
  by (z ∷ zs) e =
      outer-choose f0 block later (foster && is_in set.FosterTarget z) _ _ (λ on. fostered)
      (λ off. inside-Outer f0 f block later tree rest.0 (opened-left f0 later (block ∷ x ∷ opened_before n xs) all)
      outside document z (subst (λ ys. AreOpened f0 ys) e rest.1.1).0 (subst (λ ys. AreOuter f0 block later ys) e outer.1).0)
