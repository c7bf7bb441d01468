-- Changes of the stack under which the open elements stay such that any may come next, unless a template leaves.
use Rattle.std.proofs.Common.{◌≡◌, ◌∙◌, ℕ, suc, ◌<◌, ◌≤◌, Bool, true, false, List, [], ◌∷◌, refl, sym, true≢false, arith, inl, inr, ◌⊎◌}
use Rattle.std.specs.Prelude.{◌||◌, ◌&&◌, not}
use Rattle.std.proofs.lemmas.Bool.{and_parts}
use Rattle.html_rules.specs.Choice.{choose}
use Rattle.html_rules.specs.Conditions.{is_nonempty}
use Rattle.html_rules.specs.Sets.{mathml_names_of, names_of, svg_names_of}
use Rattle.html_rules.specs.Shape.{is_at_root}
use Rattle.html_rules.specs.Stack.{has_open, open_templates}
use Rattle.html_rules.specs.State.{Open, is_in}
use Rattle.html_rules.specs.declared.tag_set.TagSet.TheVariants as set
use Rattle.html_rules_laws.specs.Placing.{are_general, is_in_head, may_stand_over, stand_well}
use Rattle.html_rules_laws.proofs.SetFacts.{in-apart}
use Rattle.html_rules_laws.proofs.TreePreserved.Standing.{IsPart, gone, kept, none}
use Rattle.html_rules_laws.proofs.Bools.{both, not_true}

-- an element that is neither the root, nor a head, nor a template
pub record IsOrdinary (x : Open) : Type 0 where
  pub root : is_in set.Html x ≡ false
  pub head : is_in set.Head x ≡ false
  pub template : is_in set.Template x ≡ false

pub record IsFirm (xs ys : List Open) : Type 0 where
  pub fewer : open_templates ys ≤ open_templates xs
  pub html : has_open set.Html ys ≡ true → has_open set.Html xs ≡ true
  pub firm : are_general xs ≡ true → (are_general ys ≡ true) ⊎ (open_templates ys < open_templates xs)

pub firm-same : (xs : List Open) → IsFirm xs xs
firm-same xs = record { fewer = omega arith; html = λ h. h; firm = λ h. inl h }

pub firm-after : (xs ys zs : List Open) → IsFirm xs ys → IsFirm ys zs → IsFirm xs zs
firm-after xs ys zs h k = record {
  fewer = let a = h.fewer in let b = k.fewer in omega arith;
  html = λ e. h.html (k.html e);
  firm = λ g. elim (h.firm g) [
    | inl stays ↦ elim (k.firm stays) [ inl all ↦ inl all | inr less ↦ inr (let a = h.fewer in let l = less in omega arith) ]
    | inr less ↦ inr (let b = k.fewer in let l = less in omega arith)
  ];
}

-- elements leave

pub html_head : (x : Open) → is_in set.Html x ≡ true → is_in set.Head x ≡ false
unfolding names_of mathml_names_of svg_names_of
html_head x h = in-apart set.Html set.Head refl x h

part-fewer : (xs ys : List Open) → IsPart ys xs → open_templates ys ≤ open_templates xs
part-fewer xs ys none = omega arith
part-fewer xs ys (kept x xs' ys' part) = by (is_in set.Template x) (part-fewer xs' ys' part) where
  by : (b : Bool) → open_templates ys' ≤ open_templates xs' → choose b (λ _. suc (open_templates ys'))
      (λ _. open_templates ys') ≤ choose b (λ _. suc (open_templates xs')) (λ _. open_templates xs')
  by true h = omega arith
  by false h = h
part-fewer xs ys (gone x xs' ys' part) = by (is_in set.Template x) (part-fewer xs' ys' part) where
  by : (b : Bool) → open_templates ys' ≤ open_templates xs' → open_templates ys' ≤ choose b
      (λ _. suc (open_templates xs')) (λ _. open_templates xs')
  by true h = omega arith
  by false h = h

pub part-html : (xs ys : List Open) → IsPart ys xs → has_open set.Html ys ≡ true → has_open set.Html xs ≡ true
part-html xs ys none h = h
part-html xs ys (kept x xs' ys' part) h = by (is_in set.Html x) h (part-html xs' ys' part) where
  by : (b : Bool) → (b || has_open set.Html ys') ≡ true
      → (has_open set.Html ys' ≡ true → has_open set.Html xs' ≡ true) → (b || has_open set.Html xs') ≡ true
  by true h go = refl
  by false h go = go h
part-html xs ys (gone x xs' ys' part) h = by (is_in set.Html x) (part-html xs' ys' part h) where
  by : (b : Bool) → has_open set.Html xs' ≡ true → (b || has_open set.Html xs') ≡ true
  by true h = refl
  by false h = h

-- what is left of elements that stand well does too, with a head on top only if there was one, unless a template left
abbrev pub Left : List Open → List Open → Type 0
Left xs ys = (open_templates ys < open_templates xs) ⊎ ((stand_well ys ≡ true) × (is_in_head ys ≡ true → is_in_head xs ≡ true))

empty-part : (xs ys : List Open) → IsPart ys xs → not (is_nonempty xs) ≡ true → not (is_nonempty ys) ≡ true
empty-part xs ys none h = refl
empty-part xs ys (kept x xs' ys' part) h = h
empty-part xs ys (gone x xs' ys' part) h = absurd (true≢false (sym h))

no_html : (b c : Bool) → (not b || c) ≡ true → (c ≡ true → b ≡ true → ⊥) → b ≡ false
no_html true true h k = absurd (k refl refl)
no_html true false h k = absurd (true≢false (sym h))
no_html false c h k = refl

-- over a head: no root, or the root alone
head-over : (xs ys : List Open) → IsPart ys xs → stand_well xs ≡ true
    → (not (has_open set.Html xs) || is_at_root xs) ≡ true → (not (has_open set.Html ys) || is_at_root ys) ≡ true
head-over xs ys none w h = h
head-over xs ys (kept x xs' ys' part) w h = by (is_in set.Html x) (has_open set.Html xs') (has_open set.Html ys') refl refl refl h where
  by : (b c d : Bool) → is_in set.Html x ≡ b → has_open set.Html xs' ≡ c → has_open set.Html ys' ≡ d
      → (not (b || c) || b) ≡ true → (not (b || d) || b) ≡ true
  by true c d eb ec ed h = refl
  by false true d eb ec ed h = absurd (true≢false (sym h))
  by false false true eb ec ed h = absurd (true≢false (sym (part-html xs' ys' part ed) ∙ ec))
  by false false false eb ec ed h = refl
head-over xs ys (gone x xs' ys' part) w h = by (is_in set.Html x) (has_open set.Html xs') (has_open set.Html ys') refl refl refl h where
  alone : is_in set.Html x ≡ true → not (is_nonempty xs') ≡ true
  alone e = let own = (and_parts (may_stand_over x xs') (stand_well xs') w).0 in rw e at own

  empty : (zs : List Open) → not (is_nonempty zs) ≡ true → has_open set.Html zs ≡ true → ⊥
  empty [] e h = true≢false (sym h)
  empty (z ∷ zs) e h = true≢false (sym e)

  by : (b c d : Bool) → is_in set.Html x ≡ b → has_open set.Html xs' ≡ c → has_open set.Html ys' ≡ d
      → (not (b || c) || b) ≡ true → (not d || is_at_root ys') ≡ true
  by b c false eb ec ed h = refl
  by true c true eb ec ed h = absurd (empty xs' (alone eb) (part-html xs' ys' part ed))
  by false true true eb ec ed h = absurd (true≢false (sym h))
  by false false true eb ec ed h = absurd (true≢false (sym (part-html xs' ys' part ed) ∙ ec))

count-left : (x : Open) (xs ys : List Open) → open_templates ys < open_templates xs → open_templates (x ∷ ys) < open_templates (x ∷ xs)
count-left x xs ys less = by (is_in set.Template x) where
  by : (b : Bool) → choose b (λ _. suc (open_templates ys)) (λ _. open_templates ys) < choose b
      (λ _. suc (open_templates xs)) (λ _. open_templates xs)
  by true = omega arith
  by false = less

-- an element that stays stands over what is left
over-left : (x : Open) (xs ys : List Open) → IsPart ys xs → stand_well xs ≡ true → may_stand_over x xs ≡ true
    → (is_in_head ys ≡ true → is_in_head xs ≡ true) → may_stand_over x ys ≡ true
over-left x xs ys part w o up = by (is_in set.Html x) (is_in set.Head x) (is_in_head xs) (is_in_head ys)
    (is_in set.Template x) refl refl o where
      by : (h d g k t : Bool) → is_in_head xs ≡ g → is_in_head ys ≡ k
          → choose h (λ _. not (is_nonempty xs)) (λ _. choose d (λ _. not (has_open set.Html xs) || is_at_root xs) (λ _. not g || t)) ≡ true
          → choose h (λ _. not (is_nonempty ys)) (λ _. choose d (λ _. not (has_open set.Html ys) || is_at_root ys) (λ _. not k || t)) ≡ true
      by true d g k t eg ek o = empty-part xs ys part o
      by false true g k t eg ek o = head-over xs ys part w o
      by false false true k true eg ek o = or_true k where
        or_true : (k : Bool) → (not k || true) ≡ true
        or_true true = refl
        or_true false = refl
      by false false true k false eg ek o = absurd (true≢false (sym o))
      by false false false true t eg ek o = absurd (true≢false (sym (up ek) ∙ eg))
      by false false false false t eg ek o = refl

-- what stands over elements, and is no template, has no head below it
pub over-plain : (x : Open) (xs : List Open) → may_stand_over x xs ≡ true → is_in set.Template x ≡ false → is_in_head xs ≡ false
over-plain x [] o t = refl
over-plain x (y ∷ ys) o t = by (is_in set.Html x) (is_in set.Head x) (is_in set.Template x) (is_in_head (y ∷ ys)) refl refl o where
  at : (b : Bool) → is_in set.Html y ≡ b → (is_in set.Head y && has_open set.Html ys) ≡ true
      → (not (b || has_open set.Html ys) || b) ≡ true → ⊥
  at true e h k = true≢false (sym (and_parts (is_in set.Head y) (has_open set.Html ys) h).0 ∙ html_head y e)
  at false e h k = let own = (and_parts (is_in set.Head y) (has_open set.Html ys) h).1 in true≢false (sym (rw own at k))

  by : (h d u g : Bool) → is_in set.Template x ≡ u → is_in_head (y ∷ ys) ≡ g → choose h (λ _. false)
      (λ _. choose d (λ _. not (has_open set.Html (y ∷ ys)) || is_at_root (y ∷ ys)) (λ _. not g || u)) ≡ true → g ≡ false
  by h d u false eu eg o = refl
  by true d u true eu eg o = absurd (true≢false (sym o))
  by false true u true eu eg o = absurd (at (is_in set.Html y) refl eg o)
  by false false true true eu eg o = absurd (true≢false (sym eu ∙ t))
  by false false false true eu eg o = absurd (true≢false (sym o))

pub part-left : (xs ys : List Open) → IsPart ys xs → stand_well xs ≡ true → Left xs ys
part-left xs ys none w = inr (refl, λ h. h)
part-left xs ys (kept x xs' ys' part) w =
    let parts = and_parts (may_stand_over x xs') (stand_well xs') w in
    elim (part-left xs' ys' part parts.1) [
      | inl less ↦ inl (count-left x xs' ys' less)
      | inr left ↦ inr (
        both _ _ (over-left x xs' ys' part parts.1 parts.0 left.1) left.0,
        λ h. let own = and_parts (is_in set.Head x) _ h in both _ _ own.0 (part-html xs' ys' part own.1),
      )
    ]
part-left xs ys (gone x xs' ys' part) w =
    let parts = and_parts (may_stand_over x xs') (stand_well xs') w in
    elim (part-left xs' ys' part parts.1) [
      | inl less ↦ inl (let l = less in let m = more (is_in set.Template x) (open_templates xs') in omega arith)
      | inr left ↦ without parts.0 (part-fewer xs' ys' part) left
    ]
  where
    more : (b : Bool) (n : ℕ) → n ≤ choose b (λ _. suc n) (λ _. n)
    more true n = omega arith
    more false n = omega arith

    without : may_stand_over x xs' ≡ true → open_templates ys ≤ open_templates xs'
        → ((stand_well ys ≡ true) × (is_in_head ys ≡ true → is_in_head xs' ≡ true)) → Left (x ∷ xs') ys
    without o count left = by (is_in set.Template x) refl where
      by : (t : Bool) → is_in set.Template x ≡ t → Left (x ∷ xs') ys
      by true e = inl (rw e (let c = count in omega arith))
      by false e = inr (left.0, λ k. absurd (true≢false (sym (left.1 k) ∙ over-plain x xs' o e)))

pub firm-part : (xs ys : List Open) → IsPart ys xs → IsFirm xs ys
firm-part xs ys part = record {
  fewer = part-fewer xs ys part;
  html = part-html xs ys part;
  firm = λ h. let parts = and_parts (not (is_in_head xs)) (stand_well xs) h in elim (part-left xs ys part parts.1) [
    | inl less ↦ inr less
    | inr left ↦ inl (both _ _ (still (is_in_head ys) refl left.1 (not_true _ parts.0)) left.0)
  ];
}
  where
    still : (b : Bool) → is_in_head ys ≡ b → (is_in_head ys ≡ true → is_in_head xs ≡ true) → is_in_head xs ≡ false → not b ≡ true
    still true e up f = absurd (true≢false (sym (up e) ∙ f))
    still false e up f = refl

-- a plain element comes

pub general-plain : (x : Open) (xs : List Open) → IsOrdinary x → are_general xs ≡ true → are_general (x ∷ xs) ≡ true
general-plain x xs is h =
    let parts = and_parts (not (is_in_head xs)) (stand_well xs) h in
    rw (is.head, is.root, parts.0, parts.1) refl

pub firm-plain : (x : Open) (xs : List Open) → IsOrdinary x → IsFirm xs (x ∷ xs)
firm-plain x xs is = record { fewer = rw is.template (omega arith); html = λ h. rw is.root at h; firm = λ h. inl (general-plain x xs is h) }
