-- A turn of the adoption agency leaves the stack such that any element may come next, unless a template leaves.
use Rattle.std.proofs.Common.{◌≡◌, ◌∙◌, ℕ, suc, ◌+◌, ◌<◌, ◌≤◌, Bool, true, false, List, [], ◌∷◌, ◌++◌, Option, Some, None, refl}
use Rattle.std.proofs.Common.{sym, ap, subst, true≢false, arith, inl, inr, ◌⊎◌}
use Rattle.std.specs.Prelude.{◌||◌, not, nat_eq}
use Rattle.std.proofs.lemmas.Bool.{and_parts, eq-eqb}
use Rattle.std.proofs.lemmas.List.{append_assoc}
use Rattle.html_rules.specs.Adoption.{furthest_block, opened_after, opened_before, or_first}
use Rattle.html_rules.specs.Choice.{choose}
use Rattle.html_rules.specs.Conditions.{is_nonempty}
use Rattle.html_rules.specs.Shape.{is_at_root}
use Rattle.html_rules.specs.Stack.{has_open, is_open, open_templates}
use Rattle.html_rules.specs.State.{Open, is_in}
use Rattle.html_rules.specs.declared.tag_set.TagSet.TheVariants as set
use Rattle.html_rules_laws.specs.Placing.{are_general, is_in_head, may_stand_over, stand_well}
use Rattle.html_rules_laws.proofs.TreePreserved.AdoptionPlace.{special-is, split, split-part, none-some, part-behind}
use Rattle.html_rules_laws.proofs.Frames.Firm.{IsFirm, IsOrdinary, firm-after, firm-part, general-plain, over-plain}
use Rattle.html_rules_laws.proofs.TreePreserved.Standing.{IsPart, gone, kept, none}
use Rattle.html_rules_laws.proofs.Bools.{both, not_true}

abbrev pub ArePlain : List Open → Type 0
ArePlain [] = Unit {0}
ArePlain (x ∷ xs) = IsOrdinary x × ArePlain xs

pub plain-append : (xs ys : List Open) → ArePlain xs → ArePlain ys → ArePlain (xs ++ ys)
plain-append [] ys h k = k
plain-append (x ∷ xs) ys h k = (h.0, plain-append xs ys h.1 k)

-- the block with the elements opened after it, the formatting element, and those opened before it, are some of the open elements

part-trans : (xs ys zs : List Open) → IsPart ys xs → IsPart zs ys → IsPart zs xs
part-trans xs ys zs none q = q
part-trans xs ys zs (gone x xs' ys' p) q = gone x xs' zs (part-trans xs' ys' zs p q)
part-trans xs ys zs (kept x xs' ys' p) (kept y ys'' zs' q) = kept x xs' zs' (part-trans xs' ys' zs' p q)
part-trans xs ys zs (kept x xs' ys' p) (gone y ys'' zs' q) = gone x xs' zs' (part-trans xs' ys' zs' p q)

drop-part : (ls ys xs : List Open) → IsPart (ls ++ ys) xs → IsPart ys xs
drop-part ls ys xs part = part-trans xs (ls ++ ys) ys part (part-behind ls ys)

pub found : (n : ℕ) (block : Open) (xs : List Open) → is_open n xs ≡ true
    → furthest_block (opened_after n xs) ≡ Some block → (x : Open)
    × IsPart (opened_after block.number xs ++ block ∷ x ∷ opened_before n xs) xs
found n block [] h e = absurd (true≢false (sym h))
found n block (x ∷ xs) h e = by (nat_eq x.number n) refl h e (found n block xs) where
  Go : Type 0
  Go = is_open n xs ≡ true → furthest_block (opened_after n xs) ≡ Some block → (y : Open)
      × IsPart (opened_after block.number xs ++ block ∷ y ∷ opened_before n xs) xs

  deeper : (o : Option Open) → nat_eq x.number n ≡ false → is_open n xs ≡ true
      → furthest_block (opened_after n xs) ≡ o → or_first o x ≡ Some block
      → (is_open n xs ≡ true → furthest_block (opened_after n xs) ≡ Some block → (y : Open)
      × IsPart (opened_after block.number xs ++ block ∷ y ∷ opened_before n xs) xs)
      → (y : Open) × IsPart (opened_after block.number (x ∷ xs) ++ block ∷ y ∷ opened_before n (x ∷ xs)) (x ∷ xs)
  deeper (Some other) b h e e' go =
      let rest = go h (e ∙ e') in
      (rest.0, rw b (same (nat_eq x.number block.number) rest.0 rest.1))
    where
      same : (c : Bool) (y : Open) → IsPart (opened_after block.number xs ++ block ∷ y ∷ opened_before n xs) xs
          → IsPart (choose c (λ _. []) (λ _. x ∷ opened_after block.number xs) ++ block ∷ y ∷ opened_before n xs) (x ∷ xs)
      same true y part = gone x xs (block ∷ y ∷ opened_before n xs)
          (drop-part (opened_after block.number xs) (block ∷ y ∷ opened_before n xs) xs part)
      same false y part = kept x xs (opened_after block.number xs ++ block ∷ y ∷ opened_before n xs) part
  deeper None b h e e' go =
      let rest = split n xs h in
      let same = special-is (is_in set.SpecialTag x) x block e' in (
        rest.0,
        subst (λ k. IsPart (opened_after k.number (x ∷ xs) ++ k ∷ rest.0 ∷ opened_before n (x ∷ xs))
            (x ∷ xs)) same (rw (eq-eqb x.number x.number refl, b) (kept x xs _ (split-part n xs rest.0 rest.1))),
      )

  by : (b : Bool) → nat_eq x.number n ≡ b → (b || is_open n xs) ≡ true
      → furthest_block (choose b (λ _. []) (λ _. x ∷ opened_after n xs)) ≡ Some block
      → (is_open n xs ≡ true → furthest_block (opened_after n xs) ≡ Some block → (y : Open)
      × IsPart (opened_after block.number xs ++ block ∷ y ∷ opened_before n xs) xs)
      → (y : Open) × IsPart (opened_after block.number (x ∷ xs) ++ block ∷ y ∷ opened_before n (x ∷ xs)) (x ∷ xs)
  by true b h e go = absurd (none-some block e)
  by false b h e go = deeper (furthest_block (opened_after n xs)) b h refl e go

-- counting

count-append : (xs ys : List Open) → open_templates (xs ++ ys) ≡ open_templates xs + open_templates ys
count-append [] ys = omega arith
count-append (x ∷ xs) ys = by (is_in set.Template x) (count-append xs ys) where
  by : (b : Bool) → open_templates (xs ++ ys) ≡ open_templates xs + open_templates ys
      → choose b (λ _. suc (open_templates (xs ++ ys))) (λ _. open_templates (xs ++ ys)) ≡ choose b
      (λ _. suc (open_templates xs)) (λ _. open_templates xs) + open_templates ys
  by true e = omega arith
  by false e = e

count-plain : (xs ys : List Open) → ArePlain xs → open_templates (xs ++ ys) ≡ open_templates ys
count-plain [] ys h = refl
count-plain (x ∷ xs) ys h = rw h.0.template (count-plain xs ys h.1)

html-plain : (xs ys : List Open) → ArePlain xs → has_open set.Html (xs ++ ys) ≡ has_open set.Html ys
html-plain [] ys h = refl
html-plain (x ∷ xs) ys h = rw h.0.root (html-plain xs ys h.1)

general-copies : (xs ys : List Open) → ArePlain xs → are_general ys ≡ true → are_general (xs ++ ys) ≡ true
general-copies [] ys h g = g
general-copies (x ∷ xs) ys h g = general-plain x (xs ++ ys) h.0 (general-copies xs ys h.1 g)

-- elements on top of others that are exchanged
record IsExchange (old new : List Open) : Type 0 where
  rooted : is_at_root old ≡ false
  some : is_nonempty old ≡ true
  html : has_open set.Html new ≡ true → has_open set.Html old ≡ true
  free : is_in_head new ≡ false
  well : stand_well new ≡ true

nonempty-behind : (ls ys : List Open) → is_nonempty ys ≡ true → is_nonempty (ls ++ ys) ≡ true
nonempty-behind [] ys h = h
nonempty-behind (a ∷ ls) ys h = refl

html-behind : (ls old new : List Open) → (has_open set.Html new ≡ true → has_open set.Html old ≡ true)
    → has_open set.Html (ls ++ new) ≡ true → has_open set.Html (ls ++ old) ≡ true
html-behind [] old new f h = f h
html-behind (a ∷ ls) old new f h = by (is_in set.Html a) h (html-behind ls old new f) where
  by : (b : Bool) → (b || has_open set.Html (ls ++ new)) ≡ true
      → (has_open set.Html (ls ++ new) ≡ true → has_open set.Html (ls ++ old) ≡ true) → (b || has_open set.Html (ls ++ old)) ≡ true
  by true h go = refl
  by false h go = go h

-- those of which the first is the root are that alone
root-behind : (ls old : List Open) → is_at_root old ≡ false → is_nonempty old ≡ true → stand_well (ls ++ old) ≡ true
    → is_at_root (ls ++ old) ≡ false
root-behind [] old r n w = r
root-behind (a ∷ ls) old r n w = by (is_in set.Html a) refl where
  by : (b : Bool) → is_in set.Html a ≡ b → is_in set.Html a ≡ false
  by true e = absurd (let own = (and_parts (may_stand_over a (ls ++ old)) _ w).0 in
      let empty : not (is_nonempty (ls ++ old)) ≡ true = rw e at own in true≢false (sym (nonempty-behind ls old n) ∙ not_true _ empty))
  by false e = e

exchanged : (ls old new : List Open) → IsExchange old new → stand_well (ls ++ old) ≡ true
    → (stand_well (ls ++ new) ≡ true) × (is_in_head (ls ++ new) ≡ true → is_in_head (ls ++ old) ≡ true)
exchanged [] old new is w = (is.well, λ h. absurd (true≢false (sym h ∙ is.free)))
exchanged (a ∷ ls) old new is w =
    let parts = and_parts (may_stand_over a (ls ++ old)) (stand_well (ls ++ old)) w in
    let rest = exchanged ls old new is parts.1 in (
      both _ _ (over parts.0 parts.1 rest.1) rest.0,
      λ h. let own = and_parts (is_in set.Head a) _ h in
          both _ _ own.0 (html-behind ls old new is.html own.1),
    )
  where
    over : may_stand_over a (ls ++ old) ≡ true → stand_well (ls ++ old) ≡ true
        → (is_in_head (ls ++ new) ≡ true → is_in_head (ls ++ old) ≡ true) → may_stand_over a (ls ++ new) ≡ true
    over o w up = by (is_in set.Html a) (is_in set.Head a) (has_open set.Html (ls ++ new)) (is_in_head (ls ++ new))
        (is_in_head (ls ++ old)) (is_in set.Template a) refl refl refl o where
          by : (h d n g k t : Bool) → has_open set.Html (ls ++ new) ≡ n → is_in_head (ls ++ new) ≡ g → is_in_head (ls ++ old) ≡ k
              → choose h (λ _. not (is_nonempty (ls ++ old)))
              (λ _. choose d (λ _. not (has_open set.Html (ls ++ old)) || is_at_root (ls ++ old)) (λ _. not k || t)) ≡ true
              → choose h (λ _. not (is_nonempty (ls ++ new)))
              (λ _. choose d (λ _. not n || is_at_root (ls ++ new)) (λ _. not g || t)) ≡ true
          by true d n g k t en eg ek o = absurd (true≢false (sym (nonempty-behind ls old is.some) ∙ not_true _ o))
          by false true false g k t en eg ek o = refl
          by false true true g k t en eg ek o =
              absurd (true≢false (sym (rw (html-behind ls old new is.html en, root-behind ls old is.rooted is.some w) at o)))
          by false false n false k t en eg ek o = refl
          by false false n true true t en eg ek o = o
          by false false n true false t en eg ek o = absurd (true≢false (sym (up eg) ∙ ek))

-- after the block: the formatting element, which is no template, gives way to copies

taken-over : (new block x : Open) (copies es : List Open) → IsOrdinary new → ArePlain copies
    → stand_well (block ∷ x ∷ es) ≡ true → is_in set.Template x ≡ false → IsExchange (block ∷ x ∷ es) (new ∷ block ∷ (copies ++ es))
taken-over new block x copies es plain all w t =
    let outer = and_parts (may_stand_over block (x ∷ es)) (stand_well (x ∷ es)) w in
    let inner = and_parts (may_stand_over x es) (stand_well es) outer.1 in
    let below : is_in_head es ≡ false = over-plain x es inner.0 t in
    let general : are_general (copies ++ es) ≡ true = general-copies copies es all (both _ _ (ap not below) inner.1) in
    let general' = and_parts (not (is_in_head (copies ++ es))) _ general in
    let no_root : is_in set.Html block ≡ false = no-root (is_in set.Html block) outer.0 refl in
    let same = html-plain copies es all in
    let free : is_in_head (block ∷ (copies ++ es)) ≡ false = is-free (is_in set.Head block) refl outer.0 inner.0 no_root same in
    record {
      rooted = no_root;
      some = refl;
      html = λ h. html-up (is_in set.Html block) (is_in set.Html x) (rw (plain.root, same) at h);
      free = rw plain.head refl;
      well = both _ _ (rw (plain.root, plain.head) (rw free refl))
          (both _ _ (over-block (is_in set.Head block) refl outer.0 inner.0 no_root same general'.0) general'.1);
    }
  where
    no-root : (b : Bool) → may_stand_over block (x ∷ es) ≡ true → is_in set.Html block ≡ b → is_in set.Html block ≡ false
    no-root true o e = absurd (let empty : false ≡ true = rw e at o in true≢false (sym empty))
    no-root false o e = e

    html-up : (b c : Bool) → (b || has_open set.Html es) ≡ true → (b || (c || has_open set.Html es)) ≡ true
    html-up true c h = refl
    html-up false true h = refl
    html-up false false h = h

    -- a head below which no root is left
    no-html : is_in set.Head block ≡ true → may_stand_over block (x ∷ es) ≡ true → may_stand_over x es ≡ true
        → is_in set.Html block ≡ false → has_open set.Html es ≡ false
    no-html d o i r = by (is_in set.Html x) (has_open set.Html es) refl refl (rw (r, d) at o) where
      empty : (zs : List Open) → not (is_nonempty zs) ≡ true → has_open set.Html zs ≡ false
      empty [] e = refl
      empty (z ∷ zs) e = absurd (true≢false (sym e))

      by : (b c : Bool) → is_in set.Html x ≡ b → has_open set.Html es ≡ c → (not (b || c) || b) ≡ true → has_open set.Html es ≡ false
      by true c eb ec o = empty es (rw eb at i)
      by false true eb ec o = absurd (true≢false (sym o))
      by false false eb ec o = ec

    is-free : (d : Bool) → is_in set.Head block ≡ d → may_stand_over block (x ∷ es) ≡ true
        → may_stand_over x es ≡ true → is_in set.Html block ≡ false → has_open set.Html (copies ++ es) ≡ has_open
        set.Html es → is_in_head (block ∷ (copies ++ es)) ≡ false
    is-free true e o i r same = rw (e, same, no-html e o i r) refl
    is-free false e o i r same = rw e refl

    over-block : (d : Bool) → is_in set.Head block ≡ d → may_stand_over block (x ∷ es) ≡ true
        → may_stand_over x es ≡ true → is_in set.Html block ≡ false → has_open set.Html (copies ++ es) ≡ has_open set.Html es
        → not (is_in_head (copies ++ es)) ≡ true → may_stand_over block (copies ++ es) ≡ true
    over-block true e o i r same g = rw (r, e, same, no-html e o i r) refl
    over-block false e o i r same g = rw (r, e, g) refl

pub adopted-firm : (xs ls es : List Open) (block x new : Open) (copies : List Open)
    → IsPart (ls ++ block ∷ x ∷ es) xs → IsOrdinary new → ArePlain copies → IsFirm xs ((ls ++ new ∷ block ∷ copies) ++ es)
adopted-firm xs ls es block x new copies part plain all =
    firm-after xs (ls ++ block ∷ x ∷ es) ((ls ++ new ∷ block ∷ copies) ++ es) (firm-part xs (ls ++ block ∷ x ∷ es) part)
    (subst (λ zs. IsFirm (ls ++ block ∷ x ∷ es) zs) (sym (append_assoc ls (new ∷ block ∷ copies) es))
    (record {
      fewer = fewer;
      html = html-behind ls (block ∷ x ∷ es) (new ∷ block ∷ (copies ++ es))
          (λ h. html-up (is_in set.Html block) (is_in set.Html x)
          (rw (plain.root, html-plain copies es all) at h));
      firm = λ h. by (is_in set.Template x) refl (and_parts (not (is_in_head (ls ++ block ∷ x ∷ es))) _ h);
    }))
  where
    html-up : (b c : Bool) → (b || has_open set.Html es) ≡ true → (b || (c || has_open set.Html es)) ≡ true
    html-up true c h = refl
    html-up false true h = refl
    html-up false false h = h

    count : open_templates (ls ++ (new ∷ block ∷ (copies ++ es))) ≡ open_templates ls + open_templates (block ∷ es)
    count = count-append ls (new ∷ block ∷ (copies ++ es)) ∙ ap (λ n. open_templates ls + n)
        (rw plain.template (ap (λ n. choose (is_in set.Template block) (λ _. suc n) (λ _. n)) (count-plain copies es all)))

    old : open_templates (ls ++ block ∷ x ∷ es) ≡ open_templates ls + open_templates (block ∷ x ∷ es)
    old = count-append ls (block ∷ x ∷ es)

    step : (b c : Bool) (n : ℕ) → choose b (λ _. suc n) (λ _. n) ≤ choose b
        (λ _. suc (choose c (λ _. suc n) (λ _. n))) (λ _. choose c (λ _. suc n) (λ _. n))
    step true true n = omega arith
    step true false n = omega arith
    step false true n = omega arith
    step false false n = omega arith

    fewer : open_templates (ls ++ (new ∷ block ∷ (copies ++ es))) ≤ open_templates (ls ++ block ∷ x ∷ es)
    fewer = let a = count in let b = old in let c = step (is_in set.Template block) (is_in set.Template x)
        (open_templates es) in omega arith

    strict : is_in set.Template x ≡ true → open_templates (ls ++ (new ∷ block ∷ (copies ++ es))) < open_templates (ls ++ block ∷ x ∷ es)
    strict e = let a = count in let b = old in let c = more (is_in set.Template block) in omega arith where
      more : (b : Bool) → choose b (λ _. suc (open_templates es)) (λ _. open_templates es) < choose b
          (λ _. suc (open_templates (x ∷ es))) (λ _. open_templates (x ∷ es))
      more true = rw e (omega arith)
      more false = rw e (omega arith)

    not-in : (b : Bool) → is_in_head (ls ++ (new ∷ block ∷ (copies ++ es))) ≡ b
        → (is_in_head (ls ++ (new ∷ block ∷ (copies ++ es))) ≡ true → is_in_head (ls ++ block ∷ x ∷ es) ≡ true)
        → not (is_in_head (ls ++ block ∷ x ∷ es)) ≡ true → not b ≡ true
    not-in true e up h = absurd (true≢false (sym (up e) ∙ not_true _ h))
    not-in false e up h = refl

    right : (ls ys : List Open) → stand_well (ls ++ ys) ≡ true → stand_well ys ≡ true
    right [] ys w = w
    right (a ∷ ls) ys w = right ls ys (and_parts (may_stand_over a (ls ++ ys)) _ w).1

    by : (t : Bool) → is_in set.Template x ≡ t → (not (is_in_head (ls ++ block ∷ x ∷ es)) ≡ true)
        × (stand_well (ls ++ block ∷ x ∷ es) ≡ true)
        → (are_general (ls ++ (new ∷ block ∷ (copies ++ es))) ≡ true)
        ⊎ (open_templates (ls ++ (new ∷ block ∷ (copies ++ es))) < open_templates (ls ++ block ∷ x ∷ es))
    by true e w = inr (strict e)
    by false e w =
        let made = exchanged ls (block ∷ x ∷ es) (new ∷ block ∷ (copies ++ es))
        (taken-over new block x copies es plain all (right ls (block ∷ x ∷ es) w.1) e) w.1 in
        inl (both _ _ (not-in (is_in_head (ls ++ (new ∷ block ∷ (copies ++ es)))) refl made.1 w.0) made.0)
