-- What a walk has still to write.
use Rattle.std.proofs.Common.{◌≡◌, ◌∙◌, ◌+◌, ◌<◌, ℕ, suc, true, false, cond, List, [], ◌∷◌, ◌++◌, refl, sym, ap, arith, append_assoc}
use Rattle.std.specs.Prelude.{length, reverse}
use Rattle.std.proofs.lemmas.List.{reverse-append}
use Rattle.markup.specs.Forest.{Forest, IsForest, data_of, holds_children, text_of}
use Rattle.markup.specs.Named.{HasContents}
use Rattle.markup.specs.NodeCounts.{nodes_in}
use Rattle.markup.specs.Trees.{inner_of}
use Rattle.markup.proofs.WholeTrees.{nodes-first, nodes-none}
use Rattle.html_inner_text.specs.Items.{Item, At, closes, items, node_items, opens, text_items}
use Rattle.html_inner_text.specs.InnerText.{edged, run}
use Rattle.html_inner_text.specs.Styles.{inside}
use Rattle.html_inner_text.specs.Walk.{IsEntered, IsLeft, IsTaken, finished, items_around, level_of, nodes_around, nodes_left}
use Rattle.html_inner_text.specs.declared.walk.Level.{Level}
use Rattle.html_inner_text.specs.declared.walk.Walk.{Walk}
use Rattle.html_inner_text.proofs.Items.{items-first, items-none}
use Rattle.html_inner_text.proofs.Writing.{run-append}

reverse-last : (levels : List Level) (level : Level) → reverse (levels ++ level ∷ []) ≡ level ∷ reverse levels
reverse-last levels level = reverse-append levels (level ∷ [])

around-more : (f : Forest) (levels : List Level) (level : Level)
    → nodes_around f (levels ++ level ∷ []) ≡ nodes_around f levels + suc (nodes_in f level.rest + nodes_in f level.rest)
around-more f [] level = omega arith
around-more f (first ∷ levels) level = omega (arith, around-more f levels level)

-- a list without a length
pub none-left : (levels : List Level) → length levels ≡ 0 → levels ≡ []
none-left [] h = refl
none-left (level ∷ levels) h = absurd (omega (arith, h))

regrouped : (inner rest behind : List Item) (item : Item) → ((inner ++ item ∷ []) ++ rest) ++ behind ≡ inner ++ (item ∷ (rest ++ behind))
regrouped inner rest behind item = append_assoc (inner ++ item ∷ []) rest behind ∙ append_assoc inner (item ∷ []) (rest ++ behind)

module _ (f : Forest) (is : IsForest f) (contents : HasContents f) where
  -- what is behind the nodes at a level
  abbrev behind : Walk → List Item
  behind walk = items_around f walk.closing (reverse walk.around.items)

  -- what is left with a node more
  with-node : (walk : Walk) (n : ℕ) → finished f (record walk { rest = n ∷ walk.rest })
      ≡ run walk.writer ((node_items f walk.style n (items f (inside f walk.style n) (inner_of f n)) ++ items f walk.style walk.rest)
      ++ behind walk)
  with-node walk n = ap (λ (all : List Item). run walk.writer (all ++ behind walk)) (items-first f is contents walk.style n walk.rest)

  pub holder-taken : (old new : Walk) (n : ℕ) → holds_children (data_of f n) ≡ true → IsEntered f n old new → IsTaken f n old new
  holder-taken old new n holds e = record {
    same =
        (λ i. run (e.writer i) (items f (e.style i) (e.rest i) ++ items_around f (e.closing i) (reverse (e.around i))))
        ∙ (ap (λ (levels : List Level). run (edged old.writer (opens f old.style n))
        (items f (inside f old.style n) (inner_of f n) ++ items_around f (closes f old.style n) levels))
        (reverse-last old.around.items (level_of old))
        ∙ (ap (λ (all : List Item). run (edged old.writer (opens f old.style n)) all)
        (sym (regrouped (items f (inside f old.style n) (inner_of f n)) (items f old.style old.rest) (behind old) (At (closes f old.style n))))
        ∙ (ap (λ b. run old.writer ((cond b (At (opens f old.style n) ∷ (items f (inside f old.style n) (inner_of f n)
        ++ At (closes f old.style n) ∷ [])) (text_items old.style (text_of (data_of f n))) ++ items f old.style old.rest) ++ behind old))
        (sym holds)
        ∙ sym (with-node old n))));
    less =
        let one = nodes-first f is contents n old.rest in
        let a : nodes_in f new.rest ≡ nodes_in f (inner_of f n) = ap (nodes_in f) e.rest in
        let b : nodes_around f new.around.items ≡ nodes_around f old.around.items + suc (nodes_in f old.rest + nodes_in f old.rest) =
        ap (nodes_around f) e.around ∙ around-more f old.around.items (level_of old) in
        omega (arith, one, a, b);
  }

  pub leaf-taken : (old new : Walk) (n : ℕ) → holds_children (data_of f n) ≡ false
      → new.writer ≡ run old.writer (text_items old.style (text_of (data_of f n))) → level_of new ≡ level_of old
      → new.around.items ≡ old.around.items → IsTaken f n old new
  leaf-taken old new n holds w l k = record {
    same =
        (λ i. run (w i) (items f (l i).style (l i).rest ++ items_around f (l i).closing (reverse (k i))))
        ∙ (sym (run-append old.writer (text_items old.style (text_of (data_of f n))) (items f old.style old.rest ++ behind old))
        ∙ (ap (λ (all : List Item). run old.writer all)
        (sym (append_assoc (text_items old.style (text_of (data_of f n))) (items f old.style old.rest) (behind old)))
        ∙ (ap (λ b. run old.writer ((cond b (At (opens f old.style n) ∷ (items f (inside f old.style n) (inner_of f n)
        ++ At (closes f old.style n) ∷ [])) (text_items old.style (text_of (data_of f n))) ++ items f old.style old.rest) ++ behind old))
        (sym holds)
        ∙ sym (with-node old n))));
    less =
        let one = nodes-first f is contents n old.rest in
        let a : nodes_in f new.rest ≡ nodes_in f old.rest = ap (λ (level : Level). nodes_in f level.rest) l in
        let b : nodes_around f new.around.items ≡ nodes_around f old.around.items = ap (nodes_around f) k in
        omega (arith, one, a, b);
  }

  -- UPWARD

  -- a walk in which no node is left at its level, once the level around it was taken out
  pub left-same : (walk old new : Walk) (level : Level) → walk.rest ≡ [] → walk.around.items ≡ old.around.items ++ level ∷ []
      → old.writer ≡ walk.writer → old.closing ≡ walk.closing → IsLeft level old new → finished f new ≡ finished f walk
  left-same walk old new level e k w c h =
      (λ i. run (h.writer i) (items f (h.same i).style (h.same i).rest ++ items_around f (h.same i).closing (reverse (h.around i))))
      ∙ ((λ i. run (edged (w i) (c i)) (items f level.style level.rest ++ items_around f level.closing (reverse old.around.items)))
      ∙ (ap (λ (all : List Item). run walk.writer (all ++ items_around f walk.closing (level ∷ reverse old.around.items)))
      (sym (items-none f walk.style))
      ∙ ((λ i. run walk.writer (items f walk.style [] ++ items_around f walk.closing (sym (reverse-last old.around.items level) i)))
      ∙ (λ i. run walk.writer (items f walk.style (sym e i) ++ items_around f walk.closing (reverse (sym k i)))))))

  pub left-less : (walk old new : Walk) (level : Level) → walk.rest ≡ [] → walk.around.items ≡ old.around.items ++ level ∷ []
      → IsLeft level old new → nodes_left f new < nodes_left f walk
  left-less walk old new level e k h =
      let a : nodes_in f walk.rest ≡ 0 = ap (nodes_in f) e ∙ nodes-none f in
      let b : nodes_around f walk.around.items ≡ nodes_around f old.around.items + suc (nodes_in f level.rest + nodes_in f level.rest) =
      ap (nodes_around f) k ∙ around-more f old.around.items level in
      let c : nodes_in f new.rest ≡ nodes_in f level.rest = ap (λ (l : Level). nodes_in f l.rest) h.same in
      let d : nodes_around f new.around.items ≡ nodes_around f old.around.items = ap (nodes_around f) h.around in
      omega (arith, a, b, c, d)

  pub ended : (walk : Walk) → walk.rest ≡ [] → walk.around.items ≡ [] → finished f walk ≡ walk.writer
  ended walk e k =
      (λ i. run walk.writer (items f walk.style (e i) ++ items_around f walk.closing (reverse (k i))))
      ∙ (ap (λ (all : List Item). run walk.writer (all ++ [])) (items-none f walk.style))
