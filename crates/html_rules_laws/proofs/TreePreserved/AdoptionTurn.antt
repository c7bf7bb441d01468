-- What follows the walk of the adoption agency: the last node is put at the place for the common ancestor, and a new element takes the
-- children of the furthest block.
use Rattle.std.proofs.Common.{◌≡◌, ◌∙◌, ℕ, ◌<◌, ◌≤◌, Bool, true, false, List, [], ◌∷◌, Some, None, refl, ap, subst, arith, inl, inr, ◌⊎◌}
use Rattle.markup.specs.Forest.{Above, Forest, IsForest, IsLoose, IsParent, IsPlace, Last, Place, above_of, children_of}
use Rattle.markup.specs.Forest.{data_of, element_name, holds_children, is_among, is_contents, node_count, parent_at, parent_of}
use Rattle.markup.specs.Forest.{put, remove, reparent_children}
use Rattle.markup.specs.Named.{IsTree}
use Rattle.markup.specs.declared.node_or_text.NodeOrText.TheVariants.{AppendNode}
use Rattle.markup.proofs.Forests.{IsMade-create_element, IsPutAt-put, IsRemoved-remove}
use Rattle.markup.proofs.PutTexts.{IsParent-element, KeepsNames, element-IsNode}
use Rattle.markup.proofs.Reparented.{IsReparented-reparent_children, not_above-child}
use Rattle.markup.proofs.Trees.{IsTree-put_child, IsTree-remove, IsTree-reparent_children}
use Rattle.markup.proofs.Walks.{Above-IsNode, Above-child, Above-less, Above-moved, Above-moved_free, Above-put, Above-put_free}
use Rattle.html_tokens.specs.declared.tags.Tag.{Tag}
use Rattle.html_rules.specs.Adoption.{Walk, with_copy}
use Rattle.html_rules.specs.Names.{Html, element_name_of, flags_of}
use Rattle.html_rules.specs.State.{Open, Entry, Element, Marker}
use Rattle.html_rules.specs.declared.rules.Rules.TheVariants.{Html5ever}
use Rattle.html_rules_laws.specs.Soundness.{AreListed, AreOpened, IsApart, IsClear}
use Rattle.html_rules_laws.proofs.TreePreserved.AdoptionWalk.{AreNew, Walked, last-out}
use Rattle.html_rules_laws.proofs.TreePreserved.StandingTrees.{made-Made}

-- only newer nodes, and what stands above q, stand above these, which are newer
abbrev pub AreNewOr : Forest → Forest → ℕ → List Open → Type 0
AreNewOr f0 g q [] = Unit {0}
AreNewOr f0 g q (x ∷ xs) =
    ((node_count f0 ≤ x.number) × ((a : ℕ) → Above g a x.number → (node_count f0 ≤ a) ⊎ Above f0 a q)) × AreNewOr f0 g q xs

-- a forest as the walk and the put at a place q leave it: the older nodes have nothing above them but what they had, newer nodes, and what
-- stands above q
pub record Placed (f0 g : Forest) (b q : ℕ) (copies : List Open) (entries : List Entry) : Type 0 where
  pub tree : IsTree g
  pub names : KeepsNames f0 g
  pub count : node_count f0 ≤ node_count g
  pub opened : AreOpened g copies
  pub apart : IsApart g copies
  pub listed : AreListed g entries
  pub outside : (a n : ℕ) → n < node_count f0 → (Above f0 b n → ⊥) → Above g a n → Above f0 a n
  pub inside : (a n : ℕ) → n < node_count f0 → Above g a n → Above f0 a n ⊎ ((node_count f0 ≤ a) ⊎ Above f0 a q)
  pub above_new : AreNewOr f0 g q copies

placed-new : (f0 f g : Forest) (q l : ℕ) (xs : List Open) → AreOpened f xs
    → ((a n : ℕ) → n < node_count f → Above g a n → Above f a n ⊎ Above f0 a q) → AreNew f0 f xs → AreNewOr f0 g q xs
placed-new f0 f g q l [] h e n = tt
placed-new f0 f g q l (x ∷ xs) h e n = (
  (
    n.0.0,
    λ a up. elim (e a x.number (element-IsNode f x.number (element_name_of x.namespace x.name) h.0.named)
        up) [ inl old ↦ inl (n.0.1 a old) | inr above ↦ inr above ],
  ),
  placed-new f0 f g q l xs h.1 e n.1,
)

-- an older node is above a copy only in the way of the place
placed-clear : (f0 f g : Forest) (q x : ℕ) (xs : List Open) → AreOpened f xs
    → ((a n : ℕ) → n < node_count f → Above g a n → Above f a n ⊎ Above f0 a q) → q < node_count f0
    → node_count f0 ≤ x → IsClear f x xs → IsClear g x xs
placed-clear f0 f g q x [] h e less new c = tt
placed-clear f0 f g q x (y ∷ ys) h e less new c = (
  λ up. elim (e x y.number (element-IsNode f y.number (element_name_of y.namespace y.name) h.0.named) up) [
    | inl old ↦ c.0 old
    | inr above ↦ let there = Above-IsNode f0 x q less above in absurd (omega arith)
  ],
  placed-clear f0 f g q x ys h.1 e less new c.1,
)

placed-apart : (f0 f g : Forest) (q : ℕ) (xs : List Open) → AreOpened f xs
    → ((a n : ℕ) → n < node_count f → Above g a n → Above f a n ⊎ Above f0 a q) → q < node_count f0 → AreNew f0 f xs
    → IsApart f xs → IsApart g xs
placed-apart f0 f g q [] h e less n a = tt
placed-apart f0 f g q (x ∷ xs) h e less n a =
    (placed-clear f0 f g q x.number xs h.1 e less n.0.0 a.0, placed-apart f0 f g q xs h.1 e less n.1 a.1)

named-opened : (f g : Forest) (xs : List Open) → ((k : ℕ) → data_of g k ≡ data_of f k) → AreOpened f xs → AreOpened g xs
named-opened f g [] e h = tt
named-opened f g (x ∷ xs) e h = (record { named = ap element_name (e x.number) ∙ h.0.named; own = h.0.own }, named-opened f g xs e h.1)

named-listed : (f g : Forest) (entries : List Entry) → ((k : ℕ) → data_of g k ≡ data_of f k) → AreListed f entries → AreListed g entries
named-listed f g [] e h = tt
named-listed f g (Marker ∷ entries) e h = named-listed f g entries e h
named-listed f g (Element n tag ∷ entries) e h = (ap element_name (e n) ∙ h.0, named-listed f g entries e h.1)

-- the last node is put at a place outside the block
pub walked-Placed : (f0 : Forest) (b : ℕ) (w : Walk) (place : Place) → Walked f0 b w
    → IsPlace (remove w.forest w.last_node) place → parent_at place < node_count f0 → (Above f0 b (parent_at place) → ⊥)
    → Placed f0 (put (remove w.forest w.last_node) place w.last_node) b (parent_at place) w.copies w.active_formatting
walked-Placed f0 b w place is at less out =
    let f : Forest = w.forest in
    let l : ℕ = w.last_node in
    let q : ℕ = parent_at place in
    let r : Forest = remove f l in
    let rr = IsRemoved-remove f l is.tree.forest in
    let count0 : node_count f0 ≤ node_count f = is.count in
    let count_r : node_count r ≡ node_count f = rr.count in
    let there : l < node_count f = is.there in
    let not_above : Above r l q → ⊥ = λ up. last-out f0 b w is q less out (Above-less f r rr.less l q up) in
    let loose : IsLoose r q l = record { there = omega arith; no_parent = rr.free is.plain; not_above = not_above } in
    let g : Forest = put r place l in
    let p = IsPutAt-put r place l rr.is at loose in
    let count_p : node_count g ≡ node_count r = p.count in
    let data_g : (k : ℕ) → data_of g k ≡ data_of f k = λ k. p.same_data k ∙ rr.same_data k in
    let up_q : (a : ℕ) → Above r a q → Above f0 a q = λ a up. is.outside a q less out (Above-less f r rr.less a q up) in
    let up_g : (a n : ℕ) → n < node_count f → Above g a n → Above f a n ⊎ Above f0 a q =
    λ a n there up. elim (Above-put r g q l p.put a n up)
    [ inl old ↦ inl (Above-less f r rr.less a n old) | inr above ↦ inr (up_q a above) ] in
    record {
      tree = IsTree-put_child (λ k. k) r place (AppendNode l) (IsTree-remove f l is.tree) at loose;
      names = record {
        names = λ k name e. ap element_name (data_g k) ∙ is.names.names k name e;
        holds = λ k at. let q = is.names.holds k at in record {
          there = let there = q.there in omega arith;
          holds = ap holds_children (data_g k) ∙ q.holds;
        };
      };
      count = omega arith;
      opened = named-opened f g w.copies data_g is.opened;
      apart = placed-apart f0 f g q w.copies is.opened up_g less is.new is.apart;
      listed = named-listed f g w.active_formatting data_g is.listed;
      outside = λ a n there out' up.
          let free : Above r l n → ⊥ = λ above. last-out f0 b w is n there out' (Above-less f r rr.less l n above) in
          is.outside a n there out' (Above-less f r rr.less a n (Above-put_free r g q l p.put a n free up));
      inside = λ a n there up. elim (up_g a n (omega arith) up) [
        | inl old ↦ elim (is.inside a n there old) [ inl older ↦ inl older | inr new ↦ inr (inl new) ]
        | inr above ↦ inr (inr above)
      ];
      above_new = placed-new f0 f g q l w.copies is.opened up_g is.new;
    }

-- what becomes of a forest whose block b gets a new element for its only child, which takes those that it had
pub record Adopted (f g : Forest) (b : ℕ) (tag : Tag) : Type 0 where
  pub tree : IsTree g
  pub names : KeepsNames f g
  pub named : element_name (data_of g (node_count f)) ≡ Some (element_name_of Html tag.name)
  -- what the block is not above has nothing new above it, nor has the block
  pub clean : (a k : ℕ) → k < node_count f → (Above f b k → ⊥) → Above g a k → Above f a k
  pub block : (a : ℕ) → Above g a b → Above f a b
  -- what the block is above has the new element
  pub inner : (a k : ℕ) → k < node_count f → Above g a k → Above f a k ⊎ (Above f a b ⊎ (a ≡ node_count f))
  pub new : (a : ℕ) → Above g a (node_count f) → (a ≡ node_count f) ⊎ Above f a b

-- a node that stands under nothing has none above it but itself
pub only-itself : (f : Forest) (a n : ℕ) → above_of f n ≡ None → Above f a n → a ≡ n
only-itself f a n e Above.here = refl
only-itself f a n e (Above.further is up) = absurd (cc)

-- a child does not stand above its parent
pub child-not_above : (f : Forest) (b c : ℕ) → IsForest f → is_among c (children_of f b) ≡ true → Above f c b → ⊥
child-not_above f b c is e up = by (is_contents (data_of f c)) refl where
  parent : parent_of f c ≡ Some b
  parent = is.one_parent b c e

  by : (x : Bool) → is_contents (data_of f c) ≡ x → ⊥
  by true contents = let stays = is.contents_stay c contents in let given = parent in cc
  by false plain = let above : above_of f c ≡ Some b = rw plain parent in Above-child f is c b above up

cases_Bool_false : (x : Bool) → (x ≡ true → ⊥) → x ≡ false
cases_Bool_false true h = absurd (h refl)
cases_Bool_false false h = refl

pub adopted-Adopted : (f : Forest) (b : ℕ) (tag : Tag) → IsTree f → IsParent f b → is_contents (data_of f b) ≡ false
    → Adopted f (put (reparent_children (with_copy f tag) b (node_count f)) (Last b) (node_count f)) b tag
adopted-Adopted f b tag tree block plain =
    let n : ℕ = node_count f in
    let made : Forest = with_copy f tag in
    let m = IsMade-create_element f (element_name_of Html tag.name) tag.attrs
    (flags_of Html tag.name tag.attrs tag.had_duplicate_attributes) tree.forest in
    let mm = made-Made Html5ever f Html tag.name tag.attrs tag.had_duplicate_attributes [] tree tt tt in
    let forest = mm.stays.tree.forest in
    let more : n < node_count made = m.there in
    let there : b < n = block.there in
    let alone : above_of made n ≡ None = (m.loose b there).no_parent in
    let below : (c : ℕ) → is_among c (children_of made b) ≡ true → c < n =
    λ c e. tree.forest.in_range b c (subst (λ cs. is_among c cs ≡ true) (m.lists b) e) in
    let apart : (c : ℕ) → is_among c (children_of made b) ≡ true → Above made c n → ⊥ = λ c e up. let same =
    only-itself made c n alone up in let less = below c e in absurd (omega arith) in
    let parent_n : IsParent made n = IsParent-element made n (element_name_of Html tag.name) mm.opened.named in
    let k2 : Forest = reparent_children made b n in
    let r = IsReparented-reparent_children made b n forest (omega arith) parent_n apart in
    let stays_n : is_among n (children_of made b) ≡ false = cases_Bool_false (is_among n (children_of made b))
    (λ e. let less = below n e in omega arith) in
    let alone2 : above_of k2 n ≡ None = r.moved.others n stays_n ∙ alone in
    let free : (k : ℕ) → (Above made b k → ⊥) ⊎ (k ≡ b) → (c : ℕ) → is_among c (children_of made b) ≡ true → Above made c k → ⊥ =
    λ k out c e up. elim out [
      | inl not_above ↦ not_above-child made b k forest not_above c e up
      | inr same ↦ child-not_above made b c forest e (subst (λ k. Above made c k) same up)
    ] in
    let up2 : (a k : ℕ) → (Above made b k → ⊥) ⊎ (k ≡ b) → Above k2 a k → Above made a k =
    λ a k out up. Above-moved_free made k2 (λ c. is_among c (children_of made b)) n r.moved a k (free k out) up in
    let new_made : (k : ℕ) → k < n → Above made n k → ⊥ = λ k less up. let less' = Above-IsNode f n k less
    (mm.stays.above n k less up) in absurd (omega arith) in
    let count2 : node_count k2 ≡ node_count made = r.count in
    let loose : IsLoose k2 b n = record {
      there = omega arith;
      no_parent = alone2;
      not_above = λ up. new_made b there (up2 n b (inr refl) up);
    } in
    let block_made : IsParent made b = mm.stays.names.holds b block in
    let block2 : IsParent k2 b = record {
      there = let less = block_made.there in omega arith;
      holds = ap holds_children (r.same_data b) ∙ block_made.holds;
    } in
    let g : Forest = put k2 (Last b) n in
    let p = IsPutAt-put k2 (Last b) n r.is block2 loose in
    let data_g : (k : ℕ) → data_of g k ≡ data_of made k = λ k. p.same_data k ∙ r.same_data k in
    let count_g : node_count g ≡ node_count made = p.count ∙ r.count in
    let down : (a k : ℕ) → k < n → (Above made b k → ⊥) ⊎ (k ≡ b) → Above g a k → Above f a k =
    λ a k less out up. mm.stays.above a k less
    (up2 a k out (Above-put_free k2 g b n p.put a k (λ new. new_made k less (up2 n k out new)) up)) in
    record {
      tree = IsTree-put_child (λ k. k) k2 (Last b) (AppendNode n)
          (IsTree-reparent_children made b n mm.stays.tree (omega arith) parent_n apart) block2 loose;
      names = record {
        names = λ k name e. ap element_name (data_g k) ∙ mm.stays.names.names k name e;
        holds = λ k at. let q = mm.stays.names.holds k at in record {
          there = let less = q.there in omega arith;
          holds = ap holds_children (data_g k) ∙ q.holds;
        };
      };
      named = ap element_name (data_g n) ∙ mm.opened.named;
      clean = λ a k less out up. down a k less (inl (λ above. out (mm.stays.above b k less above))) up;
      block = λ a up. down a b there (inr refl) up;
      inner = λ a k less up. elim (Above-put k2 g b n p.put a k up) [
        | inl old ↦ elim (Above-moved made k2 (λ c. is_among c (children_of made b)) n r.moved a k old) [
          | inl older ↦ inl (mm.stays.above a k less older)
          | inr new ↦ inr (inr (only-itself made a n alone new))
        ]
        | inr under ↦ inr (inl (mm.stays.above a b there (up2 a b (inr refl) under)))
      ];
      new = λ a up. elim (Above-put k2 g b n p.put a n up) [
        | inl old ↦ inl (only-itself k2 a n alone2 old)
        | inr under ↦ inr (mm.stays.above a b there (up2 a b (inr refl) under))
      ];
    }
