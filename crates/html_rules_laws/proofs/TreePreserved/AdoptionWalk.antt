-- The walk of the adoption agency: copies under which the furthest block goes.
use Rattle.std.proofs.Common.{◌≡◌, ◌∙◌, ℕ, zero, suc, ◌<◌, ◌≤◌, Bool, true, false, List, [], ◌∷◌, ◌++◌, Option, Some, None}
use Rattle.std.proofs.Common.{refl, sym, ap, subst, arith, inl, inr, ◌⊎◌}
use Rattle.markup.specs.Forest.{Above, Forest, IsLoose, IsParent, Last, above_of, data_of, element_name, holds_children}
use Rattle.markup.specs.Forest.{is_contents, node_count, put, remove}
use Rattle.markup.specs.Named.{IsTree}
use Rattle.markup.specs.declared.node_or_text.NodeOrText.TheVariants.{AppendNode}
use Rattle.markup.proofs.Forests.{IsMade-create_element, IsPutAt-put, IsRemoved-remove}
use Rattle.markup.proofs.PutTexts.{IsParent-element, KeepsNames, element-IsNode}
use Rattle.markup.proofs.Trees.{IsTree-put_child, IsTree-remove}
use Rattle.markup.proofs.Walks.{Above-IsNode, Above-less, Above-put, Above-put_free}
use Rattle.html_tokens.specs.declared.tags.Tag.{Tag}
use Rattle.html_rules.specs.Adoption.{Walk, copy_if, copy_node, listed_as, opened_for, walk, with_copy}
use Rattle.html_rules.specs.Choice.{choose}
use Rattle.html_rules.specs.Formatting.{Listed, stands_for, with_in_place, without_entry}
use Rattle.html_rules.specs.Names.{Html, element_name_of, flags_of}
use Rattle.html_rules.specs.State.{Open, Entry, Element, Marker}
use Rattle.html_rules.specs.declared.rules.Rules.{Rules}
use Rattle.html_rules_laws.specs.Soundness.{AreListed, AreOpened, IsApart, IsClear, IsOpened}
use Rattle.html_rules_laws.proofs.TreePreserved.StandingTrees.{made-Made}

-- only newer nodes than those of a forest stand above these, which are newer too
abbrev pub AreNew : Forest → Forest → List Open → Type 0
AreNew f0 f [] = Unit {0}
AreNew f0 f (x ∷ xs) = ((node_count f0 ≤ x.number) × ((a : ℕ) → Above f a x.number → node_count f0 ≤ a)) × AreNew f0 f xs

-- what the walk has made of a forest, whose node b is the furthest block
pub record Walked (f0 : Forest) (b : ℕ) (w : Walk) : Type 0 where
  pub tree : IsTree w.forest
  pub names : KeepsNames f0 w.forest
  pub count : node_count f0 ≤ node_count w.forest
  pub opened : AreOpened w.forest w.copies
  pub apart : IsApart w.forest w.copies
  pub new : AreNew f0 w.forest w.copies
  pub listed : AreListed w.forest w.active_formatting
  -- what is not under the block has nothing new above it
  pub outside : (a n : ℕ) → n < node_count f0 → (Above f0 b n → ⊥) → Above w.forest a n → Above f0 a n
  -- what is has new nodes alone
  pub inside : (a n : ℕ) → n < node_count f0 → Above w.forest a n → Above f0 a n ⊎ (node_count f0 ≤ a)
  pub there : w.last_node < node_count w.forest
  pub plain : is_contents (data_of w.forest w.last_node) ≡ false
  pub last : (w.last_node ≡ b) ⊎ (node_count f0 ≤ w.last_node)

-- the last node stands above nothing that is not under the block
pub last-out : (f0 : Forest) (b : ℕ) (w : Walk) → Walked f0 b w → (n : ℕ) → n < node_count f0 → (Above f0 b n → ⊥)
    → Above w.forest w.last_node n → ⊥
last-out f0 b w is n there out up =
    let old = is.outside w.last_node n there out up in
    elim is.last [
      | inl same ↦ out (subst (λ k. Above f0 k n) same old)
      | inr new ↦ let less = Above-IsNode f0 w.last_node n there old in absurd (omega arith)
    ]

-- lists of open elements, one after the other

pub append-opened : (f : Forest) (xs ys : List Open) → AreOpened f xs → AreOpened f ys → AreOpened f (xs ++ ys)
append-opened f [] ys h k = k
append-opened f (x ∷ xs) ys h k = (h.0, append-opened f xs ys h.1 k)

-- each of these stands above none of those
abbrev pub AreClear : Forest → List Open → List Open → Type 0
AreClear f [] ys = Unit {0}
AreClear f (x ∷ xs) ys = IsClear f x.number ys × AreClear f xs ys

pub append-clear : (f : Forest) (n : ℕ) (xs ys : List Open) → IsClear f n xs → IsClear f n ys → IsClear f n (xs ++ ys)
append-clear f n [] ys h k = k
append-clear f n (x ∷ xs) ys h k = (h.0, append-clear f n xs ys h.1 k)

pub append-apart : (f : Forest) (xs ys : List Open) → IsApart f xs → IsApart f ys → AreClear f xs ys → IsApart f (xs ++ ys)
append-apart f [] ys h k c = k
append-apart f (x ∷ xs) ys h k c = (append-clear f x.number xs ys h.0 c.0, append-apart f xs ys h.1 k c.1)

append-new : (f0 f : Forest) (xs ys : List Open) → AreNew f0 f xs → AreNew f0 f ys → AreNew f0 f (xs ++ ys)
append-new f0 f [] ys h k = k
append-new f0 f (x ∷ xs) ys h k = (h.0, append-new f0 f xs ys h.1 k)

-- from one forest to the next, in which names are kept
named-opened : (f g : Forest) (xs : List Open) → KeepsNames f g → AreOpened f xs → AreOpened g xs
named-opened f g [] names h = tt
named-opened f g (x ∷ xs) names h =
    (record { named = names.names x.number (element_name_of x.namespace x.name) h.0.named; own = h.0.own }, named-opened f g xs names h.1)

pub named-listed : (f g : Forest) (entries : List Entry) → KeepsNames f g → AreListed f entries → AreListed g entries
named-listed f g [] names h = tt
named-listed f g (Marker ∷ entries) names h = named-listed f g entries names h
named-listed f g (Element n tag ∷ entries) names h = (names.names n (element_name_of Html tag.name) h.0, named-listed f g entries names h.1)

-- nothing but the next node comes above the nodes of f
abbrev IsNewAbove : Forest → Forest → Type 0
IsNewAbove f g = (a n : ℕ) → n < node_count f → Above g a n → Above f a n ⊎ (a ≡ node_count f)

newer-clear : (f g : Forest) (a : ℕ) (xs : List Open) → IsNewAbove f g → a < node_count f → AreOpened f xs → IsClear f a xs → IsClear g a xs
newer-clear f g a [] e less h c = tt
newer-clear f g a (x ∷ xs) e less h c = (
  λ up. elim (e a x.number (element-IsNode f x.number (element_name_of x.namespace x.name) h.0.named) up)
      [ inl old ↦ c.0 old | inr same ↦ absurd (omega arith) ],
  newer-clear f g a xs e less h.1 c.1,
)

newer-apart : (f g : Forest) (xs : List Open) → IsNewAbove f g → AreOpened f xs → IsApart f xs → IsApart g xs
newer-apart f g [] e h a = tt
newer-apart f g (x ∷ xs) e h a = (
  newer-clear f g x.number xs e (element-IsNode f x.number (element_name_of x.namespace x.name) h.0.named) h.1
      a.0,
  newer-apart f g xs e h.1 a.1,
)

newer-new : (f0 f g : Forest) (xs : List Open) → IsNewAbove f g → node_count f0 ≤ node_count f → AreOpened f xs
    → AreNew f0 f xs → AreNew f0 g xs
newer-new f0 f g [] e more h n = tt
newer-new f0 f g (x ∷ xs) e more h n = (
  (
    n.0.0,
    λ a up. elim (e a x.number (element-IsNode f x.number (element_name_of x.namespace x.name) h.0.named)
        up) [ inl old ↦ n.0.1 a old | inr same ↦ (omega arith) ],
  ),
  newer-new f0 f g xs e more h.1 n.1,
)

-- entries

pub choose-listed : (f : Forest) (b : Bool) (xs ys : List Entry) → AreListed f xs → AreListed f ys
    → AreListed f (choose b (λ _. xs) (λ _. ys))
choose-listed f true xs ys h k = h
choose-listed f false xs ys h k = k

pub cons-listed : (f : Forest) (entry : Entry) (xs ys : List Entry) → AreListed f (entry ∷ xs) → AreListed f ys → AreListed f (entry ∷ ys)
cons-listed f Marker xs ys h k = k
cons-listed f (Element n tag) xs ys h k = (h.0, k)

pub tail-listed : (f : Forest) (entry : Entry) (xs : List Entry) → AreListed f (entry ∷ xs) → AreListed f xs
tail-listed f Marker xs h = h
tail-listed f (Element n tag) xs h = h.1

pub without-listed : (f : Forest) (n : ℕ) (entries : List Entry) → AreListed f entries → AreListed f (without_entry n entries)
without-listed f n [] h = tt
without-listed f n (entry ∷ entries) h =
    choose-listed f (stands_for n entry) entries (entry ∷ without_entry n entries) (tail-listed f entry entries h)
    (cons-listed f entry entries (without_entry n entries) h (without-listed f n entries (tail-listed f entry entries h)))

pub in_place-listed : (f : Forest) (n new : ℕ) (tag : Tag) (entries : List Entry)
    → element_name (data_of f new) ≡ Some (element_name_of Html tag.name) → AreListed f entries
    → AreListed f (with_in_place n (Element new tag) entries)
in_place-listed f n new tag [] e h = tt
in_place-listed f n new tag (entry ∷ entries) e h =
    choose-listed f (stands_for n entry) (Element new tag ∷ entries)
    (entry ∷ with_in_place n (Element new tag) entries) (e, tail-listed f entry entries h)
    (cons-listed f entry entries (with_in_place n (Element new tag) entries) h
    (in_place-listed f n new tag entries e (tail-listed f entry entries h)))

-- one copy

only-itself : (f : Forest) (a n : ℕ) → above_of f n ≡ None → Above f a n → a ≡ n
only-itself f a n e Above.here = refl
only-itself f a n e (Above.further is up) = absurd (cc)

clear-of : (rules : Rules) (g : Forest) (n : ℕ) (f : Forest) (xs : List Open) → AreOpened f xs
    → ((x : ℕ) → x < node_count f → Above g x n → ⊥) → AreClear g xs (record { number = n; namespace = Html; name = []; rules = rules } ∷ [])
clear-of rules g n f [] h free = tt
clear-of rules g n f (x ∷ xs) h free =
    ((free x.number (element-IsNode f x.number (element_name_of x.namespace x.name) h.0.named), tt), clear-of rules g n f xs h.1 free)

-- only the number of an element counts for what stands above it
clear-number : (g : Forest) (xs : List Open) (x y : Open) → x.number ≡ y.number → AreClear g xs (x ∷ []) → AreClear g xs (y ∷ [])
clear-number g [] x y e h = tt
clear-number g (z ∷ xs) x y e h = ((λ up. h.0.0 (subst (λ k. Above g z.number k) (sym e) up), tt), clear-number g xs x y e h.1)

pub copy-Walked : (f0 : Forest) (b : ℕ) (w : Walk) (listed : Listed) → Walked f0 b w → Walked f0 b (copy_node listed w)
copy-Walked f0 b w listed is =
    let tag : Tag = listed.tag in
    let f : Forest = w.forest in
    let n : ℕ = node_count f in
    let l : ℕ = w.last_node in
    let made : Forest = with_copy f tag in
    let new : Open = opened_for w.rules f tag in
    let m = IsMade-create_element f (element_name_of Html tag.name) tag.attrs
    (flags_of Html tag.name tag.attrs tag.had_duplicate_attributes) is.tree.forest in
    let mm = made-Made w.rules f Html tag.name tag.attrs tag.had_duplicate_attributes w.copies is.tree tt is.opened in
    let r : Forest = remove made l in
    let rr = IsRemoved-remove made l mm.stays.tree.forest in
    let less : l < n = is.there in
    let plain : is_contents (data_of made l) ≡ false = ap is_contents (m.same_data l less) ∙ is.plain in
    let alone : above_of made n ≡ None = (m.loose l less).no_parent in
    let itself : (a : ℕ) → Above r a n → a ≡ n = λ a up. only-itself made a n alone (Above-less made r rr.less a n up) in
    let named_r : element_name (data_of r n) ≡ Some (element_name_of Html tag.name) = ap element_name (rr.same_data n) ∙ mm.opened.named in
    let more : n < node_count made = m.there in
    let count_r : node_count r ≡ node_count made = rr.count in
    let loose : IsLoose r n l = record {
      there = omega arith;
      no_parent = rr.free plain;
      not_above = λ up. let same = itself l up in absurd (omega arith);
    } in
    let parent : IsParent r n = IsParent-element r n (element_name_of Html tag.name) named_r in
    let g : Forest = put r (Last n) l in
    let p = IsPutAt-put r (Last n) l rr.is parent loose in
    let data_g : (k : ℕ) → data_of g k ≡ data_of made k = λ k. p.same_data k ∙ rr.same_data k in
    let count_g : node_count g ≡ node_count made = p.count ∙ rr.count in
    let up_g : (a k : ℕ) → Above g a k → Above made a k ⊎ (a ≡ n) =
    λ a k up. elim (Above-put r g n l p.put a k up)
    [ inl old ↦ inl (Above-less made r rr.less a k old) | inr under ↦ inr (itself a under) ] in
    let newer : (a k : ℕ) → k < node_count f → Above g a k → Above f a k ⊎ (a ≡ node_count f) =
    λ a k there up. elim (up_g a k up) [ inl old ↦ inl (mm.stays.above a k there old) | inr same ↦ inr same ] in
    let step : KeepsNames f g = record {
      names = λ k name e. ap element_name (data_g k) ∙ mm.stays.names.names k name e;
      holds = λ k at. let q = mm.stays.names.holds k at in record {
        there = let there = q.there in omega arith;
        holds = ap holds_children (data_g k) ∙ q.holds;
      };
    } in
    let opened_g : IsOpened g new = record { named = ap element_name (data_g n) ∙ mm.opened.named; own = tt } in
    let count : node_count f0 ≤ node_count f = is.count in
    record {
      tree = IsTree-put_child (λ k. k) r (Last n) (AppendNode l) (IsTree-remove made l mm.stays.tree) parent loose;
      names = record {
        names = λ k name e. step.names k name (is.names.names k name e);
        holds = λ k at. step.holds k (is.names.holds k at);
      };
      count = omega arith;
      opened = append-opened g w.copies (new ∷ []) (named-opened f g w.copies step is.opened) (opened_g, tt);
      apart = append-apart g w.copies (new ∷ []) (newer-apart f g w.copies newer is.opened is.apart) (tt, tt)
          (clear-number g w.copies (record { number = n; namespace = Html; name = []; rules = w.rules }) new refl
          (clear-of w.rules g n f w.copies is.opened
          (λ x there up. elim (up_g x n up) [
            | inl old ↦ let same = only-itself made x n alone old in absurd
                (omega arith)
            | inr same ↦ absurd (omega arith)
          ])));
      new = append-new f0 g w.copies (new ∷ []) (newer-new f0 f g w.copies newer count is.opened is.new) (
        (
          count,
          λ a up. elim (up_g a n up) [
            | inl old ↦ let same = only-itself made a n alone old in
                (omega arith)
            | inr same ↦ (omega arith)
          ],
        ),
        tt,
      );
      listed = in_place-listed g listed.number n tag w.active_formatting opened_g.named
          (named-listed f g w.active_formatting step is.listed);
      outside = λ a k there out up.
          let free : Above r l k → ⊥ = λ above. last-out f0 b w is k there out
          (mm.stays.above l k (omega arith) (Above-less made r rr.less l k above)) in
          is.outside a k there out (mm.stays.above a k (omega arith)
          (Above-less made r rr.less a k (Above-put_free r g n l p.put a k free up)));
      inside = λ a k there up. elim (newer a k (omega arith) up) [ inl old ↦ is.inside a k there old | inr same ↦ inr (omega arith) ];
      there = omega arith;
      plain = ap is_contents (data_g n ∙ m.made);
      last = inr count;
    }

-- the walk

copy_if-Walked : (f0 : Forest) (b : ℕ) (w : Walk) (o : Option Listed) → Walked f0 b w → Walked f0 b (copy_if o w)
copy_if-Walked f0 b w None is = is
copy_if-Walked f0 b w (Some listed) is = copy-Walked f0 b w listed is

relisted-Walked : (f0 : Forest) (b : ℕ) (w : Walk) (entries : List Entry) → AreListed w.forest entries
    → Walked f0 b w → Walked f0 b (record w { active_formatting = entries })
relisted-Walked f0 b w entries h is = record {
  tree = is.tree;
  names = is.names;
  count = is.count;
  opened = is.opened;
  apart = is.apart;
  new = is.new;
  listed = h;
  outside = is.outside;
  inside = is.inside;
  there = is.there;
  plain = is.plain;
  last = is.last;
}

pub walk-Walked : (f0 : Forest) (b left : ℕ) (xs : List Open) (w : Walk) → Walked f0 b w → Walked f0 b (walk left xs w)
walk-Walked f0 b left [] w is = is
walk-Walked f0 b zero (x ∷ xs) w is =
    walk-Walked f0 b zero xs (record w { active_formatting = without_entry x.number w.active_formatting })
    (relisted-Walked f0 b w (without_entry x.number w.active_formatting)
    (without-listed w.forest x.number w.active_formatting is.listed) is)
walk-Walked f0 b (suc left) (x ∷ xs) w is =
    walk-Walked f0 b left xs (copy_if (listed_as x.number w.active_formatting) w)
    (copy_if-Walked f0 b w (listed_as x.number w.active_formatting) is)
