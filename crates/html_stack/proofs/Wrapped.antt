-- New elements that take a node as their child, or the children of one.
use Rattle.std.proofs.Common.{◌≡◌, ◌∙◌, ℕ, ◌<◌, Bool, true, false, List, [], ◌∷◌, Option, Some, None, refl, ap, subst, arith, inl, inr}
use Rattle.markup.specs.Forest.{Above, Forest, IsLoose, IsNode, IsParent, above_of, children_of, data_of, element_name}
use Rattle.markup.specs.Forest.{holds_children, is_among, is_contents, node_count, parent_of, remove, remove_under}
use Rattle.markup.specs.Forest.{reparent_children, without}
use Rattle.std.proofs.lemmas.List.{length-set}
use Rattle.markup.specs.Named.{IsTree}
use Rattle.markup.proofs.Forests.{IsMade-create_element, IsRemoved-remove}
use Rattle.markup.proofs.PutTexts.{IsParent-element, element-IsNode}
use Rattle.markup.proofs.Reparented.{IsReparented-reparent_children}
use Rattle.markup.proofs.Trees.{IsTree-remove, IsTree-reparent_children}
use Rattle.html_rules.specs.declared.rules.Rules.TheVariants.{Html5ever}
use Rattle.html_rules_laws.proofs.TreePreserved.AdoptionTurn.{child-not_above, only-itself}
use Rattle.markup.proofs.Walks.{Above-IsNode, Above-less, Above-moved, Above-moved_free}
use Rattle.markup.specs.declared.names.QualName.{QualName}
use Rattle.html_rules.specs.Names.{Html, element_name_of, flags_of, namespace_of}
use Rattle.html_rules.specs.State.{Entry, Element, Marker, Open}
use Rattle.html_rules_laws.specs.Soundness.{AreListed, AreOpened, IsApart, IsClear, IsStanding}
use Rattle.html_rules_laws.proofs.TreePreserved.Standing.{Stays, changed-Standing}
use Rattle.html_rules_laws.proofs.TreePreserved.StandingTrees.{made-Made}
use Rattle.html_stack.specs.Adopting.{IsMovable}
use Rattle.html_stack.specs.Inserting.{LeavesStanding, with_made}
use Rattle.html_stack.specs.declared.inserting.new_element.NewElement.{NewElement}
use Rattle.html_stack.proofs.Points.{own-of}

cases_false : (x : Bool) → (x ≡ true → ⊥) → x ≡ false
cases_false true h = absurd (h refl)
cases_false false h = refl

-- where no older node comes above another older one, and names are kept
older-clear : (f g : Forest) (n : ℕ) (xs : List Open) → n < node_count f
    → ((a k : ℕ) → a < node_count f → k < node_count f → Above g a k → Above f a k) → AreOpened f xs → IsClear f n xs → IsClear g n xs
older-clear f g n [] less older h c = tt
older-clear f g n (x ∷ xs) less older h c = (
  λ up. c.0 (older n x.number less (element-IsNode f x.number (element_name_of x.namespace x.name) h.0.named)
      up),
  older-clear f g n xs less older h.1 c.1,
)

older-apart : (f g : Forest) (xs : List Open) → ((a k : ℕ) → a < node_count f → k < node_count f → Above g a k
    → Above f a k) → AreOpened f xs → IsApart f xs → IsApart g xs
older-apart f g [] older h a = tt
older-apart f g (x ∷ xs) older h a = (
  older-clear f g x.number xs (element-IsNode f x.number (element_name_of x.namespace x.name) h.0.named) older
      h.1 a.0,
  older-apart f g xs older h.1 a.1,
)

named-opened : (f g : Forest) (xs : List Open) → ((k : ℕ) (name : QualName) → element_name (data_of f k) ≡ Some name
    → element_name (data_of g k) ≡ Some name) → AreOpened f xs → AreOpened g xs
named-opened f g [] names h = tt
named-opened f g (x ∷ xs) names h =
    (record { named = names x.number (element_name_of x.namespace x.name) h.0.named; own = h.0.own }, named-opened f g xs names h.1)

named-listed : (f g : Forest) (entries : List Entry)
    → ((k : ℕ) (name : QualName) → element_name (data_of f k) ≡ Some name → element_name (data_of g k) ≡ Some name)
    → AreListed f entries → AreListed g entries
named-listed f g [] names h = tt
named-listed f g (Marker ∷ entries) names h = named-listed f g entries names h
named-listed f g (Element n tag ∷ entries) names h = (names n (element_name_of Html tag.name) h.0, named-listed f g entries names h.1)

pub older-Standing : (f g : Forest) (xs : List Open) (entries : List Entry) → IsTree g
    → ((k : ℕ) (name : QualName) → element_name (data_of f k) ≡ Some name → element_name (data_of g k) ≡ Some name)
    → ((a k : ℕ) → a < node_count f → k < node_count f → Above g a k → Above f a k) → above_of g 0 ≡ None
    → IsStanding f xs entries → IsStanding g xs entries
older-Standing f g xs entries tree names older top h = record {
  tree = tree;
  opened = named-opened f g xs names h.opened;
  apart = older-apart f g xs older h.opened h.apart;
  listed = named-listed f g entries names h.listed;
  top = top;
}

-- an element is made
pub record IsFresh (f : Forest) (e : NewElement) : Type 0 where
  pub stays : Stays f (with_made f e)
  pub there : node_count f < node_count (with_made f e)
  pub named : element_name (data_of (with_made f e) (node_count f)) ≡ Some (element_name_of (namespace_of e.namespace) e.name)
  pub alone : above_of (with_made f e) (node_count f) ≡ None
  pub same_data : (n : ℕ) → n < node_count f → data_of (with_made f e) n ≡ data_of f n
  pub lists : (q : ℕ) → children_of (with_made f e) q ≡ children_of f q

pub fresh : (f : Forest) (e : NewElement) (n : ℕ) → IsTree f → n < node_count f → IsFresh f e
fresh f e n tree less =
    let m = IsMade-create_element f (element_name_of (namespace_of e.namespace) e.name) e.attrs
    (flags_of (namespace_of e.namespace) e.name e.attrs e.had_duplicate_attributes) tree.forest in
    let mm = made-Made Html5ever f (namespace_of e.namespace) e.name e.attrs e.had_duplicate_attributes [] tree (own-of e.namespace) tt in
    record {
      stays = mm.stays;
      there = m.there;
      named = mm.opened.named;
      alone = (m.loose n less).no_parent;
      same_data = m.same_data;
      lists = m.lists;
    }

-- a node leaves its parent
pub stays-removed : (f g : Forest) (n : ℕ) → Stays f g → Stays f (remove g n)
stays-removed f g n is =
    let rr = IsRemoved-remove g n is.tree.forest in
    record {
      tree = IsTree-remove g n is.tree;
      names = record {
        names = λ k name e. ap element_name (rr.same_data k) ∙ is.names.names k name e;
        holds = λ k at. let q = is.names.holds k at in
            record {
              there = let there = q.there in let count = rr.count in omega arith;
              holds = ap holds_children (rr.same_data k) ∙ q.holds;
            };
      };
      above = λ a k there up. is.above a k there (Above-less g (remove g n) rr.less a k up);
    }

pub leaves-removed : (f : Forest) (e : NewElement) (n : ℕ) → IsMovable f n → LeavesStanding f (remove (with_made f e) n)
leaves-removed f e n is xs entries h = changed-Standing f (remove (with_made f e) n) xs entries
    (stays-removed f (with_made f e) n (fresh f e n is.tree is.there).stays) h

-- the node may be put under the new element
pub record MayWrap (f : Forest) (e : NewElement) (n : ℕ) : Type 0 where
  pub node : IsNode (with_made f e) n
  pub parent : IsParent (remove (with_made f e) n) (node_count f)
  pub loose : IsLoose (remove (with_made f e) n) (node_count f) n

pub may-wrap : (f : Forest) (e : NewElement) (n : ℕ) → IsMovable f n → MayWrap f e n
may-wrap f e n is =
    let made : Forest = with_made f e in
    let m = fresh f e n is.tree is.there in
    let r : Forest = remove made n in
    let rr = IsRemoved-remove made n m.stays.tree.forest in
    let less : n < node_count f = is.there in
    let more : node_count f < node_count made = m.there in
    let count : node_count r ≡ node_count made = rr.count in
    let plain : is_contents (data_of made n) ≡ false = ap is_contents (m.same_data n less) ∙ is.plain in
    let itself : (a : ℕ) → Above r a (node_count f) → a ≡ node_count f =
    λ a up. only-itself made a (node_count f) m.alone (Above-less made r rr.less a (node_count f) up) in
    let named : element_name (data_of r (node_count f)) ≡ Some (element_name_of (namespace_of e.namespace) e.name) =
    ap element_name (rr.same_data (node_count f)) ∙ m.named in
    record {
      node = omega arith;
      parent = IsParent-element r (node_count f) (element_name_of (namespace_of e.namespace) e.name) named;
      loose = record { there = omega arith; no_parent = rr.free plain; not_above = λ up. let same = itself n up in absurd (omega arith) };
    }

-- the new element may take the children of a node, and be put under it
pub record MayAdopt (f : Forest) (e : NewElement) (b : ℕ) : Type 0 where
  pub node : IsNode (with_made f e) b
  pub parent : IsParent (with_made f e) (node_count f)
  pub apart : (child : ℕ) → is_among child (children_of (with_made f e) b) ≡ true → Above (with_made f e) child (node_count f) → ⊥
  pub block : IsParent (reparent_children (with_made f e) b (node_count f)) b
  pub loose : IsLoose (reparent_children (with_made f e) b (node_count f)) b (node_count f)
  pub leaves : LeavesStanding f (reparent_children (with_made f e) b (node_count f))

pub may-adopt : (f : Forest) (e : NewElement) (b : ℕ) → IsMovable f b → IsParent f b → MayAdopt f e b
may-adopt f e b is block =
    let n : ℕ = node_count f in
    let made : Forest = with_made f e in
    let m = fresh f e b is.tree is.there in
    let forest = m.stays.tree.forest in
    let more : n < node_count made = m.there in
    let there : b < n = is.there in
    let below : (c : ℕ) → is_among c (children_of made b) ≡ true → c < n = λ c e. is.tree.forest.in_range b c
    (subst (λ cs. is_among c cs ≡ true) (m.lists b) e) in
    let apart : (c : ℕ) → is_among c (children_of made b) ≡ true → Above made c n → ⊥ = λ c e up. let same =
    only-itself made c n m.alone up in let less = below c e in absurd (omega arith) in
    let parent : IsParent made n = IsParent-element made n (element_name_of (namespace_of e.namespace) e.name) m.named in
    let g : Forest = reparent_children made b n in
    let r = IsReparented-reparent_children made b n forest (omega arith) parent apart in
    let stays_n : is_among n (children_of made b) ≡ false = cases_false (is_among n (children_of made b))
    (λ e. let less = below n e in omega arith) in
    let alone : above_of g n ≡ None = r.moved.others n stays_n ∙ m.alone in
    let count : node_count g ≡ node_count made = r.count in
    let free : (c : ℕ) → is_among c (children_of made b) ≡ true → Above made c b → ⊥ = λ c e up. child-not_above made b c forest e up in
    let up_b : (a : ℕ) → Above g a b → Above made a b =
    λ a up. Above-moved_free made g (λ c. is_among c (children_of made b)) n r.moved a b free up in
    let block_made : IsParent made b = m.stays.names.holds b block in
    record {
      node = omega arith;
      parent = parent;
      apart = apart;
      block = record { there = let less = block_made.there in omega arith; holds = ap holds_children (r.same_data b) ∙ block_made.holds };
      loose = record {
        there = omega arith;
        no_parent = alone;
        not_above = λ up. let less = Above-IsNode f n b there (m.stays.above n b there (up_b n up)) in absurd (omega arith);
      };
      leaves = λ xs entries h.
          let older : (a k : ℕ) → a < n → k < n → Above g a k → Above f a k = λ a k less less' up.
          elim (Above-moved made g (λ c. is_among c (children_of made b)) n r.moved a k up) [
            | inl old ↦ m.stays.above a k less' old
            | inr new ↦ let same = only-itself made a n m.alone new in absurd (omega arith)
          ] in
          older-Standing f g xs entries (IsTree-reparent_children made b n m.stays.tree (omega arith) parent apart)
          (λ k name e. ap element_name (r.same_data k) ∙ m.stays.names.names k name e) older
          (r.moved.others 0 (cases_false (is_among 0 (children_of made b))
          (λ e. top-no_child f b is.tree h.top (subst (λ cs. is_among 0 cs ≡ true) (m.lists b) e))) ∙ top-made f e b is h.top) h;
    }
  where
    top-made : (f : Forest) (e : NewElement) (b : ℕ) → IsMovable f b → above_of f 0 ≡ None → above_of (with_made f e) 0 ≡ None
    top-made f e b is top =
        let m = fresh f e b is.tree is.there in
        let h = changed-Standing f (with_made f e) [] [] m.stays
        (record { tree = is.tree; opened = tt; apart = tt; listed = tt; top = top }) in
        h.top

    -- the document is nobody's child
    top-no_child : (f : Forest) (b : ℕ) → IsTree f → above_of f 0 ≡ None → is_among 0 (children_of f b) ≡ true → ⊥
    top-no_child f b tree top e = by (is_contents (data_of f 0)) refl where
      parent : parent_of f 0 ≡ Some b
      parent = tree.forest.one_parent b 0 e

      by : (x : Bool) → is_contents (data_of f 0) ≡ x → ⊥
      by true contents = let stays = tree.forest.contents_stay 0 contents in let given = parent in cc
      by false plain = let above : above_of f 0 ≡ Some b = rw plain parent in cc

pub removed-count : (f : Forest) (n : ℕ) → node_count (remove f n) ≡ node_count f
removed-count f n = by (parent_of f n) where
  by : (o : Option ℕ) → node_count (remove_under f n o) ≡ node_count f
  by None = refl
  by (Some parent) = length-set f.nodes parent (record { about = data_of f parent; children = without n (children_of f parent) })
