-- A turn of the adoption agency keeps the open elements standing, where the last node is put at a place outside the block.
use Rattle.std.proofs.Common.{◌≡◌, ◌∙◌, ℕ, ◌<◌, false, List, [], ◌∷◌, ◌++◌, Option, Some, None, refl, ap, subst, arith, inl}
use Rattle.markup.specs.Forest.{Above, Forest, IsPlace, Last, NodeData, Place, above_of, data_of, element_name, is_contents}
use Rattle.markup.specs.Forest.{node_count, parent_at, put, remove, reparent_children}
use Rattle.markup.specs.Forest.NodeData.{Contents}
use Rattle.markup.specs.Named.{IsTree}
use Rattle.markup.specs.declared.names.QualName.{QualName}
use Rattle.markup.proofs.PutTexts.{IsParent-element, element-IsNode}
use Rattle.markup.proofs.Walks.{Above-child}
use Rattle.html_tokens.specs.declared.tags.Tag.{Tag}
use Rattle.html_rules.specs.Adoption.{Walk, opened_for, relist, walk, with_copy}
use Rattle.html_rules.specs.Formatting.{put_after, stands_for}
use Rattle.html_rules.specs.Names.{Html, element_name_of}
use Rattle.html_rules.specs.State.{Open, Entry, Element}
use Rattle.html_rules.specs.declared.rules.Rules.{Rules}
use Rattle.html_rules_laws.specs.Soundness.{AreListed, IsOpened, IsStanding}
use Rattle.html_rules_laws.proofs.TreePreserved.AdoptionOrder.{NoneAbove, opened-right, turn-IsStanding}
use Rattle.html_rules_laws.proofs.TreePreserved.AdoptionTurn.{Adopted, Placed, adopted-Adopted, walked-Placed}
use Rattle.html_rules_laws.proofs.TreePreserved.AdoptionWalk.{Walked, choose-listed, cons-listed, in_place-listed, named-listed}
use Rattle.html_rules_laws.proofs.TreePreserved.AdoptionWalk.{tail-listed, walk-Walked, without-listed}

after-listed : (f : Forest) (n new : ℕ) (tag : Tag) (entries : List Entry) → element_name (data_of f new) ≡ Some
    (element_name_of Html tag.name) → AreListed f entries → AreListed f (put_after n (Element new tag) entries)
after-listed f n new tag [] e h = tt
after-listed f n new tag (entry ∷ entries) e h =
    choose-listed f (stands_for n entry) (Element new tag ∷ entry ∷ entries) (entry ∷ put_after n (Element new tag) entries) (e, h)
    (cons-listed f entry entries (put_after n (Element new tag) entries) h
    (after-listed f n new tag entries e (tail-listed f entry entries h)))

relist-listed : (f : Forest) (n new : ℕ) (tag : Tag) (copies : List Open) (entries : List Entry)
    → element_name (data_of f new) ≡ Some (element_name_of Html tag.name) → AreListed f entries
    → AreListed f (relist n (Element new tag) copies entries)
relist-listed f n new tag [] entries e h = in_place-listed f n new tag entries e h
relist-listed f n new tag (x ∷ copies) entries e h = without-listed f n
    (put_after x.number (Element new tag) entries) (after-listed f x.number new tag entries e h)

-- an element is no contents, and no document
pub element-plain : (d : NodeData) (name : QualName) → element_name d ≡ Some name → is_contents d ≡ false
element-plain Contents name e = absurd (cc)
element-plain _ name e = refl

-- nothing but the document stands above it
above-top : (f : Forest) (a : ℕ) → above_of f 0 ≡ None → Above f a 0 → a ≡ 0
above-top f a e Above.here = refl
above-top f a e (Above.further is up) = absurd (cc)

-- the walk before its first element
abbrev pub begun : Rules → Forest → ℕ → List Entry → Walk
begun rules f block entries = record { forest = f; active_formatting = entries; copies = []; last_node = block; rules = rules }

pub begun-Walked : (rules : Rules) (f : Forest) (b : ℕ) (entries : List Entry) → IsTree f → AreListed f entries → b < node_count f
    → is_contents (data_of f b) ≡ false → Walked f b (begun rules f b entries)
begun-Walked rules f b entries tree listed there plain = record {
  tree = tree;
  names = record { names = λ k name e. e; holds = λ k at. at };
  count = omega arith;
  opened = tt;
  apart = tt;
  new = tt;
  listed = listed;
  outside = λ a n less out up. up;
  inside = λ a n less up. inl up;
  there = there;
  plain = plain;
  last = inl refl;
}

pub not_above_document : (f : Forest) (block : Open) → IsTree f → above_of f 0 ≡ None → IsOpened f block → Above f block.number 0 → ⊥
not_above_document f block tree top is up =
    let same = above-top f block.number top up in
    let named : element_name (data_of f 0) ≡ Some (element_name_of block.namespace block.name) =
    subst (λ k. element_name (data_of f k) ≡ Some (element_name_of block.namespace block.name)) same is.named in
    let document = tree.forest.document_first in
    cc

stays-on_top : (f0 f g : Forest) (block : Open) (q : ℕ) (copies : List Open) (entries : List Entry) (tag : Tag)
    → IsTree f0 → above_of f0 0 ≡ None → IsOpened f0 block → Placed f0 f block.number q copies entries
    → Adopted f g block.number tag → above_of g 0 ≡ None
stays-on_top f0 f g block q copies entries tag tree top is placed made = by (above_of g 0) refl where
  out : Above f0 block.number 0 → ⊥
  out = not_above_document f0 block tree top is

  by : (o : Option ℕ) → above_of g 0 ≡ o → above_of g 0 ≡ None
  by None e = e
  by (Some m) e =
      let first : 0 < node_count f0 = tree.forest.document in
      let first' : 0 < node_count f = placed.tree.forest.document in
      let old : Above f0 m 0 = placed.outside m 0 first out
      (made.clean m 0 first' (λ up. out (placed.outside block.number 0 first out up)) (Above.further e Above.here)) in
      let itself : above_of g 0 ≡ Some 0 = e ∙ ap Some (above-top f0 m top old) in
      absurd (Above-child g made.tree.forest 0 0 itself Above.here)

-- the older nodes keep their names, and those that a block is not above have nothing new above them
pub record IsMoved (f0 g : Forest) (b : ℕ) : Type 0 where
  pub names : (n : ℕ) (name : QualName) → element_name (data_of f0 n) ≡ Some name → element_name (data_of g n) ≡ Some name
  pub outside : (a n : ℕ) → n < node_count f0 → (Above f0 b n → ⊥) → Above g a n → Above f0 a n

-- so a turn leaves the tree, where the last node of the walk is put at a place that the block is not above
pub outside-moved : (rules : Rules) (f0 : Forest) (block : Open) (entries : List Entry) (left : ℕ) (between : List Open) (tag : Tag)
    (place : Place) → IsTree f0 → AreListed f0 entries → IsOpened f0 block
    → IsPlace (remove (walk left between (begun rules f0 block.number entries)).forest
    (walk left between (begun rules f0 block.number entries)).last_node) place
    → parent_at place < node_count f0 → (Above f0 block.number (parent_at place) → ⊥)
    → let w = walk left between (begun rules f0 block.number entries) in
    let f = put (remove w.forest w.last_node) place w.last_node in
    IsMoved f0 (put (reparent_children (with_copy f tag) block.number (node_count f)) (Last block.number) (node_count f)) block.number
outside-moved rules f0 block entries left between tag place tree listed is at less out =
    let b : ℕ = block.number in
    let w : Walk = walk left between (begun rules f0 b entries) in
    let there : b < node_count f0 = element-IsNode f0 b (element_name_of block.namespace block.name) is.named in
    let walked = walk-Walked f0 b left between (begun rules f0 b entries)
    (begun-Walked rules f0 b entries tree listed there
    (element-plain (data_of f0 b) (element_name_of block.namespace block.name) is.named)) in
    let placed = walked-Placed f0 b w place walked at less out in
    let f : Forest = put (remove w.forest w.last_node) place w.last_node in
    let named_f = placed.names.names b (element_name_of block.namespace block.name) is.named in
    let made = adopted-Adopted f b tag placed.tree
    (IsParent-element f b (element_name_of block.namespace block.name) named_f)
    (element-plain (data_of f b) (element_name_of block.namespace block.name) named_f) in
    record {
      names = λ n name e. made.names.names n name (placed.names.names n name e);
      outside = λ a n less' out' up.
          let more = placed.count in
          let less'' : n < node_count f = omega arith in
          placed.outside a n less' out' (made.clean a n less'' (λ above. out' (placed.outside b n less' out' above)) up);
    }

-- With a block, elements that were opened after it, and those that were opened before the formatting element: where the last node of the
-- walk is put at a place whose parent neither the block nor a later element stands above, all that is open after the turn is in order.
pub outside-standing : (rules : Rules) (f0 : Forest) (block : Open) (later earlier : List Open) (entries : List Entry) (left : ℕ)
    (between : List Open) (formatting_element : ℕ) (tag : Tag) (place : Place)
    → IsStanding f0 (later ++ block ∷ earlier) entries
    → IsPlace (remove (walk left between (begun rules f0 block.number entries)).forest
    (walk left between (begun rules f0 block.number entries)).last_node) place
    → parent_at place < node_count f0 → (Above f0 block.number (parent_at place) → ⊥) → NoneAbove f0 later (parent_at place)
    → let w = walk left between (begun rules f0 block.number entries) in
    let f = put (remove w.forest w.last_node) place w.last_node in
    IsStanding (put (reparent_children (with_copy f tag) block.number (node_count f)) (Last block.number) (node_count f))
    (later ++ (opened_for rules f tag ∷ block ∷ (w.copies ++ earlier)))
    (relist formatting_element (Element (node_count f) tag) w.copies w.active_formatting)
outside-standing rules f0 block inner anc entries left between formatting_element tag place is at less out none =
    let b : ℕ = block.number in
    let q : ℕ = parent_at place in
    let w : Walk = walk left between (begun rules f0 b entries) in
    let rest = opened-right f0 inner (block ∷ anc) is.opened in
    let named = rest.0.named in
    let there : b < node_count f0 = element-IsNode f0 b (element_name_of block.namespace block.name) named in
    let walked = walk-Walked f0 b left between (begun rules f0 b entries)
    (begun-Walked rules f0 b entries is.tree is.listed there
    (element-plain (data_of f0 b) (element_name_of block.namespace block.name) named)) in
    let placed = walked-Placed f0 b w place walked at less out in
    let f : Forest = put (remove w.forest w.last_node) place w.last_node in
    let named_f = placed.names.names b (element_name_of block.namespace block.name) named in
    let made = adopted-Adopted f b tag placed.tree
    (IsParent-element f b (element_name_of block.namespace block.name) named_f)
    (element-plain (data_of f b) (element_name_of block.namespace block.name) named_f) in
    let g : Forest = put (reparent_children (with_copy f tag) b (node_count f)) (Last b) (node_count f) in
    let listed = named-listed f g w.active_formatting made.names placed.listed in
    turn-IsStanding rules f0 f g block q inner w.copies anc entries w.active_formatting tag is placed made less none out
    (relist formatting_element (Element (node_count f) tag) w.copies w.active_formatting)
    (relist-listed g formatting_element (node_count f) tag w.copies w.active_formatting made.named listed)
    (stays-on_top f0 f g block q w.copies w.active_formatting tag is.tree is.top rest.0 placed made)
