-- The walk of the adoption agency, one by one.
use Rattle.std.proofs.Common.{◌≡◌, ◌∙◌, ℕ, suc, ◌<◌, true, List, [], ◌∷◌, ◌++◌, length, take, drop, get_or, set, map, Option}
use Rattle.std.proofs.Common.{Some, None, refl, sym, ap, subst, arith, inl, inr, eqb-true, length-take-le}
use Rattle.std.specs.Prelude.{nat_eq}
use Rattle.std.proofs.lemmas.List.{map-append}
use Rattle.markup.specs.Forest.{Above, Forest, Last, above_of, data_of, node_count, put, remove, reparent_children}
use Rattle.markup.specs.Named.{IsTree}
use Rattle.markup.proofs.PutTexts.{element-IsNode}
use Rattle.markup.proofs.Walks.{Above-child}
use Rattle.html_tokens.specs.declared.tags.Tag.{Tag}
use Rattle.html_rules.specs.Adoption.{Walk, copy_if, copy_node, listed_as, opened_for, walk, with_copy}
use Rattle.html_rules.specs.Formatting.{Listed, stands_for, with_in_place, without_entry}
use Rattle.html_rules.specs.Names.{Html, element_name_of, namespace_of}
use Rattle.html_names.specs.ElementNames.{Named}
use Rattle.html_rules.specs.Places.{with_element}
use Rattle.html_rules.specs.State.{Entry, Element, Open}
use Rattle.html_rules.specs.declared.rules.Rules.{Rules}
use Rattle.html_rules_laws.specs.Soundness.{AreListed, IsOpened, IsStanding}
use Rattle.html_rules_laws.proofs.TreePreserved.AdoptionStanding.{begun, begun-Walked, element-plain, not_above_document}
use Rattle.html_rules_laws.proofs.TreePreserved.AdoptionWalk.{Walked, walk-Walked}
use Rattle.html_stack.specs.Adopting.{IsMovable, adopted, walk_of, wrapped}
use Rattle.html_stack.specs.Found.{IsNewest, renamed}
use Rattle.html_stack.specs.Inserting.{IsFor, with_made}
use Rattle.html_stack.specs.Stacks.{entries_of, entry_of, open_of, opens_of}
use Rattle.html_stack.specs.declared.entries.FormatEntry.{FormatEntry}
use Rattle.html_stack.specs.declared.entries.FormatEntry.TheVariants as held
use Rattle.html_stack.specs.declared.entries.OpenElement.{OpenElement}
use Rattle.html_stack.specs.declared.formatting.copies.Copies.{Copies}
use Rattle.html_stack.specs.declared.inserting.new_element.NewElement.{NewElement}
use Rattle.html_stack.proofs.ListEdits.{in_place-at, listed_as-at, said_by}
use Rattle.html_stack.proofs.Newest.{split-at}
use Rattle.html_stack.proofs.Reopened.{count-entries, renamed-at}
use Rattle.html_stack.proofs.WalksBack.{at}
use Rattle.html_stack.proofs.Wrapped.{older-Standing}

-- an element made for a tag
pub made-for : (tag : Tag) (f : Forest) (e : NewElement)
    → IsFor Html tag.name tag.attrs tag.had_duplicate_attributes e → with_made f e ≡ with_copy f tag
made-for tag f e is =
    ap (λ space. with_element f space e.name e.attrs e.had_duplicate_attributes) is.in_namespace
    ∙ ap (λ name. with_element f Html name e.attrs e.had_duplicate_attributes) is.named
    ∙ ap (λ attrs. with_element f Html tag.name attrs e.had_duplicate_attributes) is.with_attributes
    ∙ ap (λ twice. with_element f Html tag.name tag.attrs twice) is.had_duplicate_attributes

-- what the list says of a listed element
pub listed-said : {H : Type 0} (node : H → ℕ) (n : ℕ) (items : List (FormatEntry H)) (i : ℕ)
    → IsNewest (entry_of node) (stands_for n) items i → listed_as n (entries_of node items) ≡ said_by
    (entry_of node (get_or items i held.Marker))
listed-said node n items i is =
    ap (listed_as n) (split-at (entry_of node) items i held.Marker is.within)
    ∙ listed_as-at n (entries_of node (drop (suc i) items)) (entry_of node (get_or items i held.Marker))
    (entries_of node (take i items)) is.newer (is.here held.Marker)

-- an entry in place of a listed element's
pub listed-replaced : {H : Type 0} (node : H → ℕ) (n : ℕ) (items : List (FormatEntry H)) (i : ℕ) (handle new : H)
    (tag : Tag) → IsNewest (entry_of node) (stands_for n) items i → get_or items i held.Marker ≡ held.Element handle tag
    → with_in_place (node handle) (Element (node new) tag) (entries_of node items) ≡ entries_of
    node (set items i (renamed new (get_or items i held.Marker)))
listed-replaced node n items i handle new tag is e =
    let entry : entry_of node (get_or items i held.Marker) ≡ Element (node handle) tag = ap (entry_of node) e in
    let here : nat_eq (node handle) n ≡ true = ap (stands_for n) (sym entry) ∙ is.here held.Marker in
    let same : node handle ≡ n = eqb-true (node handle) n here in
    let split = split-at (entry_of node) items i held.Marker is.within in
    let newer : List Entry = entries_of node (drop (suc i) items) in
    let older : List Entry = entries_of node (take i items) in
    ap (λ k. with_in_place k (Element (node new) tag) (entries_of node items)) same
    ∙ ap (with_in_place n (Element (node new) tag)) split
    ∙ in_place-at n (Element (node new) tag) newer (entry_of node (get_or items i held.Marker)) older is.newer (is.here held.Marker)
    ∙ sym (renamed-at node items i new newer older (node handle) tag (split ∙ ap (λ x. newer ++ x ∷ older) entry)
    (count-older node items i is.within) is.within)
  where
    count-older : {H : Type 0} (node : H → ℕ) (items : List (FormatEntry H)) (i : ℕ) → i < length items
        → length (entries_of node (take i items)) ≡ i
    count-older node items i less = count-entries node (take i items) ∙ length-take-le i items (omega arith)

-- the element that a tag makes takes a node as its child
pub wrapped-copy : (f g : Forest) (tag : Tag) (e : NewElement) (last : ℕ)
    → IsFor Html tag.name tag.attrs tag.had_duplicate_attributes e → g ≡ wrapped f e last
    → g ≡ put (remove (with_copy f tag) last) (Last (node_count f)) last
wrapped-copy f g tag e last for_tag forest = forest ∙ ap (λ h. put (remove h last) (Last (node_count f)) last) (made-for tag f e for_tag)

-- or its children
pub adopted-copy : (f g : Forest) (tag : Tag) (e : NewElement) (block : ℕ)
    → IsFor Html tag.name tag.attrs tag.had_duplicate_attributes e → g ≡ adopted f e block
    → g ≡ put (reparent_children (with_copy f tag) block (node_count f)) (Last block) (node_count f)
adopted-copy f g tag e block for_tag forest = forest
    ∙ ap (λ h. put (reparent_children h block (node_count f)) (Last block) (node_count f)) (made-for tag f e for_tag)

-- the walk with one copy more
pub copied : {H : Type 0} (node : H → ℕ) (f g : Forest) (items : List (FormatEntry H)) (i n : ℕ) (handle : H)
    (tag : Tag) (copies copies' : Copies H) (new : OpenElement H)
    → IsNewest (entry_of node) (stands_for n) items i → get_or items i held.Marker ≡ held.Element handle tag
    → g ≡ put (remove (with_copy f tag) (node copies.last)) (Last (node_count f)) (node copies.last)
    → open_of node new ≡ opened_for copies.rules f tag → copies'.elements.items ≡ copies.elements.items ++ new ∷ [] → copies'.last ≡ new.handle
    → copies'.rules ≡ copies.rules
    → walk_of node g (set items i (renamed new.handle (get_or items i held.Marker))) copies' ≡ copy_if
    (listed_as n (entries_of node items)) (walk_of node f items copies)
copied node f g items i n handle tag copies copies' new is here forest opened more last ruled =
    let w : Walk = walk_of node f items copies in
    let listed : Listed = record { number = node handle; tag = tag } in
    let named : node new.handle ≡ node_count f = ap (λ (x : Open). x.number) opened in
    let said : copy_if (listed_as n (entries_of node items)) w ≡ copy_node listed w = ap (λ o. copy_if o w)
    (listed-said node n items i is ∙ ap (λ x. said_by (entry_of node x)) here) in
    let step : walk_of node g (set items i (renamed new.handle (get_or items i held.Marker))) copies' ≡ copy_node listed w = λ j. record {
      forest = forest j;
      active_formatting = (sym (listed-replaced node n items i handle new.handle tag is here)
          ∙ ap (λ m. with_in_place (node handle) (Element m tag) (entries_of node items)) named) j;
      copies = (ap (map (open_of node)) more ∙ map-append (open_of node) copies.elements.items (new ∷ [])
          ∙ ap (λ o. map (open_of node) copies.elements.items ++ o ∷ []) opened) j;
      last_node = (ap node last ∙ named) j;
      rules = ruled j;
    } in
    step ∙ sym said

-- the open elements stand while the walk goes on
pub walked-Standing : (f0 : Forest) (block : Open) (w : Walk) (xs : List Open) (entries : List Entry)
    → IsOpened f0 block → Walked f0 block.number w → IsStanding f0 xs entries → IsStanding w.forest xs w.active_formatting
walked-Standing f0 block w xs entries named is h =
    let older : (a k : ℕ) → a < node_count f0 → k < node_count f0 → Above w.forest a k → Above f0 a k = λ a k less less' up.
    elim (is.inside a k less' up) [ inl old ↦ old | inr new ↦ absurd (omega arith) ] in
    let stood = older-Standing f0 w.forest xs entries is.tree is.names.names older (walked-top (above_of w.forest 0) refl) h in
    record { tree = stood.tree; opened = stood.opened; apart = stood.apart; listed = is.listed; top = stood.top }
  where
    only-top : (f : Forest) (a : ℕ) → above_of f 0 ≡ None → Above f a 0 → a ≡ 0
    only-top f a e Above.here = refl
    only-top f a e (Above.further up rest) = absurd cc

    walked-top : (o : Option ℕ) → above_of w.forest 0 ≡ o → above_of w.forest 0 ≡ None
    walked-top None e = e
    walked-top (Some m) e =
        let old : Above f0 m 0 = is.outside m 0 h.tree.forest.document
        (not_above_document f0 block h.tree h.top named) (Above.further e Above.here) in
        let itself : above_of w.forest 0 ≡ Some 0 = e ∙ ap Some (only-top f0 m h.top old) in
        absurd (Above-child w.forest is.tree.forest 0 0 itself Above.here)

-- a new element is opened under its own name
pub opened-as : {H : Type 0} (node : H → ℕ) (handle : H) (name : Named) (rules : Rules) (f : Forest) (tag : Tag) (e : NewElement)
    → node handle ≡ node_count f → name ≡ record { namespace = namespace_of e.namespace; name = e.name; rules = rules }
    → IsFor Html tag.name tag.attrs tag.had_duplicate_attributes e
    → open_of node (record { handle = handle; name = name }) ≡ opened_for rules f tag
opened-as node handle name rules f tag e named is for_tag = λ j. record {
  number = named j;
  namespace = (ap (λ (v : Named). v.namespace) is ∙ for_tag.in_namespace) j;
  name = (ap (λ (v : Named). v.name) is ∙ for_tag.named) j;
  rules = ap (λ (v : Named). v.rules) is j;
}

-- one element of the walk
pub walk-out : {H : Type 0} (node : H → ℕ) (elements : List (OpenElement H)) (i k left : ℕ) (x : OpenElement H)
    (w w' : Walk) → left ≡ 0 → i ≡ suc k → k < length elements → x ≡ get_or elements k x
    → w' ≡ record w { active_formatting = without_entry (node x.handle) w.active_formatting }
    → walk left (opens_of node (take k elements)) w' ≡ walk left (opens_of node (take i elements)) w
walk-out node elements i k left x w w' none e less here step =
    ap (λ n. walk n (opens_of node (take k elements)) w') none
    ∙ ap (walk 0 (opens_of node (take k elements))) step
    ∙ sym (ap (λ xs. walk 0 xs w) (at (open_of node) elements i k x e less here))
    ∙ sym (ap (λ n. walk n (opens_of node (take i elements)) w) none)

pub walk-in : {H : Type 0} (node : H → ℕ) (elements : List (OpenElement H)) (i k left left' : ℕ) (x : OpenElement H)
    (w w' : Walk) → left ≡ suc left' → i ≡ suc k → k < length elements → x ≡ get_or elements k x
    → w' ≡ copy_if (listed_as (node x.handle) w.active_formatting) w → walk left' (opens_of node (take k elements))
    w' ≡ walk left (opens_of node (take i elements)) w
walk-in node elements i k left left' x w w' more e less here step =
    ap (walk left' (opens_of node (take k elements))) step
    ∙ sym (ap (λ xs. walk (suc left') xs w) (at (open_of node) elements i k x e less here))
    ∙ sym (ap (λ n. walk n (opens_of node (take i elements)) w) more)

pub walked-out : (f0 : Forest) (b : ℕ) (x : Open) (w w' : Walk)
    → w' ≡ record w { active_formatting = without_entry x.number w.active_formatting } → Walked f0 b w → Walked f0 b w'
walked-out f0 b x w w' e is = subst (λ v. Walked f0 b v) (sym e) (walk-Walked f0 b 0 (x ∷ []) w is)

pub walked-in : (f0 : Forest) (b : ℕ) (x : Open) (w w' : Walk)
    → w' ≡ copy_if (listed_as x.number w.active_formatting) w → Walked f0 b w → Walked f0 b w'
walked-in f0 b x w w' e is = subst (λ v. Walked f0 b v) (sym e) (walk-Walked f0 b 1 (x ∷ []) w is)

-- its last node may go elsewhere
pub walked-Movable : (f0 : Forest) (b : ℕ) (w : Walk) → Walked f0 b w → IsMovable w.forest w.last_node
walked-Movable f0 b w is = record { tree = is.tree; there = is.there; plain = is.plain }

pub opened-Walked : (rules : Rules) (f : Forest) (block : Open) (entries : List Entry) → IsTree f → AreListed f entries
    → IsOpened f block → Walked f block.number (begun rules f block.number entries)
opened-Walked rules f block entries tree listed named =
    begun-Walked rules f block.number entries tree listed
    (element-IsNode f block.number (element_name_of block.namespace block.name) named.named)
    (element-plain (data_of f block.number) (element_name_of block.namespace block.name) named.named)
