-- What a turn of the adoption agency with a furthest block asks of the tree, and what stands in the midst of it.
use Rattle.std.proofs.Common.{◌≡◌, ◌∙◌, ℕ, suc, ◌+◌, ◌<◌, Bool, false, List, [], ◌∷◌, ◌++◌, length, take, drop, get_or, map}
use Rattle.std.proofs.Common.{reverse, Option, Some, None, refl, sym, ap, subst, arith, add-one, append_assoc, eq-zero-or-pos}
use Rattle.std.proofs.Common.{inl, inr, eq-eqb, length-take-le, true≢false}
use Rattle.std.specs.Prelude.{nat_eq, slice_range, MatchOption}
use Rattle.std.specs.List.{list_any}
use Rattle.std.proofs.lemmas.List.{get_or_default, get_or-take, length-map, length-reverse, map-append, reverse-append}
use Rattle.std.proofs.lemmas.Slice.{between_is}
use Rattle.markup.specs.Forest.{Above, Forest, Last, reparent_children, IsLoose, IsParent, IsPlace, data_of, element_name}
use Rattle.markup.specs.Forest.{holds_children, node_count, parent_at, put, remove}
use Rattle.markup.specs.Named.{IsTree}
use Rattle.markup.proofs.Forests.{IsRemoved-remove}
use Rattle.markup.proofs.PutTexts.{IsParent-element, element-IsNode}
use Rattle.markup.proofs.Trees.{IsTree-remove}
use Rattle.markup.proofs.Walks.{Above-less}
use Rattle.html_tokens.specs.declared.tags.Tag.{Tag}
use Rattle.html_rules.specs.Adoption.{Walk, adopt, begin_walk, between, is_number, opened_after, opened_before, opened_for}
use Rattle.html_rules.specs.Adoption.{relist, walk, with_copy}
use Rattle.html_rules.specs.Formatting.{Listed, put_after, without_entry}
use Rattle.html_rules.specs.Names.{element_name_of}
use Rattle.html_rules.specs.Places.{place_for}
use Rattle.html_rules.specs.State.{Entry, Element, Open, State, current_node}
use Rattle.html_rules.specs.declared.rules.Rules.{Rules}
use Rattle.html_rules_laws.specs.Soundness.{AreOpened, IsApart, IsOpened, IsStanding}
use Rattle.html_rules_laws.proofs.TreePreserved.AdoptionAgency.{has-place}
use Rattle.html_rules_laws.proofs.TreePreserved.AdoptionOrder.{NoneAbove, named-opened}
use Rattle.html_rules_laws.proofs.TreePreserved.AdoptionStanding.{begun, element-plain}
use Rattle.html_rules_laws.proofs.TreePreserved.AdoptionTurn.{Placed, walked-Placed}
use Rattle.html_rules_laws.proofs.TreePreserved.AdoptionWalk.{AreNew, Walked, last-out, walk-Walked}
use Rattle.html_rules_laws.proofs.TreePreserved.Standing.{changed-Standing}
use Rattle.html_stack.specs.Adopting.{IsMovable, IsRelisted, IsTurn, turned, with_all}
use Rattle.html_stack.specs.Stacks.{open_of, opens_of}
use Rattle.html_stack.specs.declared.entries.OpenElement.{OpenElement}
use Rattle.html_stack.proofs.Adopted.{NoneIs, after-place, apart-take, before-place, between-places, found-at, placed-Standing}
use Rattle.html_stack.proofs.Newest.{or-left, or-right, split-at}
use Rattle.html_stack.proofs.StackEdits.{newest-open}
use Rattle.html_stack.proofs.States.{state_by}
use Rattle.html_stack.proofs.Points.{opened-at}
use Rattle.html_stack.proofs.Walked.{opened-Walked, walked-Standing}
use Rattle.html_stack.proofs.Wrapped.{stays-removed}

abbrev pub handle_of : {H : Type 0} → OpenElement H → H
handle_of x = x.handle

pub opens-count : {H : Type 0} (node : H → ℕ) (xs : List (OpenElement H)) → length (opens_of node xs) ≡ length xs
opens-count node xs = length-reverse (map (open_of node) xs) ∙ length-map xs (open_of node)

pub positive : (n : ℕ) → nat_eq n 0 ≡ false → 0 < n
positive n h = elim (eq-zero-or-pos n) [ inl none ↦ absurd (true≢false (sym (eq-eqb n 0 none) ∙ h)) | inr more ↦ more ]

-- a slice that is not empty begins with its first element
pub first-is : {X : Type 0} (xs : List X) (x : X) → 0 < length xs → (y : X) × (ys : List X) × (xs ≡ y ∷ ys) × (get_or xs 0 x ≡ y)
first-is [] x some = absurd (omega arith)
first-is (y ∷ ys) x some = (y, ys, refl, refl)

pub opened-index : {H : Type 0} (f : Forest) (node : H → ℕ) (xs : List (OpenElement H)) (i : ℕ) (d : OpenElement H)
    → AreOpened f (opens_of node xs) → i < length xs → IsOpened f (open_of node (get_or xs i d))
opened-index f node xs i d h less =
    (opened-at f node xs (suc i) i (get_or xs i d) h refl less (get_or_default xs i d (get_or xs i d) less)).0

-- the walk, and the place for what is before the formatting element
pub record IsAdoption {H : Type 0} (node : H → ℕ) (f0 : Forest) (xs : List (OpenElement H)) (entries : List Entry)
    (from to : ℕ) (d : OpenElement H) (foster : Bool) (w : Walk) : Type 0 where
  pub named : IsOpened f0 (open_of node (get_or xs to d))
  pub standing : IsStanding f0 (opens_of node xs) entries
  pub within : to < length xs
  pub walked : Walked f0 (node (get_or xs to d).handle) w
  pub at : IsPlace (remove w.forest w.last_node) (place_for foster (remove w.forest w.last_node) (opens_of node xs)
      (current_node (opens_of node (take from xs))))
  pub there : parent_at (place_for foster (remove w.forest w.last_node) (opens_of node xs)
      (current_node (opens_of node (take from xs)))) < node_count f0
  pub out : Above f0 (node (get_or xs to d).handle)
      (parent_at (place_for foster (remove w.forest w.last_node) (opens_of node xs) (current_node (opens_of node (take from xs))))) → ⊥
  pub none : NoneAbove f0 (opens_of node (drop (suc to) xs))
      (parent_at (place_for foster (remove w.forest w.last_node) (opens_of node xs) (current_node (opens_of node (take from xs)))))

pub adoption : {H : Type 0} (node : H → ℕ) (f0 : Forest) (xs : List (OpenElement H)) (entries : List Entry)
    (from to : ℕ) (d : OpenElement H) (foster : Bool) (rules : Rules) (tag : Tag) (w : Walk)
    → IsStanding f0 (opens_of node xs) entries → from < to → to < length xs → IsTurn node xs entries from to tag d
    → w ≡ walk 3 (opens_of node (slice_range xs (from + 1) to)) (begun rules f0 (node (get_or xs to d).handle) entries)
    → IsAdoption node f0 xs entries from to d foster w
adoption {H} node f0 xs entries from to d foster rules tag w is order within turn e =
    let ys : List Open = opens_of node (slice_range xs (from + 1) to) in
    let n : ℕ = node (get_or xs from d).handle in
    let block : Open = open_of node (get_or xs to d) in
    let s : State = with_all (state_by rules foster) f0 (opens_of node xs) entries in
    let found = found-at f0 node xs from d is.apart (omega arith) in
    let found_b = found-at f0 node xs to d is.apart within in
    let named = opened-index f0 node xs to d is.opened within in
    let before = before-place node n xs from d found in
    let after = after-place node block.number xs to d found_b in
    let h = has-place (record { number = n; tag = tag }) block s 3 ys is (newest-open node n xs from found) turn.scope turn.block in
    subst (λ v. IsAdoption node f0 xs entries from to d foster v) (sym e)
    (record {
      named = named;
      standing = is;
      within = within;
      walked = walk-Walked f0 block.number 3 ys (begun rules f0 block.number entries) (opened-Walked rules f0 block entries is.tree is.listed named);
      at = subst (λ zs. IsPlace (remove (walk 3 ys (begun rules f0 block.number entries)).forest
          (walk 3 ys (begun rules f0 block.number entries)).last_node)
          (place_for foster (remove (walk 3 ys (begun rules f0 block.number entries)).forest
          (walk 3 ys (begun rules f0 block.number entries)).last_node) (opens_of node xs) (current_node zs))) before h.at;
      there = subst (λ zs. parent_at
          (place_for foster (remove (walk 3 ys (begun rules f0 block.number entries)).forest
          (walk 3 ys (begun rules f0 block.number entries)).last_node) (opens_of node xs) (current_node zs)) <
          node_count f0) before h.outer.there;
      out = subst (λ zs. Above f0 block.number
          (parent_at (place_for foster (remove (walk 3 ys (begun rules f0 block.number entries)).forest
          (walk 3 ys (begun rules f0 block.number entries)).last_node) (opens_of node xs) (current_node zs))) → ⊥) before h.outer.under;
      none = subst (λ us. NoneAbove f0 us
          (parent_at (place_for foster (remove (walk 3 ys (begun rules f0 block.number entries)).forest
          (walk 3 ys (begun rules f0 block.number entries)).last_node) (opens_of node xs)
          (current_node (opens_of node (take from xs)))))) after
          (subst (λ zs. NoneAbove f0 (opened_after block.number (opens_of node xs))
          (parent_at (place_for foster (remove (walk 3 ys (begun rules f0 block.number entries)).forest
          (walk 3 ys (begun rules f0 block.number entries)).last_node) (opens_of node xs) (current_node zs)))) before h.outer.none);
    })

module _ {H : Type 0} (node : H → ℕ) (f0 : Forest) (xs : List (OpenElement H)) (entries : List Entry) (from to : ℕ)
    (d : OpenElement H) (foster : Bool) (w : Walk) (is : IsAdoption node f0 xs entries from to d foster w) where
  -- the open elements are elements still
  pub still-opened : AreOpened w.forest (opens_of node xs)
  still-opened = named-opened f0 w.forest (opens_of node xs) is.walked.names is.standing.opened

  pub removed-opened : AreOpened (remove w.forest w.last_node) (opens_of node xs)
  removed-opened =
      let rr = IsRemoved-remove w.forest w.last_node is.walked.tree.forest in
      named-opened w.forest (remove w.forest w.last_node) (opens_of node xs)
      (record {
        names = λ k name e. ap element_name (rr.same_data k) ∙ e;
        holds = λ k at. record {
          there = let less = at.there in let count = rr.count in omega arith;
          holds = ap holds_children (rr.same_data k) ∙ at.holds;
        };
      }) still-opened

  pub removed-tree : IsTree (remove w.forest w.last_node)
  removed-tree = IsTree-remove w.forest w.last_node is.walked.tree

  -- the last node may be put there
  pub last-loose : IsLoose (remove w.forest w.last_node)
      (parent_at (place_for foster (remove w.forest w.last_node) (opens_of node xs)
      (current_node (opens_of node (take from xs))))) w.last_node
  last-loose =
      let rr = IsRemoved-remove w.forest w.last_node is.walked.tree.forest in
      let q : ℕ = parent_at (place_for foster (remove w.forest w.last_node) (opens_of node xs)
      (current_node (opens_of node (take from xs)))) in
      record {
        there = let there = is.walked.there in let count = rr.count in omega arith;
        no_parent = rr.free is.walked.plain;
        not_above = λ up. last-out f0 (node (get_or xs to d).handle) w is.walked q is.there is.out
            (Above-less w.forest (remove w.forest w.last_node) rr.less w.last_node q up);
      }

  pub walk-stands : IsStanding w.forest (opens_of node xs) w.active_formatting
  walk-stands = walked-Standing f0 (open_of node (get_or xs to d)) w (opens_of node xs) entries is.named is.walked is.standing

  pub removed-stands : IsStanding (remove w.forest w.last_node) (opens_of node xs) w.active_formatting
  removed-stands = changed-Standing w.forest (remove w.forest w.last_node) (opens_of node xs) w.active_formatting
      (stays-removed w.forest w.forest w.last_node
      (record {
        tree = is.walked.tree;
        names = record { names = λ k name e. e; holds = λ k at. at };
        above = λ a k less up. up;
      })) walk-stands

  -- after the put
  pub is-placed : Placed f0
      (put (remove w.forest w.last_node) (place_for foster (remove w.forest w.last_node) (opens_of node xs)
      (current_node (opens_of node (take from xs)))) w.last_node) (node (get_or xs to d).handle)
      (parent_at (place_for foster (remove w.forest w.last_node) (opens_of node xs)
      (current_node (opens_of node (take from xs))))) w.copies w.active_formatting
  is-placed = walked-Placed f0 (node (get_or xs to d).handle) w
      (place_for foster (remove w.forest w.last_node) (opens_of node xs)
      (current_node (opens_of node (take from xs)))) is.walked is.at is.there is.out

  pub placed-stands : IsStanding
      (put (remove w.forest w.last_node) (place_for foster (remove w.forest w.last_node) (opens_of node xs)
      (current_node (opens_of node (take from xs)))) w.last_node) (opens_of node xs) w.active_formatting
  placed-stands =
      let g : Forest = put (remove w.forest w.last_node)
      (place_for foster (remove w.forest w.last_node) (opens_of node xs) (current_node (opens_of node (take from xs)))) w.last_node in
      let split = split-at (open_of node) xs to d is.within in
      let q : ℕ = parent_at (place_for foster (remove w.forest w.last_node) (opens_of node xs)
      (current_node (opens_of node (take from xs)))) in
      subst (λ zs. IsStanding g zs w.active_formatting) (sym split)
      (placed-Standing f0 g (open_of node (get_or xs to d)) q w.copies entries w.active_formatting
      (opens_of node (drop (suc to) xs)) (opens_of node (take to xs)) is-placed is.out is.none is.named
      (subst (λ zs. IsStanding f0 zs entries) split is.standing))

  pub block-movable : IsMovable
      (put (remove w.forest w.last_node) (place_for foster (remove w.forest w.last_node) (opens_of node xs)
      (current_node (opens_of node (take from xs)))) w.last_node) (node (get_or xs to d).handle)
  block-movable =
      let placed = is-placed in
      let g : Forest = put (remove w.forest w.last_node)
      (place_for foster (remove w.forest w.last_node) (opens_of node xs) (current_node (opens_of node (take from xs)))) w.last_node in
      let block : Open = open_of node (get_or xs to d) in
      let named = placed.names.names block.number (element_name_of block.namespace block.name) is.named.named in
      record {
        tree = placed.tree;
        there = element-IsNode g block.number (element_name_of block.namespace block.name) named;
        plain = element-plain (data_of g block.number) (element_name_of block.namespace block.name) named;
      }

  pub block-parent : IsParent
      (put (remove w.forest w.last_node) (place_for foster (remove w.forest w.last_node) (opens_of node xs)
      (current_node (opens_of node (take from xs)))) w.last_node) (node (get_or xs to d).handle)
  block-parent =
      let placed = is-placed in
      let g : Forest = put (remove w.forest w.last_node)
      (place_for foster (remove w.forest w.last_node) (opens_of node xs) (current_node (opens_of node (take from xs)))) w.last_node in
      let block : Open = open_of node (get_or xs to d) in
      IsParent-element g block.number (element_name_of block.namespace block.name)
      (placed.names.names block.number (element_name_of block.namespace block.name) is.named.named)

-- what the turn leaves

pub none-of : (n : ℕ) (xs : List Open) → list_any (is_number n) xs ≡ false → NoneIs n xs
none-of n [] h = tt
none-of n (x ∷ xs) h = (
  (λ same. true≢false (sym (eq-eqb x.number n same) ∙ or-left (nat_eq x.number n)
      (list_any (is_number n) xs) h)),
  none-of n xs (or-right (nat_eq x.number n) (list_any (is_number n) xs) h),
)

pub none-between : {H : Type 0} (f : Forest) (node : H → ℕ) (xs : List (OpenElement H)) (from to : ℕ)
    (d : OpenElement H) → IsApart f (opens_of node xs) → from < to → to < length xs
    → NoneIs (node (get_or xs from d).handle) (opens_of node (slice_range xs (from + 1) to))
none-between f node xs from to d apart less within =
    let ys : List _ = take to xs in
    let size : length ys ≡ to = length-take-le to xs (omega arith) in
    let same : get_or ys from d ≡ get_or xs from d = get_or-take to xs from d less in
    let found = found-at f node ys from d (apart-take f node xs to apart) (omega arith) in
    let none = none-of (node (get_or ys from d).handle) (opens_of node (drop (suc from) ys)) found.newer in
    let moved : opens_of node (drop (suc from) ys) ≡ opens_of node (slice_range xs (from + 1) to) =
    ap (λ k. opens_of node (drop k ys)) (sym (add-one from)) ∙ ap (λ zs. opens_of node zs) (sym (between_is xs (from + 1) to)) in
    subst (λ k. NoneIs k (opens_of node (slice_range xs (from + 1) to))) (ap (λ x. node (handle_of x)) same)
    (subst (λ zs. NoneIs (node (get_or ys from d).handle) zs) moved none)

map-back : {X Y : Type 0} (f : X → Y) (xs : List X) → reverse (map f (reverse xs)) ≡ map f xs
map-back f [] = refl
map-back f (x ∷ xs) =
    ap (λ ys. reverse (map f ys)) (reverse-append (x ∷ []) xs)
    ∙ ap reverse (map-append f (reverse xs) (x ∷ []))
    ∙ reverse-append (map f (reverse xs)) (f x ∷ [])
    ∙ ap (λ ys. f x ∷ ys) (map-back f xs)

opens-append : {H : Type 0} (node : H → ℕ) (xs ys : List (OpenElement H)) → opens_of node (xs ++ ys) ≡ opens_of node ys ++ opens_of node xs
opens-append node xs ys = ap reverse (map-append (open_of node) xs ys) ∙ reverse-append (map (open_of node) xs) (map (open_of node) ys)

-- the stack, as it is rebuilt
pub rebuilt : {H : Type 0} (node : H → ℕ) (before copies after : List (OpenElement H)) (b l : OpenElement H)
    → opens_of node (before ++ (reverse copies ++ b ∷ l ∷ after)) ≡ opens_of node after
    ++ (open_of node l ∷ open_of node b ∷ map (open_of node) copies) ++ opens_of node before
rebuilt node before copies after b l =
    opens-append node before (reverse copies ++ b ∷ l ∷ after)
    ∙ ap (λ zs. zs ++ opens_of node before)
    (opens-append node (reverse copies) (b ∷ l ∷ after)
    ∙ ap (λ zs. zs ++ opens_of node (reverse copies)) (opens-append node (b ∷ l ∷ []) after)
    ∙ append_assoc (opens_of node after) (open_of node l ∷ open_of node b ∷ []) (opens_of node (reverse copies))
    ∙ ap (λ zs. opens_of node after ++ (open_of node l ∷ open_of node b ∷ zs)) (map-back (open_of node) copies))

-- the list, as it is left
pub relisted-is : {H : Type 0} (node : H → ℕ) (n new : ℕ) (tag : Tag) (first : Option H)
    (copies : List (OpenElement H)) (old now : List Entry)
    → MatchOption first (copies ≡ []) (λ h. (x : OpenElement H) × (xs : List (OpenElement H)) × (copies ≡ x ∷ xs)
    × (h ≡ x.handle)) → NoneIs n (map (open_of node) copies) → IsRelisted node n new tag first old now
    → now ≡ relist n (Element new tag) (map (open_of node) copies) old
relisted-is node n new tag None copies old now none ne is = is
    ∙ sym (ap (λ cs. relist n (Element new tag) (map (open_of node) cs) old) none)
relisted-is node n new tag (Some h) copies old now some ne is =
    let x = some.0 in
    let e : copies ≡ x ∷ some.1 = some.2 in
    let ne' : NoneIs n (map (open_of node) (x ∷ some.1)) = subst (λ cs. NoneIs n (map (open_of node) cs)) e ne in
    is (λ same. ne'.0 (sym (ap node some.3) ∙ same))
    ∙ ap (λ k. without_entry n (put_after k (Element new tag) old)) (ap node some.3)
    ∙ sym (ap (λ cs. relist n (Element new tag) (map (open_of node) cs) old) e)

-- copies are new nodes
pub copies-new : (f0 f : Forest) (n : ℕ) (xs : List Open) → n < node_count f0 → AreNew f0 f xs → NoneIs n xs
copies-new f0 f n [] less h = tt
copies-new f0 f n (x ∷ xs) less h = ((λ same. let late = h.0.0 in absurd (omega arith)), copies-new f0 f n xs less h.1)

-- the turn of the rules
pub turned-is : {H : Type 0} (node : H → ℕ) (f0 : Forest) (xs : List (OpenElement H)) (entries : List Entry)
    (from to : ℕ) (d : OpenElement H) (foster : Bool) (rules : Rules) (tag : Tag) (w : Walk) (s : State) (g1 g3 : Forest)
    (opens : List Open) (others : List Entry)
    → IsStanding f0 (opens_of node xs) entries → from < to → to < length xs → s.foster_parenting ≡ foster → s.opts.rules ≡ rules
    → w ≡ walk 3 (opens_of node (slice_range xs (from + 1) to)) (begun rules f0 (node (get_or xs to d).handle) entries)
    → g1 ≡ put (remove w.forest w.last_node) (place_for foster (remove w.forest w.last_node) (opens_of node xs)
    (current_node (opens_of node (take from xs)))) w.last_node
    → g3 ≡ put (reparent_children (with_copy g1 tag) (node (get_or xs to d).handle) (node_count g1))
    (Last (node (get_or xs to d).handle)) (node_count g1)
    → others ≡ relist (node (get_or xs from d).handle) (Element (node_count g1) tag) w.copies w.active_formatting
    → opens ≡ opens_of node (drop (suc to) xs) ++ (opened_for rules g1 tag ∷ open_of node (get_or xs to d) ∷ w.copies)
    ++ opens_of node (take from xs)
    → with_all s g3 opens others ≡ turned (with_all s f0 (opens_of node xs) entries)
    (record { number = node (get_or xs from d).handle; tag = tag }) (open_of node (get_or xs to d))
turned-is {H} node f0 xs entries from to d foster rules tag w s g1 g3 opens others is order within on by e put_is forest_is others_is opens_is =
    let n : ℕ = node (get_or xs from d).handle in
    let block : Open = open_of node (get_or xs to d) in
    let t : State = with_all s f0 (opens_of node xs) entries in
    let fe : Listed = record { number = n; tag = tag } in
    let before = before-place node n xs from d (found-at f0 node xs from d is.apart (omega arith)) in
    let after = after-place node block.number xs to d (found-at f0 node xs to d is.apart within) in
    let r : Forest = remove w.forest w.last_node in
    let walked : w ≡ walk 3 (between fe block t) (begin_walk block t) = e
    ∙ ap (λ ys. walk 3 ys (begun rules f0 block.number entries)) (sym (between-places f0 node xs from to d is.apart order within))
    ∙ ap (λ r. walk 3 (between fe block t) (begun r f0 block.number entries)) (sym by) in
    let placed : g1 ≡ put r (place_for s.foster_parenting r (opens_of node xs)
    (current_node (opened_before n (opens_of node xs)))) w.last_node =
    put_is
    ∙ ap (λ b. put r (place_for b r (opens_of node xs) (current_node (opens_of node (take from xs)))) w.last_node) (sym on)
    ∙ ap (λ zs. put r (place_for s.foster_parenting r (opens_of node xs) (current_node zs)) w.last_node) (sym before) in
    let a : g3 ≡ (adopt fe block w t).forest = forest_is
    ∙ ap (λ h. put (reparent_children (with_copy h tag) block.number (node_count h)) (Last block.number) (node_count h)) placed in
    let b : opens ≡ (adopt fe block w t).open_elems =
    opens_is
    ∙ ap (λ h. opens_of node (drop (suc to) xs) ++ (opened_for rules h tag ∷ block ∷ w.copies) ++ opens_of node (take from xs)) placed
    ∙ ap (λ zs. zs ++ (opened_for rules
    (put r (place_for s.foster_parenting r (opens_of node xs)
    (current_node (opened_before n (opens_of node xs)))) w.last_node) tag ∷ block ∷ w.copies)
    ++ opens_of node (take from xs)) (sym after)
    ∙ ap (λ zs. opened_after block.number (opens_of node xs)
    ++ (opened_for rules (put r (place_for s.foster_parenting r (opens_of node xs)
    (current_node (opened_before n (opens_of node xs)))) w.last_node) tag ∷ block ∷ w.copies) ++ zs) (sym before)
    ∙ ap (λ rules. opened_after block.number (opens_of node xs)
    ++ (opened_for rules (put r (place_for s.foster_parenting r (opens_of node xs)
    (current_node (opened_before n (opens_of node xs)))) w.last_node) tag ∷ block ∷ w.copies) ++ opened_before n (opens_of node xs)) (sym by) in
    let c : others ≡ (adopt fe block w t).active_formatting = others_is
    ∙ ap (λ h. relist n (Element (node_count h) tag) w.copies w.active_formatting) placed in
    let all : with_all s g3 opens others ≡ adopt fe block w t = λ j. with_all s (a j) (b j) (c j) in
    all ∙ ap (λ v. adopt fe block v t) walked
