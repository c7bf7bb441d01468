-- The adoption agency keeps the open elements standing.
use Rattle.std.proofs.Common.{◌≡◌, ◌∙◌, ℕ, zero, suc, ◌<◌, Bool, true, false, List, [], ◌∷◌, ◌++◌, Option, Some, None, refl}
use Rattle.std.proofs.Common.{sym, ap, subst, codes, arith}
use Rattle.std.specs.Prelude.{◌&&◌, not}
use Rattle.std.proofs.lemmas.List.{append_assoc}
use Rattle.markup.specs.Forest.{Above, Forest, IsPlace, Last, Place, data_of, element_name, holds_children, node_count}
use Rattle.markup.specs.Forest.{parent_at, put, remove, reparent_children}
use Rattle.markup.specs.Named.{IsTree}
use Rattle.markup.proofs.Forests.{IsRemoved-remove}
use Rattle.markup.proofs.PutTexts.{IsParent-document, KeepsNames, element-IsNode}
use Rattle.markup.proofs.Trees.{IsTree-remove}
use Rattle.markup.proofs.Walks.{Above-less}
use Rattle.html_rules.specs.Adoption.{Walk, adopt, adopt_from, adopt_listed, adopt_open, adoption_agency, adoption_turn}
use Rattle.html_rules.specs.Adoption.{adoption_turns, begin_walk, between, close_misnested, cut_at, furthest_block}
use Rattle.html_rules.specs.Adoption.{handle_misnested_a_tags, is_number, opened_after, opened_before, opened_for, relist}
use Rattle.html_rules.specs.Adoption.{unlist, walk, with_copy}
use Rattle.html_rules.specs.Choice.{choose}
use Rattle.html_rules.specs.Formatting.{Listed, is_listed, last_named}
use Rattle.html_rules.specs.Names.{element_name_of}
use Rattle.html_rules.specs.Places.{place_for}
use Rattle.html_rules.specs.Stack.{in_scope, is_open, parse_error}
use Rattle.html_rules.specs.State.{Open, Entry, Element, State, current_is, current_node, current_number, is_named}
use Rattle.html_rules.specs.declared.tag_set.TagSet.TheVariants as set
use Rattle.html_rules_laws.specs.Adoptions.{AreAdoptionsStanding}
use Rattle.html_rules_laws.specs.Soundness.{AreOpened, IsStanding, Standing}
use Rattle.html_rules_laws.proofs.TreePreserved.AdoptionPlace.{IsOuter, cut, place-Outer}
use Rattle.html_rules_laws.proofs.TreePreserved.AdoptionOrder.{named-opened, opened-right}
use Rattle.html_rules_laws.proofs.TreePreserved.AdoptionStanding.{IsMoved, begun, begun-Walked, element-plain, outside-moved}
use Rattle.html_rules_laws.proofs.TreePreserved.AdoptionStanding.{outside-standing}
use Rattle.html_rules_laws.proofs.TreePreserved.AdoptionWalk.{walk-Walked, without-listed}
use Rattle.html_rules_laws.proofs.TreePreserved.Standing.{IsPart, fewer-Standing, gone, kept, part-below, part-opened, part-same}
use Rattle.html_rules_laws.proofs.TreePreserved.StandingSteps.{Keeps, choose-Standing, generic-Standing, parse_error-Standing}
use Rattle.html_rules_laws.proofs.TreePreserved.StandingSteps.{pop-Standing, remove_from_stack-Standing}
use Rattle.html_rules_laws.proofs.TreePreserved.StandingTrees.{target-Place}

-- the place for the first of some open elements is one
before-Place : (foster : Bool) (f : Forest) (xs ys : List Open) → IsTree f → AreOpened f xs → AreOpened f ys
    → IsPlace f (place_for foster f xs (current_node ys))
before-Place foster f xs [] tree h k = IsParent-document f tree.forest
before-Place foster f xs (y ∷ ys) tree h k = target-Place foster f xs y tree h k.0

part-without : (xs : List Open) (b x : Open) (ys : List Open) → IsPart (xs ++ b ∷ ys) (xs ++ b ∷ x ∷ ys)
part-without [] b x ys = kept b (x ∷ ys) ys (gone x ys ys (part-same ys))
part-without (y ∷ xs) b x ys = kept y (xs ++ b ∷ x ∷ ys) (xs ++ b ∷ ys) (part-without xs b x ys)

regroup : (f : Forest) (xs ys zs : List Open) (entries : List Entry) → IsStanding f (xs ++ (ys ++ zs)) entries
    → IsStanding f (xs ++ ys ++ zs) entries
regroup f xs ys zs entries h = subst (λ all. IsStanding f all entries) (sym (append_assoc xs ys zs)) h

-- what is after a walk, by its parts
adopted : (fe : Listed) (block : Open) (w : Walk) (s : State)
    → (let r = remove w.forest w.last_node in
    let f = put r (place_for s.foster_parenting r s.open_elems (current_node (opened_before fe.number s.open_elems))) w.last_node in
    IsStanding (put (reparent_children (with_copy f fe.tag) block.number (node_count f)) (Last block.number) (node_count f))
    (opened_after block.number s.open_elems ++ (opened_for s.opts.rules f fe.tag ∷ block ∷ (w.copies ++ opened_before fe.number s.open_elems)))
    (relist fe.number (Element (node_count f) fe.tag) w.copies w.active_formatting))
    → Standing (adopt fe block w s)
adopted fe block w s h =
    let r : Forest = remove w.forest w.last_node in
    let f : Forest = put r (place_for s.foster_parenting r s.open_elems
    (current_node (opened_before fe.number s.open_elems))) w.last_node in
    regroup (put (reparent_children (with_copy f fe.tag) block.number (node_count f)) (Last block.number) (node_count f))
    (opened_after block.number s.open_elems) (opened_for s.opts.rules f fe.tag ∷ block ∷ w.copies) (opened_before fe.number s.open_elems)
    (relist fe.number (Element (node_count f) fe.tag) w.copies w.active_formatting) h

-- where the last node of a walk is put, with a furthest block
pub record HasPlace (fe : Listed) (block : Open) (s : State) (left : ℕ) (ys : List Open) : Type 0 where
  pub start : IsStanding s.forest (opened_after block.number s.open_elems ++ block ∷
      opened_before fe.number s.open_elems) s.active_formatting
  pub at : let w = walk left ys (begin_walk block s) in IsPlace (remove w.forest w.last_node)
      (place_for s.foster_parenting (remove w.forest w.last_node) s.open_elems (current_node (opened_before fe.number s.open_elems)))
  pub outer : let w = walk left ys (begin_walk block s) in
      IsOuter s.forest block (opened_after block.number s.open_elems)
      (parent_at (place_for s.foster_parenting (remove w.forest w.last_node) s.open_elems
      (current_node (opened_before fe.number s.open_elems))))

pub has-place : (fe : Listed) (block : Open) (s : State) (left : ℕ) (ys : List Open) → Standing s
    → is_open fe.number s.open_elems ≡ true → in_scope set.DefaultScope (is_number fe.number) s.open_elems ≡ true
    → furthest_block (opened_after fe.number s.open_elems) ≡ Some block → HasPlace fe block s left ys
has-place fe block s left ys is there scope e =
    let f0 : Forest = s.forest in
    let xs : List Open = s.open_elems in
    let later : List Open = opened_after block.number xs in
    let earlier : List Open = opened_before fe.number xs in
    let found = cut f0 fe.number block xs is.apart there e in
    let all = fewer-Standing f0 s.active_formatting xs (later ++ block ∷ found.0 ∷ earlier) found.1.part is in
    let start = fewer-Standing f0 s.active_formatting (later ++ block ∷ found.0 ∷ earlier)
    (later ++ block ∷ earlier) (part-without later block found.0 earlier) all in
    let opened = (opened-right f0 later (block ∷ earlier) start.opened).0 in
    let named = opened.named in
    let walked = walk-Walked f0 block.number left ys (begun s.opts.rules f0 block.number s.active_formatting)
    (begun-Walked s.opts.rules f0 block.number s.active_formatting is.tree is.listed
    (element-IsNode f0 block.number (element_name_of block.namespace block.name) named)
    (element-plain (data_of f0 block.number) (element_name_of block.namespace block.name) named)) in
    let w : Walk = walk left ys (begun s.opts.rules f0 block.number s.active_formatting) in
    let r : Forest = remove w.forest w.last_node in
    let removed = IsRemoved-remove w.forest w.last_node walked.tree.forest in
    let tree : IsTree r = IsTree-remove w.forest w.last_node walked.tree in
    let names : KeepsNames f0 r = record {
      names = λ k name e. ap element_name (removed.same_data k) ∙ walked.names.names k name e;
      holds = λ k at. let h = walked.names.holds k at in record {
        there = subst-count (removed.count) h.there;
        holds = ap holds_children (removed.same_data k) ∙ h.holds;
      };
    } in
    let now : AreOpened r xs = named-opened f0 r xs names is.opened in
    let outside : (a n : ℕ) → n < node_count f0 → (Above f0 block.number n → ⊥) → Above r a n → Above f0 a n =
    λ a n less out up. walked.outside a n less out (Above-less w.forest r removed.less a n up) in
    record {
      start = start;
      at = before-Place s.foster_parenting r xs earlier tree now (part-opened r xs earlier (part-below (is_number fe.number) xs) now);
      outer = place-Outer f0 r s.foster_parenting fe.number block found.0 xs is.tree is.top is.opened is.apart now found.1 scope outside;
    }
  where
    subst-count : {k m n : ℕ} → m ≡ n → k < n → k < m
    subst-count {k} {m} {n} e h = omega arith

adopt-Standing : (fe : Listed) (block : Open) (s : State) (left : ℕ) (ys : List Open) → Standing s
    → is_open fe.number s.open_elems ≡ true → in_scope set.DefaultScope (is_number fe.number) s.open_elems ≡ true
    → furthest_block (opened_after fe.number s.open_elems) ≡ Some block → Standing (adopt fe block (walk left ys (begin_walk block s)) s)
adopt-Standing fe block s left ys is there scope e =
    let h = has-place fe block s left ys is there scope e in
    let w : Walk = walk left ys (begun s.opts.rules s.forest block.number s.active_formatting) in
    let place : Place = place_for s.foster_parenting (remove w.forest w.last_node) s.open_elems
    (current_node (opened_before fe.number s.open_elems)) in
    adopted fe block w s (outside-standing s.opts.rules s.forest block (opened_after block.number s.open_elems)
    (opened_before fe.number s.open_elems) s.active_formatting left ys fe.number fe.tag place h.start h.at
    h.outer.there h.outer.under h.outer.none)

-- the block alone is moved
pub adopt-moved : (fe : Listed) (block : Open) (s : State) (left : ℕ) (ys : List Open) → Standing s
    → is_open fe.number s.open_elems ≡ true → in_scope set.DefaultScope (is_number fe.number) s.open_elems ≡ true
    → furthest_block (opened_after fe.number s.open_elems) ≡ Some block
    → IsMoved s.forest (adopt fe block (walk left ys (begin_walk block s)) s).forest block.number
adopt-moved fe block s left ys is there scope e =
    let h = has-place fe block s left ys is there scope e in
    let w : Walk = walk left ys (begun s.opts.rules s.forest block.number s.active_formatting) in
    let place : Place = place_for s.foster_parenting (remove w.forest w.last_node) s.open_elems
    (current_node (opened_before fe.number s.open_elems)) in
    let opened = (opened-right s.forest (opened_after block.number s.open_elems)
    (block ∷ opened_before fe.number s.open_elems) h.start.opened).0 in
    outside-moved s.opts.rules s.forest block s.active_formatting left ys fe.tag place is.tree is.listed opened h.at h.outer.there h.outer.under

cut_at-Standing : (fe : Listed) → Keeps (cut_at fe)
cut_at-Standing fe s is =
    let less = fewer-Standing s.forest s.active_formatting s.open_elems _ (part-below (is_number fe.number) s.open_elems) is in
    record {
      tree = less.tree;
      opened = less.opened;
      apart = less.apart;
      listed = without-listed s.forest fe.number s.active_formatting is.listed;
      top = less.top;
    }

pub unlist-Standing : (fe : Listed) → Keeps (unlist fe)
unlist-Standing fe s is = record {
  tree = is.tree;
  opened = is.opened;
  apart = is.apart;
  listed = without-listed s.forest fe.number s.active_formatting is.listed;
  top = is.top;
}

from-Standing : (fe : Listed) (s : State) (o : Option Open) → Standing s → is_open fe.number s.open_elems ≡ true
    → in_scope set.DefaultScope (is_number fe.number) s.open_elems ≡ true
    → furthest_block (opened_after fe.number s.open_elems) ≡ o → Standing (adopt_from fe o s).state
from-Standing fe s None is there scope e = cut_at-Standing fe s is
from-Standing fe s (Some block) is there scope e = adopt-Standing fe block s 3 (between fe block s) is there scope e

open-Standing : (fe : Listed) (s : State) → Standing s → is_open fe.number s.open_elems ≡ true
    → in_scope set.DefaultScope (is_number fe.number) s.open_elems ≡ true → Standing (adopt_open fe s).state
unfolding parse_error
open-Standing fe s is there scope = by (current_is (is_number fe.number) s.open_elems) where
  o : Option Open
  o = furthest_block (opened_after fe.number s.open_elems)

  by : (b : Bool) → Standing (adopt_from fe (furthest_block (opened_after fe.number s.open_elems))
      (choose b (λ _. s) (λ _. parse_error s))).state
  by true = from-Standing fe s o is there scope refl
  by false = from-Standing fe (parse_error s) o (parse_error-Standing s is) there scope refl

listed-Standing : (o : Option Listed) (name : List ℕ) (s : State) → Standing s → Standing (adopt_listed o name s).state
listed-Standing None name s is = generic-Standing name s is
listed-Standing (Some fe) name s is = by (is_open fe.number s.open_elems)
    (in_scope set.DefaultScope (is_number fe.number) s.open_elems) refl refl where
      by : (a b : Bool) → is_open fe.number s.open_elems ≡ a → in_scope set.DefaultScope (is_number fe.number) s.open_elems ≡ b
          → Standing (choose (not a) (λ _. record { state = unlist fe (parse_error s); goes_on = false })
          (λ _. choose (not b) (λ _. record { state = parse_error s; goes_on = false }) (λ _. adopt_open fe s))).state
      by false b e k = unlist-Standing fe (parse_error s) (parse_error-Standing s is)
      by true false e k = parse_error-Standing s is
      by true true e k = open-Standing fe s is e k

-- one turn
pub turn-Standing : (name : List ℕ) (s : State) → Standing s → Standing (adoption_turn name s).state
unfolding adoption_turn
turn-Standing name s is = listed-Standing (last_named name s.active_formatting) name s is

turns-Standing : (n : ℕ) (name : List ℕ) → Keeps (adoption_turns n name)
unfolding adoption_turns
turns-Standing zero name s is = is
turns-Standing (suc n) name s is =
    let turned = turn-Standing name s is in
    choose-Standing (adoption_turn name s).goes_on _ _ (turns-Standing n name (adoption_turn name s).state turned) turned

pub agency-Standing : (name : List ℕ) → Keeps (adoption_agency name)
unfolding adoption_agency
agency-Standing name s is =
    choose-Standing (current_is (is_named name) s.open_elems
    && not (is_listed (current_number s.open_elems) s.active_formatting)) _ _ (pop-Standing s is) (turns-Standing 8 name s is)

misnested-Standing : (o : Option Listed) → Keeps (close_misnested o)
misnested-Standing None s is = is
misnested-Standing (Some a) s is =
    let closed : State = adoption_agency (codes "a") (parse_error s) in
    remove_from_stack-Standing a.number (unlist a closed)
    (unlist-Standing a closed (agency-Standing (codes "a") (parse_error s) (parse_error-Standing s is)))

pub misnested_a-Standing : Keeps handle_misnested_a_tags
unfolding handle_misnested_a_tags
misnested_a-Standing s is = misnested-Standing (last_named (codes "a") s.active_formatting) s is

pub adoptions-Standing : AreAdoptionsStanding
adoptions-Standing = record { turn = turn-Standing; agency = agency-Standing; misnested_a = misnested_a-Standing }
