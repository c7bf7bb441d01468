-- The adoption agency leaves an open `html` the root.
use Rattle.std.proofs.Common.{◌≡◌, ◌∙◌, ℕ, zero, suc, ◌<◌, Bool, true, false, List, [], ◌∷◌, ◌++◌, Option, Some, None, refl}
use Rattle.std.proofs.Common.{sym, subst, true≢false, codes}
use Rattle.std.specs.Prelude.{◌&&◌, not, IfSome}
use Rattle.std.proofs.lemmas.List.{append_assoc}
use Rattle.markup.specs.Forest.{Above, Forest, node_count, put, remove}
use Rattle.markup.proofs.PutTexts.{element-IsNode}
use Rattle.html_rules.specs.Adoption.{Walk, adopt, adopt_from, adopt_listed, adopt_open, adoption_agency, adoption_turn}
use Rattle.html_rules.specs.Adoption.{adoption_turns, begin_walk, between, close_misnested, cut_at, furthest_block}
use Rattle.html_rules.specs.Adoption.{handle_misnested_a_tags, is_number, opened_after, opened_before, unlist, walk}
use Rattle.html_rules.specs.Choice.{choose}
use Rattle.html_rules.specs.Formatting.{Listed, is_listed, last_named}
use Rattle.html_rules.specs.Names.{Html, element_name_of}
use Rattle.html_rules.specs.Places.{place_for}
use Rattle.html_rules.specs.Sets.{is_among, names_of}
use Rattle.html_rules.specs.Stack.{in_scope, is_open, parse_error, remove_from_stack}
use Rattle.html_rules.specs.State.{Open, State, current_is, current_node, current_number, is_in, is_named}
use Rattle.html_rules.specs.declared.tag_set.TagSet.TheVariants as set
use Rattle.html_rules_laws.specs.Ready.{are_formatting}
use Rattle.html_rules_laws.specs.Soundness.{AreOpened, IsClear, Standing}
use Rattle.html_rules_laws.specs.Upright.{AreRooted}
use Rattle.html_rules_laws.proofs.TreePreserved.AdoptionAgency.{adopt-moved, agency-Standing, turn-Standing, unlist-Standing}
use Rattle.html_rules_laws.proofs.TreePreserved.AdoptionOrder.{apart-right, opened-right}
use Rattle.html_rules_laws.proofs.Frames.FirmAdoption.{ArePlain, found}
use Rattle.html_rules_laws.proofs.TreePreserved.Standing.{part-apart, part-below, part-opened, part-same}
use Rattle.html_rules_laws.proofs.TreePreserved.StandingSteps.{parse_error-Standing}
use Rattle.html_rules_laws.proofs.Frames.Tame.{named-formatting, parse_error-tame, plain-formatting, turned-tame, walked-plain}
use Rattle.html_rules_laws.proofs.TreePreserved.Eases.{Eases, eased-after, eased-either, eased-part, eased-same, rooted-part, stays-same}
use Rattle.html_rules_laws.proofs.TreePreserved.Steps.{generic-eased, parse_error-eased, pop-eased, remove_from_stack-eased}

-- elements that a block is not above
rooted-outside : (f g : Forest) (b : ℕ) (xs : List Open)
    → ((a n : ℕ) → n < node_count f → (Above f b n → ⊥) → Above g a n → Above f a n) → AreOpened f xs
    → IsClear f b xs → AreRooted f xs → AreRooted g xs
rooted-outside f g b [] out h c r = tt
rooted-outside f g b (x ∷ xs) out h c r = (
  λ e. let own = r.0 e in (
    own.0,
    λ a up. own.1 a (out a x.number
        (element-IsNode f x.number (element_name_of x.namespace x.name) h.0.named) c.0 up),
  ),
  rooted-outside f g b xs out h.1 c.1 r.1,
)

rooted-plain : (g : Forest) (xs ys : List Open) → ArePlain xs → AreRooted g ys → AreRooted g (xs ++ ys)
rooted-plain g [] ys h r = r
rooted-plain g (x ∷ xs) ys h r = (λ e. absurd (true≢false (sym e ∙ h.0.root)), rooted-plain g xs ys h.1 r)

no-end : (xs ys : List Open) (y : Open) → xs ++ y ∷ ys ≡ [] → ⊥
no-end [] ys y e = absurd (cc)
no-end (x ∷ xs) ys y e = absurd (cc)

-- elements over others are no roots
rooted-over : (f g : Forest) (ls ys zs : List Open) (y : Open) → AreRooted f (ls ++ y ∷ ys) → AreRooted g zs → AreRooted g (ls ++ zs)
rooted-over f g [] ys zs y h r = r
rooted-over f g (x ∷ ls) ys zs y h r = (λ e. absurd (no-end ls ys y (h.0 e).0), rooted-over f g ls ys zs y h.1 r)

rooted-right : (f : Forest) (ls ys : List Open) → AreRooted f (ls ++ ys) → AreRooted f ys
rooted-right f [] ys h = h
rooted-right f (x ∷ ls) ys h = rooted-right f ls ys h.1

-- the block, with a new element over it and copies under it
stacked : (f g : Forest) (later earlier copies : List Open) (block x new : Open)
    → AreRooted f (later ++ block ∷ x ∷ earlier) → AreRooted g earlier → ArePlain copies
    → is_in set.Html new ≡ false → AreRooted g ((later ++ new ∷ block ∷ copies) ++ earlier)
stacked f g later earlier copies block x new all below plain no_html =
    let right = rooted-right f later (block ∷ x ∷ earlier) all in
    let with_block : AreRooted g (block ∷ (copies ++ earlier)) =
    (λ html. absurd (no-end [] earlier x (right.0 html).0), rooted-plain g copies earlier plain below) in
    subst (λ all. AreRooted g all) (sym (append_assoc later (new ∷ block ∷ copies) earlier))
    (rooted-over f g later (x ∷ earlier) (new ∷ block ∷ (copies ++ earlier)) block all
    (λ html. absurd (true≢false (sym html ∙ no_html)), with_block))

adopt-eased : (fe : Listed) (block : Open) (s : State) (left : ℕ) (ys : List Open) → is_among fe.tag.name
    (names_of set.FormattingEnd) ≡ true → are_formatting s.active_formatting ≡ true → Standing s → is_open fe.number s.open_elems ≡ true
    → in_scope set.DefaultScope (is_number fe.number) s.open_elems ≡ true
    → furthest_block (opened_after fe.number s.open_elems) ≡ Some block → Eases s (adopt fe block (walk left ys (begin_walk block s)) s)
adopt-eased fe block s left ys t l is there scope e =
    let xs : List Open = s.open_elems in
    let later : List Open = opened_after block.number xs in
    let earlier : List Open = opened_before fe.number xs in
    let w : Walk = walk left ys (begin_walk block s) in
    let g : Forest = (adopt fe block w s).forest in
    let removed : Forest = remove w.forest w.last_node in
    let new : ℕ = node_count (put removed (place_for s.foster_parenting removed xs (current_node earlier)) w.last_node) in
    let at = found fe.number block xs there e in
    let moved = adopt-moved fe block s left ys is there scope e in
    let opened = opened-right s.forest later (block ∷ at.0 ∷ earlier) (part-opened s.forest xs _ at.1 is.opened) in
    let apart = apart-right s.forest later (block ∷ at.0 ∷ earlier) (part-apart s.forest xs _ at.1 is.apart) in
    record {
      names = moved.names;
      rooted = λ r.
          let all = rooted-part s.forest xs _ at.1 r in
          let right = rooted-right s.forest later (block ∷ at.0 ∷ earlier) all in
          let below : AreRooted g earlier = rooted-outside s.forest g block.number earlier moved.outside opened.1.1 apart.0.1 right.1.1 in
          stacked s.forest g later earlier w.copies block at.0
          (record { number = new; namespace = Html; name = fe.tag.name; rules = s.opts.rules }) all below
          (walked-plain left ys block s l) (plain-formatting fe.tag t new s.opts.rules).root;
    }

from-eased : (fe : Listed) (s : State) (o : Option Open) → is_among fe.tag.name (names_of set.FormattingEnd) ≡ true
    → are_formatting s.active_formatting ≡ true → Standing s → is_open fe.number s.open_elems ≡ true
    → in_scope set.DefaultScope (is_number fe.number) s.open_elems ≡ true
    → furthest_block (opened_after fe.number s.open_elems) ≡ o → Eases s (adopt_from fe o s).state
from-eased fe s None t l is there scope e = eased-part s (cut_at fe s) is.opened (stays-same s.forest is.tree)
    (part-below (is_number fe.number) s.open_elems)
from-eased fe s (Some block) t l is there scope e = adopt-eased fe block s 3 (between fe block s) t l is there scope e

open-eased : (fe : Listed) (s : State) → is_among fe.tag.name (names_of set.FormattingEnd) ≡ true
    → are_formatting s.active_formatting ≡ true → Standing s → is_open fe.number s.open_elems ≡ true
    → in_scope set.DefaultScope (is_number fe.number) s.open_elems ≡ true
    → Eases s (adopt_open fe s).state
unfolding parse_error
open-eased fe s t l is there scope = by (current_is (is_number fe.number) s.open_elems) where
  o : Option Open
  o = furthest_block (opened_after fe.number s.open_elems)

  by : (b : Bool) → Eases s (adopt_from fe (furthest_block (opened_after fe.number s.open_elems))
      (choose b (λ _. s) (λ _. parse_error s))).state
  by true = from-eased fe s o t l is there scope refl
  by false = eased-after s (parse_error s) _ (parse_error-eased s is)
      (from-eased fe (parse_error s) o t l (parse_error-Standing s is) there scope refl)

unlist-eased : (fe : Listed) (s : State) → Standing s → Eases s (unlist fe s)
unlist-eased fe s is = eased-part s (unlist fe s) is.opened (stays-same s.forest is.tree) (part-same s.open_elems)

turned-eased : (o : Option Listed) (name : List ℕ) (s : State)
    → IfSome o (λ listed. is_among listed.tag.name (names_of set.FormattingEnd) ≡ true)
    → are_formatting s.active_formatting ≡ true → Standing s → Eases s (adopt_listed o name s).state
turned-eased None name s t l is = generic-eased name s is
turned-eased (Some fe) name s t l is = by (is_open fe.number s.open_elems)
    (in_scope set.DefaultScope (is_number fe.number) s.open_elems) refl refl where
      by : (a b : Bool) → is_open fe.number s.open_elems ≡ a → in_scope set.DefaultScope (is_number fe.number) s.open_elems ≡ b
          → Eases s (choose (not a) (λ _. record { state = unlist fe (parse_error s); goes_on = false })
          (λ _. choose (not b) (λ _. record { state = parse_error s; goes_on = false }) (λ _. adopt_open fe s))).state
      by false b e k = eased-after s (parse_error s) _ (parse_error-eased s is)
          (unlist-eased fe (parse_error s) (parse_error-Standing s is))
      by true false e k = parse_error-eased s is
      by true true e k = open-eased fe s t l is e k

turns-eased : (n : ℕ) (name : List ℕ) (s : State) → are_formatting s.active_formatting ≡ true → Standing s
    → Eases s (adoption_turns n name s)
unfolding adoption_turns adoption_turn
turns-eased zero name s l is = eased-same s
turns-eased (suc n) name s l is =
    let turned = turned-eased (last_named name s.active_formatting) name s (named-formatting name s.active_formatting l) l is in
    let tame = turned-tame (last_named name s.active_formatting) name s (named-formatting name s.active_formatting l) l in
    eased-either (adoption_turn name s).goes_on s _ _
    (eased-after s (adoption_turn name s).state _ turned
    (turns-eased n name (adoption_turn name s).state tame.listed (turn-Standing name s is))) turned

pub agency-eased : (name : List ℕ) (s : State) → are_formatting s.active_formatting ≡ true → Standing s → Eases s (adoption_agency name s)
unfolding adoption_agency
agency-eased name s l is = eased-either (current_is (is_named name) s.open_elems
    && not (is_listed (current_number s.open_elems) s.active_formatting)) s _ _ (pop-eased s is) (turns-eased 8 name s l is)

misnested-eased : (o : Option Listed) (s : State) → are_formatting s.active_formatting ≡ true → Standing s → Eases s (close_misnested o s)
misnested-eased None s l is = eased-same s
misnested-eased (Some a) s l is =
    let erred : State = parse_error s in
    let closed : State = adoption_agency (codes "a") erred in
    let one = agency-eased (codes "a") erred (parse_error-tame s l).listed (parse_error-Standing s is) in
    let standing = agency-Standing (codes "a") erred (parse_error-Standing s is) in
    let two = unlist-eased a closed standing in
    let three = remove_from_stack-eased a.number (unlist a closed) (unlist-Standing a closed standing) in
    eased-after s erred _ (parse_error-eased s is)
    (eased-after erred closed _ one (eased-after closed (unlist a closed) (remove_from_stack a.number (unlist a closed)) two three))

pub misnested_a-eased : (s : State) → are_formatting s.active_formatting ≡ true → Standing s → Eases s (handle_misnested_a_tags s)
unfolding handle_misnested_a_tags
misnested_a-eased s l is = misnested-eased (last_named (codes "a") s.active_formatting) s l is
