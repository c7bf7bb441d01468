-- Steps that change the stack such that any element may come next, unless a template leaves, and list formatting elements alone.
use Rattle.std.proofs.Common.{◌≡◌, ℕ, zero, suc, Bool, true, false, List, [], ◌∷◌, Option, Some, None, refl, true≢false, codes}
use Rattle.std.specs.Prelude.{◌||◌, ◌&&◌, not, nat_eq, nat_le, IfSome}
use Rattle.std.specs.List.{list_all}
use Rattle.std.specs.Str.{bytes_eq}
use Rattle.std.proofs.lemmas.Bool.{and_parts}
use Rattle.markup.specs.Forest.{node_count}
use Rattle.markup.specs.declared.attributes.Attribute.{Attribute}
use Rattle.html_tokens.specs.declared.tags.Tag.{Tag}
use Rattle.html_rules.specs.Actions.{append_in_body, frameset_not_ok_unless_white, remove_from_stack_if, set_foster_parenting}
use Rattle.html_rules.specs.Actions.{insert_table_text}
use Rattle.html_rules.specs.Adoption.{Walk, adopt, adopt_from, adopt_listed, adopt_open, adoption_agency, adoption_turn}
use Rattle.html_rules.specs.Adoption.{adoption_turns, begin_walk, between, close_misnested, copy_if, cut_at, furthest_block}
use Rattle.html_rules.specs.Adoption.{is_number, listed_as, opened_after, opened_before, relist, unlist, walk}
use Rattle.html_rules.specs.Choice.{choose}
use Rattle.html_rules.specs.ForeignContent.{ForeignEnd, Dropped, AsInMode, Closed, close_foreign_by, enter_foreign, foreign_start_at}
use Rattle.html_rules.specs.Formatting.{Listed, after_marker, count_equal, create_formatting_element_for}
use Rattle.html_rules.specs.Formatting.{is_equiv_modulo_attr_order, is_listed, last_named, list_current, put_after}
use Rattle.html_rules.specs.Formatting.{reconstruct_active_formatting_elements, reopen, stands_for, with_in_place, with_room}
use Rattle.html_rules.specs.Formatting.{without_earliest, without_entry}
use Rattle.html_rules.specs.Names.{Namespace, Html, MathMl, Svg, Other, is_html}
use Rattle.html_rules.specs.Places.{append_text, insert_element, insert_element_for, put_element}
use Rattle.html_rules.specs.Sets.{is_among, mathml_names_of, names_of, svg_names_of}
use Rattle.html_rules.specs.Stack.{add_attributes_to, check_body_end, close_item, close_item_named, close_p_element}
use Rattle.html_rules.specs.Stack.{close_p_element_in_button_scope, expect_to_close, finds_generic, generate_implied_end_except}
use Rattle.html_rules.specs.Stack.{generate_implied_end_tags, in_scope, is_open, item_name, nothing, parse_error, pop}
use Rattle.html_rules.specs.Stack.{pop_until, pop_until_current, process_end_tag_in_body, remove_from_stack, remove_if}
use Rattle.html_rules.specs.State.{Open, Entry, Element, Marker, State, current_is, current_number, is_in, is_named}
use Rattle.html_rules.specs.Tokens.{is_white}
use Rattle.html_rules.specs.declared.rules.Rules.{Rules}
use Rattle.html_rules.specs.declared.tag_set.TagSet.{TagSet}
use Rattle.html_rules.specs.declared.tag_set.TagSet.TheVariants as set
use Rattle.html_rules_laws.specs.Ready.{are_formatting}
use Rattle.html_rules_laws.proofs.Frames.Firm.{IsFirm, IsOrdinary, firm-after, firm-part, firm-plain, firm-same}
use Rattle.html_rules_laws.proofs.Frames.FirmAdoption.{ArePlain, adopted-firm, found, plain-append}
use Rattle.html_rules_laws.proofs.Names.{disjoint}
use Rattle.html_rules_laws.proofs.TreePreserved.Standing.{IsPart, part-below, part-current, part-from, part-number, part-same}
use Rattle.html_rules_laws.proofs.TreePreserved.StandingActions.{LeavesPart}

pub record IsTame (s r : State) : Type 0 where
  pub firm : IsFirm s.open_elems r.open_elems
  pub listed : are_formatting r.active_formatting ≡ true

abbrev pub Tames : (State → State) → Type 0
Tames f = (s : State) → are_formatting s.active_formatting ≡ true → IsTame s (f s)

pub same-tame : Tames (λ s. s)
same-tame s l = record { firm = firm-same s.open_elems; listed = l }

pub after-tame : (s r q : State) → IsTame s r → (are_formatting r.active_formatting ≡ true → IsTame r q) → IsTame s q
after-tame s r q h k = let more = k h.listed in
    record { firm = firm-after s.open_elems r.open_elems q.open_elems h.firm more.firm; listed = more.listed }

pub either-tame : (b : Bool) (s x y : State) → IsTame s x → IsTame s y → IsTame s (choose b (λ _. x) (λ _. y))
either-tame true s x y h k = h
either-tame false s x y h k = k

-- elements leave
pub part-tame : (s r : State) → IsPart r.open_elems s.open_elems → are_formatting r.active_formatting ≡ true → IsTame s r
part-tame s r part l = record { firm = firm-part s.open_elems r.open_elems part; listed = l }

pub parse_error-tame : Tames parse_error
unfolding parse_error
parse_error-tame s l = part-tame s _ (part-same s.open_elems) l

pub pop-tame : Tames pop
unfolding pop
pop-tame s l = part-tame s _ (part-current s.open_elems) l

pub pop_until-tame : (p : Open → Bool) → Tames (pop_until p)
unfolding pop_until
pop_until-tame p s l = part-tame s _ (part-below p s.open_elems) l

pub pop_until_current-tame : (p : Open → Bool) → Tames (pop_until_current p)
unfolding pop_until_current
pop_until_current-tame p s l = part-tame s _ (part-from p s.open_elems) l

pub expect_to_close-tame : (p : Open → Bool) → Tames (expect_to_close p)
unfolding expect_to_close
expect_to_close-tame p s l = either-tame (current_is p s.open_elems) s _ _ (pop_until-tame p s l)
    (after-tame s (parse_error s) _ (parse_error-tame s l) (pop_until-tame p (parse_error s)))

pub except-tame : (except : Open → Bool) → Tames (generate_implied_end_except except)
unfolding generate_implied_end_except
except-tame except s l = part-tame s _ (part-from (λ x. not (is_in set.CursoryImpliedEnd x) || except x) s.open_elems) l

pub implied-tame : (implied : TagSet) → Tames (generate_implied_end_tags implied)
unfolding generate_implied_end_tags
implied-tame implied s l = part-tame s _ (part-from (λ x. not (is_in implied x) || nothing x) s.open_elems) l

pub remove-tame : (n : ℕ) → Tames (remove_from_stack n)
unfolding remove_from_stack
remove-tame n s l = part-tame s _ (part-number n s.open_elems) l

pub unopened-tame : (o : Option ℕ) → Tames (remove_from_stack_if o)
unopened-tame None s l = same-tame s l
unopened-tame (Some n) s l = remove-tame n s l

closed-tame : (p : Open → Bool) → Tames (λ s. expect_to_close p (generate_implied_end_except p s))
closed-tame p s l = after-tame s (generate_implied_end_except p s) _ (except-tame p s l)
    (expect_to_close-tame p (generate_implied_end_except p s))

pub close_p-tame : Tames close_p_element_in_button_scope
unfolding close_p_element_in_button_scope close_p_element
close_p-tame s l = either-tame (in_scope set.ButtonScope (is_in set.P) s.open_elems) s _ s (closed-tame (is_in set.P) s l) (same-tame s l)

close_named-tame : (o : Option (List ℕ)) → Tames (close_item_named o)
close_named-tame None s l = same-tame s l
close_named-tame (Some name) s l = closed-tame (is_named name) s l

pub close_item-tame : (items : TagSet) → Tames (close_item items)
unfolding close_item
close_item-tame items s l = close_named-tame (item_name items s.open_elems) s l

pub generic-tame : (name : List ℕ) → Tames (process_end_tag_in_body name)
unfolding process_end_tag_in_body
generic-tame name s l = either-tame (finds_generic (is_named name) s.open_elems) s _ _
    (closed-tame (is_named name) s l) (parse_error-tame s l)

pub check-tame : Tames check_body_end
unfolding check_body_end
check-tame s l = either-tame (list_all (is_in set.BodyEnd) s.open_elems) s s _ (same-tame s l) (parse_error-tame s l)

pub append_text-tame : (text : List ℕ) → Tames (append_text text)
unfolding append_text
append_text-tame text s l = part-tame s _ (part-same s.open_elems) l

pub put_element-tame : (namespace : Namespace) (name : List ℕ) (attributes : List Attribute) (dup : Bool)
    → Tames (put_element namespace name attributes dup)
unfolding put_element
put_element-tame namespace name attributes dup s l = part-tame s _ (part-same s.open_elems) l

-- elements come

pub insert_element-tame : (namespace : Namespace) (name : List ℕ) (attributes : List Attribute) (dup : Bool)
    → ((n : ℕ) (rules : Rules) → IsOrdinary (record { number = n; namespace = namespace; name = name; rules = rules }))
    → Tames (insert_element namespace name attributes dup)
unfolding insert_element
insert_element-tame namespace name attributes dup plain s l =
    record { firm = firm-plain _ s.open_elems (plain (node_count s.forest) s.opts.rules); listed = l }

abbrev pub special_names : List (List ℕ)
special_names = codes "html" ∷ codes "head" ∷ codes "template" ∷ []

three : (a b c : Bool) → (a || (b || (c || false))) ≡ false → ((a || false) ≡ false) × (((b || false) ≡ false) × ((c || false) ≡ false))
three true b c h = absurd (true≢false h)
three false true c h = absurd (true≢false h)
three false false true h = absurd (true≢false h)
three false false false h = (refl, (refl, refl))

pub plain-name : (name : List ℕ) → is_among name special_names ≡ false → (n : ℕ) (rules : Rules)
    → IsOrdinary (record { number = n; namespace = Html; name = name; rules = rules })
unfolding names_of
plain-name name h n rules =
    let parts = three (bytes_eq name (codes "html")) (bytes_eq name (codes "head")) (bytes_eq name (codes "template")) h in
    record { root = parts.0; head = parts.1.0; template = parts.1.1 }

pub plain-formatting : (tag : Tag) → is_among tag.name (names_of set.FormattingEnd) ≡ true → (n : ℕ) (rules : Rules)
    → IsOrdinary (record { number = n; namespace = Html; name = tag.name; rules = rules })
unfolding names_of
plain-formatting tag h n rules = plain-name tag.name (disjoint tag.name (names_of set.FormattingEnd) special_names refl h) n rules

pub plain-foreign : (namespace : Namespace) (name : List ℕ) → is_html namespace ≡ false → (n : ℕ) (rules : Rules)
    → IsOrdinary (record { number = n; namespace = namespace; name = name; rules = rules })
unfolding names_of mathml_names_of svg_names_of
plain-foreign Html name h n rules = absurd (true≢false h)
plain-foreign MathMl name h n rules = record { root = refl; head = refl; template = refl }
plain-foreign Svg name h n rules = record { root = refl; head = refl; template = refl }
plain-foreign (Other uri) name h n rules = record { root = refl; head = refl; template = refl }

-- formatting elements

listed-tame : (tag : Tag) → is_among tag.name (names_of set.FormattingEnd) ≡ true → Tames (λ s. list_current tag (insert_element_for tag s))
listed-tame tag h s l =
    let made = insert_element-tame Html tag.name tag.attrs tag.had_duplicate_attributes (plain-formatting tag h) s l in
    record { firm = made.firm; listed = rw h made.listed }

choose-listed : (b : Bool) (xs ys : List Entry) → are_formatting xs ≡ true → are_formatting ys ≡ true
    → are_formatting (choose b (λ _. xs) (λ _. ys)) ≡ true
choose-listed true xs ys h k = h
choose-listed false xs ys h k = k

cons-listed : (entry : Entry) (xs ys : List Entry) → are_formatting (entry ∷ xs) ≡ true → are_formatting ys ≡ true
    → are_formatting (entry ∷ ys) ≡ true
cons-listed Marker xs ys h k = k
cons-listed (Element n tag) xs ys h k = let own =
    (and_parts (is_among tag.name (names_of set.FormattingEnd)) (are_formatting xs) h).0 in rw (own, k) refl

tail-listed : (entry : Entry) (xs : List Entry) → are_formatting (entry ∷ xs) ≡ true → are_formatting xs ≡ true
tail-listed Marker xs h = h
tail-listed (Element n tag) xs h = (and_parts (is_among tag.name (names_of set.FormattingEnd)) (are_formatting xs) h).1

earliest-listed : (tag : Tag) (entries : List Entry) → are_formatting entries ≡ true → are_formatting (without_earliest tag entries) ≡ true
earliest-listed tag [] h = h
earliest-listed tag (Marker ∷ entries) h = h
earliest-listed tag (Element n other ∷ entries) h =
    choose-listed (is_equiv_modulo_attr_order tag other && nat_eq (count_equal tag entries) 0) entries
    (Element n other ∷ without_earliest tag entries) (tail-listed (Element n other) entries h)
    (cons-listed (Element n other) entries (without_earliest tag entries) h
    (earliest-listed tag entries (tail-listed (Element n other) entries h)))

room-listed : (tag : Tag) (entries : List Entry) → are_formatting entries ≡ true → are_formatting (with_room tag entries) ≡ true
room-listed tag entries h = choose-listed (nat_le 3 (count_equal tag entries)) (without_earliest tag entries)
    entries (earliest-listed tag entries h) h

pub formatting-tame : (tag : Tag) → is_among tag.name (names_of set.FormattingEnd) ≡ true → Tames (create_formatting_element_for tag)
unfolding create_formatting_element_for
formatting-tame tag h s l =
    let made = listed-tame tag h (record s { active_formatting = with_room tag s.active_formatting })
    (room-listed tag s.active_formatting l) in
    record { firm = made.firm; listed = made.listed }

pub behind-listed : (entries : List Entry) → are_formatting entries ≡ true → are_formatting (after_marker entries) ≡ true
behind-listed [] h = h
behind-listed (Marker ∷ entries) h = h
behind-listed (Element n tag ∷ entries) h = behind-listed entries (tail-listed (Element n tag) entries h)

reopen-tame : (entries : List Entry) → are_formatting entries ≡ true → (s : State) → IsTame s (reopen entries s)
reopen-tame [] h s = part-tame s _ (part-same s.open_elems) h
reopen-tame (Marker ∷ entries) h s = part-tame s _ (part-same s.open_elems) h
reopen-tame (Element n tag ∷ entries) h s =
    let parts = and_parts (is_among tag.name (names_of set.FormattingEnd)) (are_formatting entries) h in
    either-tame (is_open n s.open_elems) s _ _ (part-tame s _ (part-same s.open_elems) h)
    (after-tame s (reopen entries s) _ (reopen-tame entries parts.1 s) (listed-tame tag parts.0 (reopen entries s)))

pub reconstruct-tame : Tames reconstruct_active_formatting_elements
unfolding reconstruct_active_formatting_elements
reconstruct-tame s l = reopen-tame s.active_formatting l s

-- the adoption agency

pub without-listed : (n : ℕ) (entries : List Entry) → are_formatting entries ≡ true → are_formatting (without_entry n entries) ≡ true
without-listed n [] h = h
without-listed n (entry ∷ entries) h = choose-listed (stands_for n entry) entries _ (tail-listed entry entries h)
    (cons-listed entry entries _ h (without-listed n entries (tail-listed entry entries h)))

head-listed : (new : ℕ) (tag : Tag) (entries : List Entry) → is_among tag.name (names_of set.FormattingEnd) ≡ true
    → are_formatting entries ≡ true → are_formatting (Element new tag ∷ entries) ≡ true
head-listed new tag entries h k = rw (h, k) refl

pub in_place-listed : (n new : ℕ) (tag : Tag) → is_among tag.name (names_of set.FormattingEnd) ≡ true
    → (entries : List Entry) → are_formatting entries ≡ true → are_formatting (with_in_place n (Element new tag) entries) ≡ true
in_place-listed n new tag t [] h = h
in_place-listed n new tag t (entry ∷ entries) h =
    choose-listed (stands_for n entry) _ _ (head-listed new tag entries t (tail-listed entry entries h))
    (cons-listed entry entries _ h (in_place-listed n new tag t entries (tail-listed entry entries h)))

after-listed : (n new : ℕ) (tag : Tag) → is_among tag.name (names_of set.FormattingEnd) ≡ true
    → (entries : List Entry) → are_formatting entries ≡ true → are_formatting (put_after n (Element new tag) entries) ≡ true
after-listed n new tag t [] h = h
after-listed n new tag t (entry ∷ entries) h =
    choose-listed (stands_for n entry) _ _ (head-listed new tag (entry ∷ entries) t h)
    (cons-listed entry entries _ h (after-listed n new tag t entries (tail-listed entry entries h)))

relist-listed : (n new : ℕ) (tag : Tag) (copies : List Open) (entries : List Entry)
    → is_among tag.name (names_of set.FormattingEnd) ≡ true → are_formatting entries ≡ true
    → are_formatting (relist n (Element new tag) copies entries) ≡ true
relist-listed n new tag [] entries t h = in_place-listed n new tag t entries h
relist-listed n new tag (x ∷ copies) entries t h = without-listed n (put_after x.number (Element new tag) entries)
    (after-listed x.number new tag t entries h)

-- what is found in the list was made for a formatting element
IsFormatting : Option Listed → Type 0
IsFormatting o = IfSome o (λ listed. is_among listed.tag.name (names_of set.FormattingEnd) ≡ true)

choose-formatting : (b : Bool) (x y : Option Listed)
    → IfSome x (λ listed. is_among listed.tag.name (names_of set.FormattingEnd) ≡ true)
    → IfSome y (λ listed. is_among listed.tag.name (names_of set.FormattingEnd) ≡ true)
    → IfSome (choose b (λ _. x) (λ _. y)) (λ listed. is_among listed.tag.name (names_of set.FormattingEnd) ≡ true)
choose-formatting true x y h k = h
choose-formatting false x y h k = k

pub as-formatting : (n : ℕ) (entries : List Entry) → are_formatting entries ≡ true → IfSome (listed_as n entries)
    (λ listed. is_among listed.tag.name (names_of set.FormattingEnd) ≡ true)
as-formatting n [] h = tt
as-formatting n (Marker ∷ entries) h = as-formatting n entries h
as-formatting n (Element m tag ∷ entries) h =
    let parts = and_parts (is_among tag.name (names_of set.FormattingEnd)) (are_formatting entries) h in
    choose-formatting (nat_eq m n) _ _ parts.0 (as-formatting n entries parts.1)

pub named-formatting : (name : List ℕ) (entries : List Entry) → are_formatting entries ≡ true
    → IfSome (last_named name entries) (λ listed. is_among listed.tag.name (names_of set.FormattingEnd) ≡ true)
named-formatting name [] h = tt
named-formatting name (Marker ∷ entries) h = tt
named-formatting name (Element m tag ∷ entries) h =
    let parts = and_parts (is_among tag.name (names_of set.FormattingEnd)) (are_formatting entries) h in
    choose-formatting (bytes_eq tag.name name) _ _ parts.0 (named-formatting name entries parts.1)

record WalksWell (w : Walk) : Type 0 where
  plain : ArePlain w.copies
  listed : are_formatting w.active_formatting ≡ true

copied-well : (o : Option Listed) (w : Walk)
    → IfSome o (λ listed. is_among listed.tag.name (names_of set.FormattingEnd) ≡ true) → WalksWell w → WalksWell (copy_if o w)
copied-well None w h is = is
copied-well (Some listed) w h is = record {
  plain = plain-append w.copies _ is.plain (plain-formatting listed.tag h (node_count w.forest) w.rules, tt);
  listed = in_place-listed listed.number (node_count w.forest) listed.tag h w.active_formatting is.listed;
}

walked-well : (left : ℕ) (xs : List Open) (w : Walk) → WalksWell w → WalksWell (walk left xs w)
walked-well left [] w is = is
walked-well zero (x ∷ xs) w is = walked-well zero xs
    (record w { active_formatting = without_entry x.number w.active_formatting })
    (record { plain = is.plain; listed = without-listed x.number w.active_formatting is.listed })
walked-well (suc left) (x ∷ xs) w is = walked-well left xs (copy_if (listed_as x.number w.active_formatting) w)
    (copied-well (listed_as x.number w.active_formatting) w (as-formatting x.number w.active_formatting is.listed) is)

-- the copies of a walk were made for formatting elements
pub walked-plain : (left : ℕ) (xs : List Open) (block : Open) (s : State)
    → are_formatting s.active_formatting ≡ true → ArePlain (walk left xs (begin_walk block s)).copies
walked-plain left xs block s l = (walked-well left xs (begin_walk block s) (record { plain = tt; listed = l })).plain

adopt-tame : (fe : Listed) (block : Open) (w : Walk) (s : State) → is_among fe.tag.name (names_of set.FormattingEnd)
    ≡ true → WalksWell w → is_open fe.number s.open_elems ≡ true
    → furthest_block (opened_after fe.number s.open_elems) ≡ Some block → IsTame s (adopt fe block w s)
adopt-tame fe block w s t is there e =
    let at = found fe.number block s.open_elems there e in
    record {
      firm = adopted-firm s.open_elems (opened_after block.number s.open_elems)
          (opened_before fe.number s.open_elems) block at.0 _ w.copies at.1 (plain-formatting fe.tag t _ _) is.plain;
      listed = relist-listed fe.number _ fe.tag w.copies w.active_formatting t is.listed;
    }

from-tame : (fe : Listed) (s : State) (o : Option Open) → is_among fe.tag.name (names_of set.FormattingEnd) ≡ true
    → are_formatting s.active_formatting ≡ true → is_open fe.number s.open_elems ≡ true
    → furthest_block (opened_after fe.number s.open_elems) ≡ o → IsTame s (adopt_from fe o s).state
from-tame fe s None t l there e = part-tame s (cut_at fe s) (part-below (is_number fe.number) s.open_elems)
    (without-listed fe.number s.active_formatting l)
from-tame fe s (Some block) t l there e = adopt-tame fe block (walk 3 (between fe block s) (begin_walk block s)) s t
    (walked-well 3 (between fe block s) (begin_walk block s) (record { plain = tt; listed = l })) there e

open-tame : (fe : Listed) (s : State) → is_among fe.tag.name (names_of set.FormattingEnd) ≡ true
    → are_formatting s.active_formatting ≡ true → is_open fe.number s.open_elems ≡ true → IsTame s (adopt_open fe s).state
unfolding parse_error
open-tame fe s t l there = by (current_is (is_number fe.number) s.open_elems) where
  by : (b : Bool) → IsTame s (adopt_from fe (furthest_block (opened_after fe.number s.open_elems))
      (choose b (λ _. s) (λ _. parse_error s))).state
  by true = from-tame fe s (furthest_block (opened_after fe.number s.open_elems)) t l there refl
  by false = after-tame s (parse_error s) _ (parse_error-tame s l)
      (λ l. from-tame fe (parse_error s) (furthest_block (opened_after fe.number s.open_elems)) t l there refl)

pub turned-tame : (o : Option Listed) (name : List ℕ) (s : State)
    → IfSome o (λ listed. is_among listed.tag.name (names_of set.FormattingEnd) ≡ true)
    → are_formatting s.active_formatting ≡ true → IsTame s (adopt_listed o name s).state
turned-tame None name s t l = generic-tame name s l
turned-tame (Some fe) name s t l = by (is_open fe.number s.open_elems)
    (in_scope set.DefaultScope (is_number fe.number) s.open_elems) refl where
      by : (a b : Bool) → is_open fe.number s.open_elems ≡ a
          → IsTame s (choose (not a) (λ _. record { state = unlist fe (parse_error s); goes_on = false })
          (λ _. choose (not b) (λ _. record { state = parse_error s; goes_on = false }) (λ _. adopt_open fe s))).state
      by false b e = after-tame s (parse_error s) _ (parse_error-tame s l)
          (λ l. part-tame (parse_error s) _ (part-same (parse_error s).open_elems)
          (without-listed fe.number (parse_error s).active_formatting l))
      by true false e = parse_error-tame s l
      by true true e = open-tame fe s t l e

turns-tame : (n : ℕ) (name : List ℕ) → Tames (adoption_turns n name)
unfolding adoption_turns adoption_turn
turns-tame zero name s l = same-tame s l
turns-tame (suc n) name s l =
    let turned = turned-tame (last_named name s.active_formatting) name s (named-formatting name s.active_formatting l) l in
    either-tame (adoption_turn name s).goes_on s _ _
    (after-tame s (adoption_turn name s).state _ turned (turns-tame n name (adoption_turn name s).state)) turned

pub agency-tame : (name : List ℕ) → Tames (adoption_agency name)
unfolding adoption_agency
agency-tame name s l = either-tame (current_is (is_named name) s.open_elems
    && not (is_listed (current_number s.open_elems) s.active_formatting)) s _ _ (pop-tame s l) (turns-tame 8 name s l)

pub misnested-tame : (o : Option Listed) → Tames (close_misnested o)
misnested-tame None s l = same-tame s l
misnested-tame (Some a) s l =
    let closed : State = adoption_agency (codes "a") (parse_error s) in
    after-tame s closed _ (after-tame s (parse_error s) closed (parse_error-tame s l) (agency-tame (codes "a") (parse_error s)))
    (λ l. after-tame closed (unlist a closed) _ (part-tame closed (unlist a closed) (part-same closed.open_elems)
    (without-listed a.number closed.active_formatting l)) (remove-tame a.number (unlist a closed)))

-- other steps

pub body-tame : (o : Option ℕ) (attributes : List Attribute) → Tames (add_attributes_to o attributes)
body-tame None attributes s l = same-tame s l
body-tame (Some n) attributes s l = part-tame s _ (part-same s.open_elems) l

pub remove_if-tame : (o : Option ℕ) → Tames (remove_if o)
remove_if-tame None s l = same-tame s l
remove_if-tame (Some n) s l = part-tame s _ (part-same s.open_elems) l

pub enter-tame : (namespace : Namespace) (tag : Tag) → is_html namespace ≡ false → Tames (enter_foreign namespace tag)
unfolding enter_foreign
enter-tame namespace tag h s l = either-tame tag.self_closing s _ _
    (put_element-tame namespace tag.name _ tag.had_duplicate_attributes s l)
    (insert_element-tame namespace tag.name _ tag.had_duplicate_attributes (plain-foreign namespace tag.name h) s l)

pub foreign-tame : (o : Option Open) (tag : Tag) → IfSome o (λ x. is_html x.namespace ≡ false) → Tames (foreign_start_at o tag)
foreign-tame None tag h s l = same-tame s l
foreign-tame (Some x) tag h s l = enter-tame x.namespace _ h s l

pub close_by-tame : (e : ForeignEnd) (s : State) → LeavesPart s.open_elems e
    → are_formatting s.active_formatting ≡ true → IsTame s (close_foreign_by e s)
close_by-tame Dropped s h l = same-tame s l
close_by-tame AsInMode s h l = same-tame s l
close_by-tame (Closed left) s h l = part-tame s _ h l

in_body-tame : (text : List ℕ) → Tames (append_in_body text)
unfolding frameset_not_ok_unless_white
in_body-tame text s l =
    let made : State = reconstruct_active_formatting_elements s in
    after-tame s (frameset_not_ok_unless_white text made) _
    (after-tame s made _ (reconstruct-tame s l) (part-tame made _ (part-same made.open_elems)))
    (append_text-tame text (frameset_not_ok_unless_white text made))

pub tell-tame : (text : List ℕ) → Tames (insert_table_text text)
unfolding set_foster_parenting
tell-tame text s l =
    let fostered : State = set_foster_parenting true (parse_error s) in
    either-tame (is_white text) s _ _ (append_text-tame text s l)
    (after-tame s (append_in_body text fostered) _
    (after-tame s fostered _ (after-tame s (parse_error s) fostered (parse_error-tame s l)
    (part-tame (parse_error s) fostered (part-same (parse_error s).open_elems))) (in_body-tame text fostered))
    (part-tame (append_in_body text fostered) _ (part-same (append_in_body text fostered).open_elems)))
