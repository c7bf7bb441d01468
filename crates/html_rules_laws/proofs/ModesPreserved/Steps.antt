-- Steps under which the parts nest as before.
use Rattle.std.proofs.Common.{◌≡◌, ◌∙◌, ℕ, zero, suc, Bool, true, false, List, [], ◌∷◌, ◌++◌, Option, Some, None, refl, sym, ap}
use Rattle.std.proofs.Common.{subst, true≢false, codes}
use Rattle.std.specs.Prelude.{◌||◌, ◌&&◌, not, nat_eq, IfSome}
use Rattle.std.specs.Str.{bytes_eq}
use Rattle.std.proofs.lemmas.Bool.{and_parts, eqb-true}
use Rattle.std.proofs.lemmas.Slice.Eq.{bytes_eq-Decides}
use Rattle.markup.specs.Forest.{Forest, data_of, element_name, node_count}
use Rattle.markup.specs.declared.names.QualName.{QualName}
use Rattle.html_tokens.specs.declared.tags.Tag.{Tag}
use Rattle.html_rules.specs.Actions.{frameset_not_ok_unless_white, set_foster_parenting, insert_table_text}
use Rattle.html_rules.specs.Adoption.{Walk, adopt, adopt_from, adopt_listed, adopt_open, adoption_agency, adoption_turn}
use Rattle.html_rules.specs.Adoption.{adoption_turns, begin_walk, between, close_misnested, copy_if, furthest_block}
use Rattle.html_rules.specs.Adoption.{handle_misnested_a_tags, is_number, listed_as, opened_after, opened_before, unlist, walk}
use Rattle.html_rules.specs.Choice.{choose}
use Rattle.html_rules.specs.ForeignContent.{ForeignEnd, Dropped, AsInMode, Closed, close_foreign, close_foreign_by}
use Rattle.html_rules.specs.ForeignContent.{ends_foreign, ends_foreign_in, foreign_end, foreign_end_from, is_html_element, is_named_any_case}
use Rattle.html_rules.specs.ForeignContent.{pop_foreign}
use Rattle.html_rules.specs.Formatting.{Listed, is_listed, last_named, reconstruct_active_formatting_elements, reopen, without_entry}
use Rattle.html_rules.specs.Names.{Namespace, Html, MathMl, Svg, Other, element_name_of, is_html}
use Rattle.html_rules.specs.Places.{append_text, insert_element, insert_element_for}
use Rattle.html_rules.specs.Sets.{is_among, mathml_names_of, names_in, names_of, set_by, svg_names_of}
use Rattle.html_rules.specs.Stack.{close_item, close_item_named, close_p_element, close_p_element_in_button_scope}
use Rattle.html_rules.specs.Stack.{expect_to_close, finds_generic, generate_implied_end_except, generate_implied_end_tags}
use Rattle.html_rules.specs.Stack.{in_scope, is_open, item_name, left_below, nothing, open_templates, parse_error, pop}
use Rattle.html_rules.specs.Stack.{pop_until_current, process_end_tag_in_body, remove_from_stack, without_current}
use Rattle.html_rules.specs.State.{Open, Entry, Element, Marker, State, current_is, current_number, is_in, is_named, named_in}
use Rattle.html_rules.specs.Tokens.{is_white}
use Rattle.html_rules.specs.declared.rules.Rules.{Rules}
use Rattle.html_rules.specs.declared.tag_set.TagSet.{TagSet}
use Rattle.html_rules.specs.declared.tag_set.TagSet.TheVariants as set
use Rattle.html_rules_laws.specs.Nesting.{Loose, Ground, base, is_loose, nested, part_of, parts, takes}
use Rattle.html_rules_laws.specs.Ready.{are_formatting}
use Rattle.html_rules_laws.specs.Soundness.{AreListed, AreOpened, Standing}
use Rattle.html_rules_laws.proofs.TreePreserved.AdoptionAgency.{agency-Standing, turn-Standing, unlist-Standing}
use Rattle.html_rules_laws.proofs.Soundness.Specials.{close-elements}
use Rattle.html_rules_laws.proofs.TreePreserved.StandingSteps.{parse_error-Standing}
use Rattle.html_rules_laws.proofs.Frames.Tame.{as-formatting, in_place-listed, named-formatting, parse_error-tame, turned-tame}
use Rattle.html_rules_laws.proofs.Frames.Tame.{without-listed}
use Rattle.html_rules_laws.proofs.TreePreserved.Adoption.{agency-eased}
use Rattle.html_rules_laws.proofs.TreePreserved.Steps.{parse_error-eased}
use Rattle.html_rules_laws.proofs.ModesPreserved.Parts.{are_loose, among-loose_name, foreign-loose, is_loose_name, name-loose, set-loose}
use Rattle.html_rules_laws.proofs.ModesPreserved.Stacks.{AllOpen, AreLoose, Frees, IsLoose, after-loose, all-open, block-loose}
use Rattle.html_rules_laws.proofs.ModesPreserved.Stacks.{freed-base, freed-nested, freed-templates, drop, frees-same}
use Rattle.html_rules_laws.proofs.ModesPreserved.Stacks.{from-frees, from-reach, generic-reach, special-loose, number-frees}
use Rattle.html_rules_laws.proofs.ModesPreserved.Stacks.{pushed-base, pushed-nested, pushed-templates, reach, reach-frees}
use Rattle.html_rules_laws.proofs.ModesPreserved.Stacks.{scope-reach}
use Rattle.html_rules_laws.proofs.Bools.{both, no, or_true}

-- where loose elements may come, the parts nest as before
pub record IsFlow (g : Ground) (xs ys : List Open) : Type 0 where
  pub flow : nested g xs ≡ true → takes g (base xs) ≡ true → (nested g ys ≡ true)
      × ((base ys ≡ base xs) × (open_templates ys ≡ open_templates xs))

pub flow-frees : (g : Ground) (xs ys : List Open) → Frees xs ys → IsFlow g xs ys
flow-frees g xs ys f = record { flow = λ h t. (freed-nested g xs ys f h, (freed-base xs ys f, freed-templates xs ys f)) }

pub flow-same : (g : Ground) (xs : List Open) → IsFlow g xs xs
flow-same g xs = flow-frees g xs xs (frees-same xs)

pub flow-after : (g : Ground) (xs ys zs : List Open) → IsFlow g xs ys → IsFlow g ys zs → IsFlow g xs zs
flow-after g xs ys zs a b = record {
  flow = λ h t.
      let one = a.flow h t in
      let two = b.flow one.0 (rw one.1.0 t) in
      (two.0, (two.1.0 ∙ one.1.0, two.1.1 ∙ one.1.1));
}

pub flow-push : (g : Ground) (x : Open) (xs : List Open) → IsLoose x → IsFlow g xs (x ∷ xs)
flow-push g x xs l = record { flow = λ h t. (pushed-nested g x xs l t h, (pushed-base x xs l, pushed-templates x xs l)) }

pub flow-either : (g : Ground) (xs : List Open) (b : Bool) (x y : State) → IsFlow g xs x.open_elems
    → IsFlow g xs y.open_elems → IsFlow g xs (choose b (λ _. x) (λ _. y)).open_elems
flow-either g xs true x y h k = h
flow-either g xs false x y h k = k

-- given that the parts nest
pub flow-if : (g : Ground) (xs ys : List Open) → (nested g xs ≡ true → IsFlow g xs ys) → IsFlow g xs ys
flow-if g xs ys h = record { flow = λ n t. (h n).flow n t }

pub flow-pushes : (g : Ground) (ls xs : List Open) → AreLoose ls → IsFlow g xs (ls ++ xs)
flow-pushes g [] xs l = flow-same g xs
flow-pushes g (x ∷ ls) xs l = flow-after g xs (ls ++ xs) (x ∷ (ls ++ xs)) (flow-pushes g ls xs l.1) (flow-push g x (ls ++ xs) l.0)

-- implied end tags

or_false : (a b : Bool) → (a || b) ≡ false → a ≡ false
or_false true b h = absurd (true≢false h)
or_false false b h = refl

not-false : (b : Bool) → not b ≡ false → b ≡ true
not-false true h = refl
not-false false h = absurd (true≢false h)

pub implied-loose : (except : Open → Bool) (x : Open) → (not (is_in set.CursoryImpliedEnd x) || except x) ≡ false → IsLoose x
unfolding names_of mathml_names_of svg_names_of
implied-loose except x h = set-loose set.CursoryImpliedEnd refl x (not-false _ (or_false _ _ h))

pub implied-flow : (g : Ground) (s : State) → IsFlow g s.open_elems (generate_implied_end_tags set.CursoryImpliedEnd s).open_elems
unfolding generate_implied_end_tags
implied-flow g s = flow-frees g s.open_elems _ (from-frees (λ x. not (is_in set.CursoryImpliedEnd x) || nothing x)
    (λ x h. implied-loose nothing x h) s.open_elems)

pub except-flow : (g : Ground) (except : Open → Bool) (s : State) → IsFlow g s.open_elems (generate_implied_end_except except s).open_elems
unfolding generate_implied_end_except
except-flow g except s = flow-frees g s.open_elems _
    (from-frees (λ x. not (is_in set.CursoryImpliedEnd x) || except x) (λ x h. implied-loose except x h) s.open_elems)

pub except-reach : (p : Open → Bool) (s : State) → reach p s.open_elems ≡ true → reach p (generate_implied_end_except p s).open_elems ≡ true
unfolding generate_implied_end_except
except-reach p s r = from-reach p (λ x. not (is_in set.CursoryImpliedEnd x) || p x)
    (λ x h. rw h (or_true (not (is_in set.CursoryImpliedEnd x)))) s.open_elems r

pub close-flow : (g : Ground) (p : Open → Bool) (s : State) → reach p s.open_elems ≡ true → IsFlow g s.open_elems
    (expect_to_close p s).open_elems
close-flow g p s r = subst (λ ys. IsFlow g s.open_elems ys) (sym (close-elements p s))
    (flow-frees g s.open_elems (left_below p s.open_elems) (reach-frees p s.open_elems r))

closed-flow : (g : Ground) (p : Open → Bool) (s : State) → reach p s.open_elems ≡ true → IsFlow g s.open_elems
    (expect_to_close p (generate_implied_end_except p s)).open_elems
closed-flow g p s r = flow-after g s.open_elems (generate_implied_end_except p s).open_elems _ (except-flow g p s)
    (close-flow g p (generate_implied_end_except p s) (except-reach p s r))

pub set-all : (names : TagSet) → are_loose names ≡ true → (xs : List Open) → AllOpen (λ x. is_in names x ≡ true → IsLoose x) xs
set-all names h xs = all-open (λ x. is_in names x ≡ true → IsLoose x) (λ x. set-loose names h x) xs

pub close_p-flow : (g : Ground) (s : State) → IsFlow g s.open_elems (close_p_element_in_button_scope s).open_elems
unfolding close_p_element_in_button_scope close_p_element names_of mathml_names_of svg_names_of
close_p-flow g s = flow-if g s.open_elems _ (λ n. by n (in_scope set.ButtonScope (is_in set.P) s.open_elems) refl) where
  by : nested g s.open_elems ≡ true → (b : Bool) → in_scope set.ButtonScope (is_in set.P) s.open_elems ≡ b
      → IsFlow g s.open_elems (choose b (λ _. close_p_element s) (λ _. s)).open_elems
  by n true e = closed-flow g (is_in set.P) s (scope-reach g set.ButtonScope refl (is_in set.P) s.open_elems n
      (set-all set.P refl s.open_elems) e)
  by n false e = flow-same g s.open_elems

-- items

item-special : (b c : Bool) (l : Bool) → (b ≡ false → l ≡ true) → (c ≡ true → l ≡ true) → (b && not c) ≡ false → l ≡ true
item-special true true l h k e = k refl
item-special true false l h k e = absurd (true≢false e)
item-special false c l h k e = h refl

loose-true : (x : Open) → IsLoose x → is_loose (part_of x) ≡ true
loose-true x l = rw l refl

-- up to an item the elements are loose
item-loose : (x : Open) → (is_in set.SpecialTag x && not (is_in set.AddressDivP x)) ≡ false → is_loose (part_of x) ≡ true
unfolding names_of mathml_names_of svg_names_of
item-loose x h = item-special (is_in set.SpecialTag x) (is_in set.AddressDivP x) (is_loose (part_of x))
    (special-loose x) (λ e. loose-true x (set-loose set.AddressDivP refl x e)) h

item-named : (items : TagSet) → ((rules : Rules) → set_by rules items ≡ items) → mathml_names_of items ≡ [] → svg_names_of items ≡ []
    → (x : Open)
    → is_in items x ≡ true → is_named x.name x ≡ true
item-named items same m v x h = by x.namespace x.name
    (subst (λ these. is_among x.name (names_in x.namespace these) ≡ true) (same x.rules) h) where
      by : (namespace : Namespace) (name : List ℕ) → is_among name (names_in namespace items) ≡ true → named_in namespace name name ≡ true
      by Html name h = (bytes_eq-Decides name name).1 refl
      by MathMl name h = no (rw m at h)
      by Svg name h = no (rw v at h)
      by (Other uri) name h = no h

item-reach : (items : TagSet) → ((rules : Rules) → set_by rules items ≡ items) → mathml_names_of items ≡ [] → svg_names_of items ≡ []
    → are_loose items ≡ true
    → (name : List ℕ) (xs : List Open) → item_name items xs ≡ Some name → reach (is_named name) xs ≡ true
item-reach items own m v l name [] e = absurd (cc)
item-reach items own m v l name (x ∷ xs) e =
    by (is_in items x) (is_in set.SpecialTag x && not (is_in set.AddressDivP x)) refl refl e (item-reach items own m v l name xs)
  where
    named : Some x.name ≡ Some name → is_in items x ≡ true → is_named name x ≡ true
    named e h = let same : x.name ≡ name = cc in subst (λ name. is_named name x ≡ true) same (item-named items own m v x h)

    or-right : (a b : Bool) → b ≡ true → (a || b) ≡ true
    or-right a b h = rw h (or_true a)

    by : (a b : Bool) → is_in items x ≡ a → (is_in set.SpecialTag x && not (is_in set.AddressDivP x)) ≡ b
        → choose a (λ _. Some x.name) (λ _. choose b (λ _. None) (λ _. item_name items xs)) ≡ Some name
        → (item_name items xs ≡ Some name → reach (is_named name) xs ≡ true) → reach (is_named name) (x ∷ xs) ≡ true
    by true b ea eb e rest = both _ _ (loose-true x (set-loose items l x ea)) (rw (named e ea) refl)
    by false true ea eb e rest = absurd (cc)
    by false false ea eb e rest = both _ _ (item-loose x eb) (or-right (is_named name x) (reach (is_named name) xs) (rest e))

close_named-flow : (g : Ground) (o : Option (List ℕ)) (s : State)
    → IfSome o (λ name. reach (is_named name) s.open_elems ≡ true) → IsFlow g s.open_elems (close_item_named o s).open_elems
close_named-flow g None s h = flow-same g s.open_elems
close_named-flow g (Some name) s h = closed-flow g (is_named name) s h

pub close_item-flow : (g : Ground) (items : TagSet) → ((rules : Rules) → set_by rules items ≡ items) → mathml_names_of items ≡ [] → svg_names_of items ≡ []
    → are_loose items ≡ true → (s : State) → IsFlow g s.open_elems (close_item items s).open_elems
unfolding close_item
close_item-flow g items own m v l s = by (item_name items s.open_elems) refl where
  by : (o : Option (List ℕ)) → item_name items s.open_elems ≡ o → IsFlow g s.open_elems (close_item_named o s).open_elems
  by None e = flow-same g s.open_elems
  by (Some name) e = close_named-flow g (Some name) s (item-reach items own m v l name s.open_elems e)

-- any other end tag
pub generic-flow : (g : Ground) (name : List ℕ) (s : State)
    → ((x : Open) → is_named name x ≡ true → is_loose (part_of x) ≡ false → part_of x ≡ base s.open_elems → ⊥)
    → IsFlow g s.open_elems (process_end_tag_in_body name s).open_elems
unfolding process_end_tag_in_body parse_error
generic-flow g name s h = by (finds_generic (is_named name) s.open_elems) refl where
  by : (b : Bool) → finds_generic (is_named name) s.open_elems ≡ b → IsFlow g s.open_elems
      (choose b (λ _. expect_to_close (is_named name) (generate_implied_end_except (is_named name) s)) (λ _. parse_error s)).open_elems
  by true e = closed-flow g (is_named name) s (generic-reach (is_named name) s.open_elems h e)
  by false e = flow-same g s.open_elems

-- formatting elements

pub formatting-loose : (tag : Tag) → is_among tag.name (names_of set.FormattingEnd) ≡ true → is_loose_name tag.name parts ≡ true
unfolding names_of
formatting-loose tag h = among-loose_name (names_of set.FormattingEnd) parts refl tag.name h

pub insert-flow : (g : Ground) (tag : Tag) → is_loose_name tag.name parts ≡ true → (s : State)
    → IsFlow g s.open_elems (insert_element_for tag s).open_elems
unfolding insert_element
insert-flow g tag l s = flow-push g (record { number = node_count s.forest; namespace = Html; name = tag.name; rules = s.opts.rules })
    s.open_elems (name-loose tag.name l (node_count s.forest) s.opts.rules)

reopen-flow : (g : Ground) (entries : List Entry) → are_formatting entries ≡ true → (s : State)
    → IsFlow g s.open_elems (reopen entries s).open_elems
reopen-flow g [] h s = flow-same g s.open_elems
reopen-flow g (Marker ∷ entries) h s = flow-same g s.open_elems
reopen-flow g (Element n tag ∷ entries) h s =
    let parts = and_parts (is_among tag.name (names_of set.FormattingEnd)) (are_formatting entries) h in
    flow-either g s.open_elems (is_open n s.open_elems) _ _ (flow-same g s.open_elems)
    (flow-after g s.open_elems (reopen entries s).open_elems _ (reopen-flow g entries parts.1 s)
    (insert-flow g tag (formatting-loose tag parts.0) (reopen entries s)))

pub reconstruct-flow : (g : Ground) (s : State) → are_formatting s.active_formatting ≡ true → IsFlow g s.open_elems
    (reconstruct_active_formatting_elements s).open_elems
unfolding reconstruct_active_formatting_elements
reconstruct-flow g s h = reopen-flow g s.active_formatting h s

pub tell-flow : (g : Ground) (text : List ℕ) (s : State) → are_formatting s.active_formatting ≡ true
    → IsFlow g s.open_elems (insert_table_text text s).open_elems
unfolding set_foster_parenting parse_error append_text frameset_not_ok_unless_white
tell-flow g text s h = flow-either g s.open_elems (is_white text) (append_text text s) _ (flow-same g s.open_elems)
    (reconstruct-flow g (set_foster_parenting true (parse_error s)) h)

-- elements by their numbers

abbrev local-of : Option QualName → List ℕ
local-of None = []
local-of (Some name) = name.local

named-one : (f : Forest) (n : ℕ) (name : List ℕ) → element_name (data_of f n) ≡ Some (element_name_of Html name)
    → is_loose_name name parts ≡ true → (x : Open) → element_name (data_of f x.number) ≡ Some
    (element_name_of x.namespace x.name) → nat_eq x.number n ≡ true → IsLoose x
named-one f n name e l x own same = by x.namespace refl where
  at : element_name (data_of f n) ≡ Some (element_name_of x.namespace x.name)
  at = subst (λ k. element_name (data_of f k) ≡ Some (element_name_of x.namespace x.name)) (eqb-true x.number n same) own

  names : x.name ≡ name
  names = ap local-of (sym at ∙ e)

  by : (namespace : Namespace) → x.namespace ≡ namespace → IsLoose x
  by Html k = html x.number x.rules x.namespace x.name k names where
    html : (m : ℕ) (rules : Rules) (namespace : Namespace) (own : List ℕ) → namespace ≡ Html → own ≡ name
        → part_of (record { number = m; namespace = namespace; name = own; rules = rules }) ≡ Loose
    html m rules namespace own k j = rw (k, j) (name-loose name l m rules)
  by MathMl k = foreign-loose x (ap is_html k)
  by Svg k = foreign-loose x (ap is_html k)
  by (Other uri) k = foreign-loose x (ap is_html k)

pub named-all : (f : Forest) (n : ℕ) (name : List ℕ) → element_name (data_of f n) ≡ Some (element_name_of Html name)
    → is_loose_name name parts ≡ true → (xs : List Open) → AreOpened f xs → AllOpen (λ x. is_number n x ≡ true → IsLoose x) xs
named-all f n name e l [] h = tt
named-all f n name e l (x ∷ xs) h = (named-one f n name e l x h.0.named, named-all f n name e l xs h.1)

pub removed-flow : (g : Ground) (n : ℕ) (name : List ℕ) (s : State) → element_name (data_of s.forest n) ≡ Some
    (element_name_of Html name) → is_loose_name name parts ≡ true → Standing s → IsFlow g s.open_elems (remove_from_stack n s).open_elems
unfolding remove_from_stack
removed-flow g n name s e l is = flow-frees g s.open_elems _
    (number-frees n s.open_elems (named-all s.forest n name e l s.open_elems is.opened))

-- the adoption agency

last-listed : (f : Forest) (name : List ℕ) (entries : List Entry) → AreListed f entries
    → IfSome (last_named name entries) (λ fe. element_name (data_of f fe.number) ≡ Some (element_name_of Html fe.tag.name))
last-listed f name [] h = tt
last-listed f name (Marker ∷ entries) h = tt
last-listed f name (Element n tag ∷ entries) h = by (bytes_eq tag.name name) (last-listed f name entries h.1) where
  by : (b : Bool) → IfSome (last_named name entries) (λ fe. element_name (data_of f fe.number) ≡ Some (element_name_of Html fe.tag.name))
      → IfSome (choose b (λ _. Some (record { number = n; tag = tag })) (λ _. last_named name entries))
      (λ fe. element_name (data_of f fe.number) ≡ Some (element_name_of Html fe.tag.name))
  by true rest = h.0
  by false rest = rest

record WalksLoose (w : Walk) : Type 0 where
  loose : AreLoose w.copies
  listed : are_formatting w.active_formatting ≡ true

loose-append : (xs ys : List Open) → AreLoose xs → AreLoose ys → AreLoose (xs ++ ys)
loose-append [] ys h k = k
loose-append (x ∷ xs) ys h k = (h.0, loose-append xs ys h.1 k)

copied-loose : (o : Option Listed) (w : Walk)
    → IfSome o (λ listed. is_among listed.tag.name (names_of set.FormattingEnd) ≡ true) → WalksLoose w → WalksLoose (copy_if o w)
copied-loose None w h is = is
copied-loose (Some listed) w h is = record {
  loose = loose-append w.copies _ is.loose (name-loose listed.tag.name (formatting-loose listed.tag h) (node_count w.forest) w.rules, tt);
  listed = in_place-listed listed.number (node_count w.forest) listed.tag h w.active_formatting is.listed;
}

walked-loose : (left : ℕ) (xs : List Open) (w : Walk) → WalksLoose w → WalksLoose (walk left xs w)
walked-loose left [] w is = is
walked-loose zero (x ∷ xs) w is = walked-loose zero xs
    (record w { active_formatting = without_entry x.number w.active_formatting })
    (record { loose = is.loose; listed = without-listed x.number w.active_formatting is.listed })
walked-loose (suc left) (x ∷ xs) w is = walked-loose left xs (copy_if (listed_as x.number w.active_formatting) w)
    (copied-loose (listed_as x.number w.active_formatting) w (as-formatting x.number w.active_formatting is.listed) is)

from-flow : (g : Ground) (fe : Listed) (s : State) (o : Option Open) → is_among fe.tag.name
    (names_of set.FormattingEnd) ≡ true → are_formatting s.active_formatting ≡ true → reach (is_number fe.number) s.open_elems ≡ true
    → furthest_block (opened_after fe.number s.open_elems) ≡ o → IsFlow g s.open_elems (adopt_from fe o s).state.open_elems
from-flow g fe s None t l r e = flow-frees g s.open_elems _ (reach-frees (is_number fe.number) s.open_elems r)
from-flow g fe s (Some block) t l r e =
    let xs : List Open = s.open_elems in
    let before : List Open = opened_before fe.number xs in
    let w : Walk = walk 3 (between fe block s) (begin_walk block s) in
    let loose = block-loose fe.number block xs (after-loose fe.number xs r) e in
    let copies = (walked-loose 3 (between fe block s) (begin_walk block s) (record { loose = tt; listed = l })).loose in
    flow-after g xs before (adopt fe block w s).open_elems (flow-frees g xs before (reach-frees (is_number fe.number) xs r))
    (flow-pushes g (opened_after block.number xs ++ _ ∷ block ∷ w.copies) before
    (loose-append (opened_after block.number xs) _ loose.1 (name-loose fe.tag.name (formatting-loose fe.tag t) _ _, (loose.0, copies))))

open-flow : (g : Ground) (fe : Listed) (s : State) → is_among fe.tag.name (names_of set.FormattingEnd) ≡ true
    → are_formatting s.active_formatting ≡ true → reach (is_number fe.number) s.open_elems ≡ true
    → IsFlow g s.open_elems (adopt_open fe s).state.open_elems
unfolding parse_error
open-flow g fe s t l r = by (current_is (is_number fe.number) s.open_elems) where
  by : (b : Bool) → IsFlow g s.open_elems (adopt_from fe (furthest_block (opened_after fe.number s.open_elems))
      (choose b (λ _. s) (λ _. parse_error s))).state.open_elems
  by true = from-flow g fe s (furthest_block (opened_after fe.number s.open_elems)) t l r refl
  by false = from-flow g fe (parse_error s) (furthest_block (opened_after fe.number s.open_elems)) t l r refl

-- no part has the name
abbrev pub NamesLoose : List ℕ → Type 0
NamesLoose name = (x : Open) → is_named name x ≡ true → IsLoose x

pub names-loose : (name : List ℕ) → is_loose_name name parts ≡ true → NamesLoose name
names-loose name l x h = by x.number x.rules x.namespace x.name h where
  by : (n : ℕ) (rules : Rules) (namespace : Namespace) (own : List ℕ) → named_in namespace own name ≡ true
      → part_of (record { number = n; namespace = namespace; name = own; rules = rules }) ≡ Loose
  by n rules Html own h = rw ((bytes_eq-Decides own name).0 h) (name-loose name l n rules)
  by n rules MathMl own h = no h
  by n rules Svg own h = no h
  by n rules (Other uri) own h = no h

turned-flow : (g : Ground) (o : Option Listed) (name : List ℕ) (s : State)
    → IfSome o (λ fe. is_among fe.tag.name (names_of set.FormattingEnd) ≡ true)
    → IfSome o (λ fe. element_name (data_of s.forest fe.number) ≡ Some (element_name_of Html fe.tag.name))
    → NamesLoose name → are_formatting s.active_formatting ≡ true → Standing s → IsFlow g s.open_elems
    (adopt_listed o name s).state.open_elems
unfolding parse_error names_of mathml_names_of svg_names_of
turned-flow g None name s t k other l is = generic-flow g name s (λ x n l e. absurd (true≢false (sym (loose-true x (other x n)) ∙ l)))
turned-flow g (Some fe) name s t k other l is = flow-if g s.open_elems _
    (λ n. by n (is_open fe.number s.open_elems) (in_scope set.DefaultScope (is_number fe.number) s.open_elems) refl) where
      all : AllOpen (λ x. is_number fe.number x ≡ true → IsLoose x) s.open_elems
      all = named-all s.forest fe.number fe.tag.name k (formatting-loose fe.tag t) s.open_elems is.opened

      by : nested g s.open_elems ≡ true → (a b : Bool) → in_scope set.DefaultScope (is_number fe.number) s.open_elems ≡ b
          → IsFlow g s.open_elems (choose (not a) (λ _. record { state = unlist fe (parse_error s); goes_on = false })
          (λ _. choose (not b) (λ _. record { state = parse_error s; goes_on = false }) (λ _. adopt_open fe s))).state.open_elems
      by n false b e = flow-same g s.open_elems
      by n true false e = flow-same g s.open_elems
      by n true true e = open-flow g fe s t l (scope-reach g set.DefaultScope refl (is_number fe.number) s.open_elems n all e)

turns-flow : (g : Ground) (n : ℕ) (name : List ℕ) (s : State) → NamesLoose name
    → are_formatting s.active_formatting ≡ true → Standing s → IsFlow g s.open_elems (adoption_turns n name s).open_elems
unfolding adoption_turns adoption_turn
turns-flow g zero name s other l is = flow-same g s.open_elems
turns-flow g (suc n) name s other l is =
    let formatting = named-formatting name s.active_formatting l in
    let turned = turned-flow g (last_named name s.active_formatting) name s formatting
    (last-listed s.forest name s.active_formatting is.listed) other l is in
    let tame = turned-tame (last_named name s.active_formatting) name s formatting l in
    flow-either g s.open_elems (adoption_turn name s).goes_on _ _
    (flow-after g s.open_elems (adoption_turn name s).state.open_elems _ turned
    (turns-flow g n name (adoption_turn name s).state other tame.listed (turn-Standing name s is))) turned

popped-flow : (g : Ground) (p : Open → Bool) (xs : List Open) → ((x : Open) → p x ≡ true → IsLoose x)
    → current_is p xs ≡ true → IsFlow g xs (without_current xs)
popped-flow g p [] h e = flow-same g []
popped-flow g p (x ∷ xs) h e = flow-frees g (x ∷ xs) xs (drop x xs xs (h x e) (frees-same xs))

and_left : (a b : Bool) → (a && b) ≡ true → a ≡ true
and_left true b h = refl
and_left false b h = h

pub agency-flow : (g : Ground) (name : List ℕ) (s : State) → NamesLoose name
    → are_formatting s.active_formatting ≡ true → Standing s → IsFlow g s.open_elems (adoption_agency name s).open_elems
unfolding adoption_agency pop
agency-flow g name s other l is =
    by (current_is (is_named name) s.open_elems && not (is_listed (current_number s.open_elems) s.active_formatting)) refl where
      by : (b : Bool) → (current_is (is_named name) s.open_elems
          && not (is_listed (current_number s.open_elems) s.active_formatting)) ≡ b → IsFlow g s.open_elems
          (choose b (λ _. pop s) (λ _. adoption_turns 8 name s)).open_elems
      by true e = popped-flow g (is_named name) s.open_elems other (and_left _ _ e)
      by false e = turns-flow g 8 name s other l is

error-flow : (g : Ground) (s : State) → IsFlow g s.open_elems (parse_error s).open_elems
unfolding parse_error
error-flow g s = flow-same g s.open_elems

misnested-flow : (g : Ground) (o : Option Listed) (s : State)
    → IfSome o (λ fe. is_among fe.tag.name (names_of set.FormattingEnd) ≡ true)
    → IfSome o (λ fe. element_name (data_of s.forest fe.number) ≡ Some (element_name_of Html fe.tag.name))
    → NamesLoose (codes "a") → are_formatting s.active_formatting ≡ true → Standing s → IsFlow g s.open_elems
    (close_misnested o s).open_elems
misnested-flow g None s t k other l is = flow-same g s.open_elems
misnested-flow g (Some a) s t k other l is =
    let erred : State = parse_error s in
    let closed : State = adoption_agency (codes "a") erred in
    let listed = (parse_error-tame s l).listed in
    let one = agency-flow g (codes "a") erred other listed (parse_error-Standing s is) in
    let standing = agency-Standing (codes "a") erred (parse_error-Standing s is) in
    let names = (agency-eased (codes "a") erred listed (parse_error-Standing s is)).names a.number
    (element_name_of Html a.tag.name) ((parse_error-eased s is).names a.number (element_name_of Html a.tag.name) k) in
    flow-after g s.open_elems erred.open_elems _ (error-flow g s)
    (flow-after g erred.open_elems closed.open_elems (remove_from_stack a.number (unlist a closed)).open_elems one
    (removed-flow g a.number a.tag.name (unlist a closed) names (formatting-loose a.tag t) (unlist-Standing a closed standing)))

pub misnested_a-flow : (g : Ground) (s : State) → are_formatting s.active_formatting ≡ true → Standing s
    → IsFlow g s.open_elems (handle_misnested_a_tags s).open_elems
unfolding handle_misnested_a_tags names_of
misnested_a-flow g s l is = misnested-flow g (last_named (codes "a") s.active_formatting) s
    (named-formatting (codes "a") s.active_formatting l)
    (last-listed s.forest (codes "a") s.active_formatting is.listed) (names-loose (codes "a") refl) l is

-- foreign content

html-loose : (x : Open) → is_html_element x ≡ false → IsLoose x
html-loose x h = foreign-loose x h

-- what an end tag in foreign content leaves
abbrev pub LeavesFrees : List Open → ForeignEnd → Type 0
LeavesFrees xs Dropped = Unit {0}
LeavesFrees xs AsInMode = Unit {0}
LeavesFrees xs (Closed left) = Frees xs left

leaves-drop : (x : Open) (xs : List Open) → IsLoose x → (e : ForeignEnd) → LeavesFrees xs e → LeavesFrees (x ∷ xs) e
leaves-drop x xs l Dropped h = tt
leaves-drop x xs l AsInMode h = tt
leaves-drop x xs l (Closed left) h = drop x xs left l h

foreign-frees : (first : Bool) (name : List ℕ) (xs : List Open)
    → (first ≡ true → (x : Open) → (y : Open) (ys : List Open) → xs ≡ x ∷ y ∷ ys → is_html_element x ≡ false)
    → LeavesFrees xs (foreign_end_from first name xs)
foreign-frees first name [] h = tt
foreign-frees first name (x ∷ []) h = tt
foreign-frees first name (x ∷ y ∷ ys) h =
    by first (is_html_element x) (is_named_any_case name x) refl refl (foreign-frees false name (y ∷ ys) (λ e. absurd (true≢false (sym e))))
  where
    by : (a b c : Bool) → first ≡ a → is_html_element x ≡ b → LeavesFrees (y ∷ ys) (foreign_end_from false name (y ∷ ys))
        → LeavesFrees (x ∷ y ∷ ys)
        (choose (not a && b) (λ _. AsInMode) (λ _. choose c (λ _. Closed (y ∷ ys)) (λ _. foreign_end_from false name (y ∷ ys))))
    by false true c ea eb rest = tt
    by true true c ea eb rest = absurd (true≢false (sym eb ∙ h ea x y ys refl))
    by true false true ea eb rest = drop x (y ∷ ys) (y ∷ ys) (html-loose x eb) (frees-same (y ∷ ys))
    by false false true ea eb rest = drop x (y ∷ ys) (y ∷ ys) (html-loose x eb) (frees-same (y ∷ ys))
    by true false false ea eb rest = leaves-drop x (y ∷ ys) (html-loose x eb) _ rest
    by false false false ea eb rest = leaves-drop x (y ∷ ys) (html-loose x eb) _ rest

close_by-flow : (g : Ground) (e : ForeignEnd) (s : State) → LeavesFrees s.open_elems e → IsFlow g s.open_elems
    (close_foreign_by e s).open_elems
close_by-flow g Dropped s h = flow-same g s.open_elems
close_by-flow g AsInMode s h = flow-same g s.open_elems
close_by-flow g (Closed left) s h = flow-frees g s.open_elems left h

pub close_foreign-flow : (g : Ground) (name : List ℕ) (s : State)
    → ((x : Open) (y : Open) (ys : List Open) → s.open_elems ≡ x ∷ y ∷ ys → is_html_element x ≡ false)
    → IsFlow g s.open_elems (close_foreign name s).open_elems
unfolding close_foreign foreign_end
close_foreign-flow g name s h = close_by-flow g (foreign_end_from true name s.open_elems) s (foreign-frees true name s.open_elems (λ _. h))

ends-loose : (x : Open) → ends_foreign x ≡ false → IsLoose x
ends-loose x h = html-loose x (or_false (is_html_element x) _ (or_false (is_html_element x || is_in set.MathmlTextIntegrationPoint x) _ h))

pub pop_foreign-flow : (g : Ground) (s : State) → IsFlow g s.open_elems (pop_foreign s).open_elems
unfolding pop_foreign pop_until_current
pop_foreign-flow g s = flow-frees g s.open_elems _ (from-frees (ends_foreign_in s) (λ x h. ends-loose x (or_false (ends_foreign x) _ h)) s.open_elems)
