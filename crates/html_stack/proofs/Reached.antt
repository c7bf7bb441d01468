-- A listed element is open under the name of its tag, so no open element from a place on is it where none from there on has that name.
use Rattle.std.proofs.Common.{◌≡◌, ◌∙◌, ℕ, zero, suc, ◌<◌, Bool, true, false, List, [], ◌∷◌, ◌++◌, Some, None, Option, length}
use Rattle.std.proofs.Common.{drop, take, get_or, refl, sym, ap, subst, true≢false, eqb-true}
use Rattle.std.specs.Prelude.{◌&&◌, not}
use Rattle.std.specs.List.{list_any}
use Rattle.std.specs.Str.{bytes_eq}
use Rattle.std.proofs.lemmas.List.{get_or_default}
use Rattle.std.proofs.lemmas.Slice.Eq.{bytes_eq-Decides}
use Rattle.markup.specs.Forest.{Forest, data_of, element_name}
use Rattle.markup.specs.Names.{html_namespace}
use Rattle.markup.specs.declared.names.QualName.{QualName}
use Rattle.html_tokens.specs.declared.tags.Tag.{Tag}
use Rattle.html_rules.specs.Adoption.{adopt_from, adopt_listed, adopt_open, adoption_agency, adoption_turn, adoption_turns, between}
use Rattle.html_rules.specs.Adoption.{furthest_block, is_number, opened_after, unlist}
use Rattle.html_rules.specs.Choice.{choose}
use Rattle.html_rules.specs.Formatting.{Listed, is_listed, last_named}
use Rattle.html_rules.specs.Names.{Namespace, Html, MathMl, Svg, Other, element_name_of, mathml_namespace, svg_namespace}
use Rattle.html_rules.specs.Stack.{expect_to_close, finds_generic, generate_implied_end_except, in_scope, is_open, parse_error, pop}
use Rattle.html_rules.specs.Stack.{pop_until, process_end_tag_in_body}
use Rattle.html_rules.specs.State.{Entry, Element, Marker, Open, State, current_is, current_number, is_named, named_in}
use Rattle.html_rules.specs.declared.tag_set.TagSet.TheVariants as set
use Rattle.html_rules_laws.specs.Soundness.{AreListed, AreOpened, IsOwn, Standing}
use Rattle.html_rules_laws.proofs.TreePreserved.AdoptionAgency.{adopt-moved, turn-Standing}
use Rattle.html_rules_laws.proofs.TreePreserved.AdoptionOrder.{opened-left}
use Rattle.html_rules_laws.proofs.TreePreserved.StandingSteps.{parse_error-Standing}
use Rattle.html_stack.specs.Noted.{NoneFrom, known_as, named}
use Rattle.html_stack.specs.Stacks.{entries_of, entry_of, open_of, opens_of}
use Rattle.html_stack.specs.declared.entries.FormatEntry.{FormatEntry}
use Rattle.html_stack.specs.declared.entries.FormatEntry.TheVariants as held
use Rattle.html_stack.specs.declared.entries.OpenElement.{OpenElement}
use Rattle.html_stack.proofs.Agencies.{same-tag}
use Rattle.html_stack.proofs.Newest.{or-both, or-left, or-right, parts, split-at}
use Rattle.html_stack.proofs.Noted.{none-drop}

-- an element whose node is HTML's of a name has that name

space-of : (space : Namespace) (own name : List ℕ) → Some (element_name_of space own) ≡ Some (element_name_of Html name)
    → (element_name_of space own).ns ≡ html_namespace
space-of space own name e = ap ns_of e where
  ns_of : Option QualName → List ℕ
  ns_of None = []
  ns_of (Some q) = q.ns

local-of : (space : Namespace) (own name : List ℕ) → Some (element_name_of space own) ≡ Some (element_name_of Html name) → own ≡ name
local-of space own name e = ap local_of e where
  local_of : Option QualName → List ℕ
  local_of None = []
  local_of (Some q) = q.local

same-bytes : (xs ys : List ℕ) → xs ≡ ys → bytes_eq xs ys ≡ true
same-bytes xs ys e = (bytes_eq-Decides xs ys).1 e

opened-named : (space : Namespace) (own name : List ℕ) → IsOwn space
    → Some (element_name_of space own) ≡ Some (element_name_of Html name) → named_in space own name ≡ true
unfolding html_namespace mathml_namespace svg_namespace
opened-named Html own name is e = same-bytes own name (local-of Html own name e)
opened-named MathMl own name is e = absurd
    (true≢false (sym (same-bytes mathml_namespace html_namespace (space-of MathMl own name e)) ∙ refl))
opened-named Svg own name is e = absurd (true≢false (sym (same-bytes svg_namespace html_namespace (space-of Svg own name e)) ∙ refl))
opened-named (Other uri) own name is e =
    absurd (true≢false (sym (same-bytes uri html_namespace (space-of (Other uri) own name e)) ∙ is))

none-numbered : (f : Forest) (n : ℕ) (name : List ℕ) (xs : List Open) → AreOpened f xs
    → element_name (data_of f n) ≡ Some (element_name_of Html name)
    → list_any (λ x. named_in (known_as x).namespace (known_as x).name name) xs ≡ false → list_any (is_number n) xs ≡ false
none-numbered f n name [] opened e none = refl
none-numbered f n name (x ∷ xs) opened e none =
    let others : list_any (λ y. named_in (known_as y).namespace (known_as y).name name) xs ≡ false =
    or-right (named_in x.namespace x.name name) _ none in
    or-both (is_number n x) (list_any (is_number n) xs)
    (by (is_number n x) refl (or-left (named_in x.namespace x.name name) _ none))
    (none-numbered f n name xs opened.1 e others)
  where
    by : (b : Bool) → is_number n x ≡ b → named_in x.namespace x.name name ≡ false → b ≡ false
    by false same other = refl
    by true same other =
        let here : x.number ≡ n = eqb-true x.number n same in
        let said : Some (element_name_of x.namespace x.name) ≡ Some (element_name_of Html name) =
        sym opened.0.named ∙ ap (λ k. element_name (data_of f k)) here ∙ e in
        absurd (true≢false (sym (opened-named x.namespace x.name name opened.0.own said) ∙ other))

-- no open element from a place on is a node, where none from there on has its name
pub none-beyond : {H : Type 0} (node : H → ℕ) (f : Forest) (n : ℕ) (name : List ℕ) (items : List (OpenElement H)) (m : ℕ)
    → AreOpened f (opens_of node items) → element_name (data_of f n) ≡ Some (element_name_of Html name)
    → NoneFrom (λ x. named_in x.namespace x.name name) (named items) m
    → list_any (is_number n) (opens_of node (drop m items)) ≡ false
none-beyond node f n name items m opened e none =
    none-numbered f n name (opens_of node (drop m items))
    (opened-left f (opens_of node (drop m items)) (opens_of node (take m items))
    (subst (λ xs. AreOpened f xs) (parts (open_of node) items m) opened)) e
    (none-drop node (λ x. named_in x.namespace x.name name) items m none)

-- listed elements

listed-behind : (f : Forest) (newer : List Entry) (entry : Entry) (older : List Entry) → AreListed f (newer ++ entry ∷ older)
    → AreListed f (entry ∷ [])
listed-behind f [] Marker older h = tt
listed-behind f [] (Element n tag) older h = (h.0, tt)
listed-behind f (Marker ∷ newer) entry older h = listed-behind f newer entry older h
listed-behind f (Element n tag ∷ newer) entry older h = listed-behind f newer entry older h.1

-- one of them
pub listed-at : {H : Type 0} (node : H → ℕ) (f : Forest) (items : List (FormatEntry H)) (k : ℕ) (entry : FormatEntry H)
    → AreListed f (entries_of node items) → k < length items → entry ≡ get_or items k entry
    → AreListed f (entry_of node entry ∷ [])
listed-at node f items k entry h less here =
    subst (λ e. AreListed f (entry_of node e ∷ [])) (sym here)
    (listed-behind f (entries_of node (drop (suc k) items)) (entry_of node (get_or items k entry)) (entries_of node (take k items))
    (subst (λ es. AreListed f es) (split-at (entry_of node) items k entry less) h))

-- and its name
pub entry-named : {H : Type 0} (node : H → ℕ) (f : Forest) (entry : FormatEntry H) (handle : H) (tag : Tag)
    → AreListed f (entry_of node entry ∷ []) → entry ≡ held.Element handle tag
    → element_name (data_of f (node handle)) ≡ Some (element_name_of Html tag.name)
entry-named node f entry handle tag h is = (subst (λ e. AreListed f (entry_of node e ∷ [])) is h).0

pub last-listed : (f : Forest) (name : List ℕ) (entries : List Entry) (fe : Listed) → AreListed f entries
    → last_named name entries ≡ Some fe → element_name (data_of f fe.number) ≡ Some (element_name_of Html name)
last-listed f name [] fe h e = absurd cc
last-listed f name (Marker ∷ entries) fe h e = absurd cc
last-listed f name (Element n tag ∷ entries) fe h e = by (bytes_eq tag.name name) refl e (last-listed f name entries fe h.1) where
  by : (b : Bool) → bytes_eq tag.name name ≡ b → choose b (λ _. Some (record { number = n; tag = tag }))
      (λ _. last_named name entries) ≡ Some fe
      → (last_named name entries ≡ Some fe → element_name (data_of f fe.number) ≡ Some (element_name_of Html name))
      → element_name (data_of f fe.number) ≡ Some (element_name_of Html name)
  by true same e go =
      let number : n ≡ fe.number = ap number_of e in
      ap (λ k. element_name (data_of f k)) (sym number) ∙ h.0
      ∙ ap (λ w. Some (element_name_of Html w)) ((bytes_eq-Decides tag.name name).0 same)
    where
      number_of : Option Listed → ℕ
      number_of None = 0
      number_of (Some l) = l.number
  by false same e go = go e

-- the adoption agency keeps the names of nodes

abbrev pub KeepsNamed : State → State → Type 0
KeepsNamed s t = (n : ℕ) (name : QualName) → element_name (data_of s.forest n) ≡ Some name → element_name (data_of t.forest n) ≡ Some name

error-named : (s t : State) → KeepsNamed (parse_error s) t → KeepsNamed s t
unfolding parse_error
error-named s t h = h

told-named : (s : State) → KeepsNamed s (parse_error s)
unfolding parse_error
told-named s = λ n name e. e

choose-named : (s : State) (b : Bool) (x y : State) → KeepsNamed s x → KeepsNamed s y → KeepsNamed s (choose b (λ _. x) (λ _. y))
choose-named s true x y h k = h
choose-named s false x y h k = k

close-named : (p : Open → Bool) (s : State) → KeepsNamed s (expect_to_close p s)
unfolding expect_to_close pop_until parse_error
close-named p s = choose-named s (current_is p s.open_elems) (pop_until p s) (pop_until p (parse_error s)) (λ n name e. e) (λ n name e. e)

generic-named : (name : List ℕ) (s : State) → KeepsNamed s (process_end_tag_in_body name s)
unfolding process_end_tag_in_body generate_implied_end_except
generic-named name s = choose-named s (finds_generic (is_named name) s.open_elems) _ (parse_error s)
    (close-named (is_named name) (generate_implied_end_except (is_named name) s)) (told-named s)

from-named : (fe : Listed) (s : State) (o : Option Open) → Standing s → is_open fe.number s.open_elems ≡ true
    → in_scope set.DefaultScope (is_number fe.number) s.open_elems ≡ true
    → furthest_block (opened_after fe.number s.open_elems) ≡ o → KeepsNamed s (adopt_from fe o s).state
from-named fe s None is there scope e = λ n name h. h
from-named fe s (Some block) is there scope e = (adopt-moved fe block s 3 (between fe block s) is there scope e).names

open-named : (fe : Listed) (s : State) → Standing s → is_open fe.number s.open_elems ≡ true
    → in_scope set.DefaultScope (is_number fe.number) s.open_elems ≡ true → KeepsNamed s (adopt_open fe s).state
unfolding parse_error
open-named fe s is there scope = by (current_is (is_number fe.number) s.open_elems) where
  o : Option Open
  o = furthest_block (opened_after fe.number s.open_elems)

  by : (b : Bool) → KeepsNamed s (adopt_from fe (furthest_block (opened_after fe.number s.open_elems))
      (choose b (λ _. s) (λ _. parse_error s))).state
  by true = from-named fe s o is there scope refl
  by false = from-named fe (parse_error s) o (parse_error-Standing s is) there scope refl

listed-named : (o : Option Listed) (name : List ℕ) (s : State) → Standing s → KeepsNamed s (adopt_listed o name s).state
listed-named None name s is = generic-named name s
listed-named (Some fe) name s is = by (is_open fe.number s.open_elems)
    (in_scope set.DefaultScope (is_number fe.number) s.open_elems) refl refl where
      by : (a b : Bool) → is_open fe.number s.open_elems ≡ a → in_scope set.DefaultScope (is_number fe.number) s.open_elems ≡ b
          → KeepsNamed s (choose (not a) (λ _. record { state = unlist fe (parse_error s); goes_on = false })
          (λ _. choose (not b) (λ _. record { state = parse_error s; goes_on = false }) (λ _. adopt_open fe s))).state
      by false b e k = told-named s
      by true false e k = told-named s
      by true true e k = open-named fe s is e k

turn-named : (name : List ℕ) (s : State) → Standing s → KeepsNamed s (adoption_turn name s).state
unfolding adoption_turn
turn-named name s is = listed-named (last_named name s.active_formatting) name s is

turns-named : (n : ℕ) (name : List ℕ) (s : State) → Standing s → KeepsNamed s (adoption_turns n name s)
unfolding adoption_turns
turns-named zero name s is = λ m q e. e
turns-named (suc n) name s is =
    let turned = turn-named name s is in
    choose-named s (adoption_turn name s).goes_on _ _
    (λ m q e. turns-named n name (adoption_turn name s).state (turn-Standing name s is) m q (turned m q e)) turned

pub agency-named : (name : List ℕ) (s : State) → Standing s → KeepsNamed s (adoption_agency name s)
unfolding adoption_agency pop
agency-named name s is =
    choose-named s (current_is (is_named name) s.open_elems
    && not (is_listed (current_number s.open_elems) s.active_formatting)) _ _ (λ n q e. e) (turns-named 8 name s is)

-- the entry at a place, which is also known as another
pub named-at : {H : Type 0} (node : H → ℕ) (f : Forest) (items : List (FormatEntry H)) (place : ℕ) (handle other : H)
    (tag own : Tag) (entry : FormatEntry H) → AreListed f (entries_of node items) → place < length items
    → get_or items place held.Marker ≡ held.Element handle tag → entry ≡ get_or items place entry → entry ≡ held.Element other own
    → element_name (data_of f (node handle)) ≡ Some (element_name_of Html own.name)
named-at node f items place handle other tag own entry h less there here is =
    let same : entry ≡ held.Element handle tag = here ∙ get_or_default items place entry held.Marker less ∙ there in
    entry-named node f entry handle tag (listed-at node f items place entry h less here) same
    ∙ ap (λ (t : Tag). Some (element_name_of Html t.name)) (same-tag handle other tag own entry same is)
