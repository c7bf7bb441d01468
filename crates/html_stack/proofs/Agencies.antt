-- What turns of the adoption agency come to, case by case, and one after the other.
use Rattle.std.proofs.Common.{◌≡◌, ◌∙◌, ℕ, suc, ◌+◌, ◌<◌, ◌≤◌, Bool, true, false, List, [], ◌∷◌, ◌++◌, length, take, drop}
use Rattle.std.proofs.Common.{get_or, Option, Some, None, Result, Ok, Err, refl, sym, ap, ap₂, subst, arith, codes, add-one, eq-eqb}
use Rattle.std.proofs.Common.{eqb-true, ne_eqb, true≢false}
use Rattle.std.specs.Prelude.{◌&&◌, ◌||◌, nat_eq, not, is_some, slice_range, IfOk, MatchOption, OnErr}
use Rattle.std.specs.List.{list_any}
use Rattle.std.specs.Str.{bytes_eq}
use Rattle.std.proofs.lemmas.List.{get_or-drop}
use Rattle.std.proofs.lemmas.Slice.{between_is}
use Rattle.std.proofs.Math.Seq.{take-length}
use Rattle.markup.specs.Forest.{Forest, add_error, data_of, element_name, node_count}
use Rattle.markup.specs.declared.names.QualName.{QualName}
use Rattle.html_tokens.specs.declared.tags.Tag.{Tag}
use Rattle.html_rules.specs.Adoption.{Turned, adopt_from, adopt_listed, adoption_agency, adoption_turn, adoption_turns}
use Rattle.html_rules.specs.Adoption.{close_misnested, error_if_not_current, furthest_block, go_on, handle_misnested_a_tags}
use Rattle.html_rules.specs.Adoption.{is_number, listed_as, opened_after, opened_before, unlist}
use Rattle.html_rules.specs.Choice.{choose}
use Rattle.html_rules.specs.Formatting.{Listed, is_listed, last_named, stands_for, without_entry}
use Rattle.html_rules.specs.Names.{Html, element_name_of}
use Rattle.html_rules.specs.Stack.{expect_to_close, finds_generic, generate_implied_end_except, in_scope, is_open, parse_error}
use Rattle.html_rules.specs.Stack.{pop, pop_until, process_end_tag_in_body, remove_from_stack, without_current, without_number}
use Rattle.html_rules.specs.State.{Entry, Element, Marker, Open, State, current_is, current_number, is_in, is_named}
use Rattle.html_rules.specs.declared.rules.Rules.{Rules}
use Rattle.html_rules.specs.declared.tag_set.TagSet.TheVariants as set
use Rattle.html_rules_laws.specs.Soundness.{AreListed, IsStanding}
use Rattle.html_rules_laws.proofs.TreePreserved.AdoptionAgency.{turn-Standing}
use Rattle.html_rules_laws.proofs.TreePreserved.StandingSteps.{parse_error-Standing}
use Rattle.html_rules.specs.declared.insertion_mode.InsertionMode.{InsertionMode}
use Rattle.html_stack.specs.Adopting.{IsCurrentNewest, IsTurnOf, came_to, told, turned, with_all}
use Rattle.html_stack.specs.Found.{IsFurthest, IsNewest, older_entries}
use Rattle.html_stack.specs.Stacks.{Stacked, entries_of, entry_of, joined, open_of, opens_of}
use Rattle.html_stack.specs.declared.entries.FormatEntry.{FormatEntry}
use Rattle.html_stack.specs.declared.entries.FormatEntry.TheVariants as held
use Rattle.html_stack.specs.declared.entries.OpenElement.{OpenElement}
use Rattle.html_stack.proofs.Adopted.{after-place}
use Rattle.html_stack.proofs.KeptSteps.{kept-by}
use Rattle.html_stack.proofs.Newest.{split-at}
use Rattle.html_stack.proofs.StackEdits.{scope-at}
use Rattle.html_stack.proofs.States.{some_state}

-- listed elements have the names of their tags, so the last entry with a name is the newest of its element
html_names : (a b : List ℕ) (name : Option QualName) → name ≡ Some (element_name_of Html a) → name ≡ Some (element_name_of Html b) → a ≡ b
html_names a b name e k = ap local_of (sym e ∙ k) where
  local_of : Option QualName → List ℕ
  local_of None = []
  local_of (Some n) = n.local

some-same : (a b : Listed) → Some a ≡ Some b → a ≡ b
some-same a b e = cc

record IsNamed (f : Forest) (name : List ℕ) (fe : Listed) : Type 0 where
  element : element_name (data_of f fe.number) ≡ Some (element_name_of Html fe.tag.name)
  tag : bytes_eq fe.tag.name name ≡ true

found-named : (f : Forest) (name : List ℕ) (entries : List Entry) (fe : Listed) → AreListed f entries
    → last_named name entries ≡ Some fe → IsNamed f name fe
found-named f name [] fe h e = absurd cc
found-named f name (Marker ∷ entries) fe h e = absurd cc
found-named f name (Element n tag ∷ entries) fe h e = by (bytes_eq tag.name name) refl e (found-named f name entries fe h.1) where
  by : (b : Bool) → bytes_eq tag.name name ≡ b → choose b (λ _. Some (record { number = n; tag = tag }))
      (λ _. last_named name entries) ≡ Some fe → (last_named name entries ≡ Some fe → IsNamed f name fe) → IsNamed f name fe
  by true same e go = subst (λ v. IsNamed f name v) (some-same (record { number = n; tag = tag }) fe e)
      (record { element = h.0; tag = same })
  by false same e go = go e

pub named-newest : (f : Forest) (name : List ℕ) (entries : List Entry) (fe : Listed) → AreListed f entries
    → last_named name entries ≡ Some fe → listed_as fe.number entries ≡ Some fe
named-newest f name [] fe h e = absurd cc
named-newest f name (Marker ∷ entries) fe h e = absurd cc
named-newest f name (Element n tag ∷ entries) fe h e = by (bytes_eq tag.name name) refl e (named-newest f name entries fe h.1) where
  by : (b : Bool) → bytes_eq tag.name name ≡ b → choose b (λ _. Some (record { number = n; tag = tag }))
      (λ _. last_named name entries) ≡ Some fe → (last_named name entries ≡ Some fe → listed_as fe.number entries ≡ Some fe)
      → listed_as fe.number (Element n tag ∷ entries) ≡ Some fe
  by true same e go = subst (λ (v : Listed). listed_as v.number (Element n tag ∷ entries) ≡ Some v)
      (some-same (record { number = n; tag = tag }) fe e) (rw (eq-eqb n n refl) refl)
  by false same e go =
      let is = found-named f name entries fe h.1 e in
      let differs : nat_eq n fe.number ≡ false = ne_eqb n fe.number
      (λ k. true≢false (sym is.tag ∙ ap (λ a. bytes_eq a name)
      (sym (html_names tag.name fe.tag.name (element_name (data_of f n)) h.0
      (ap (λ m. element_name (data_of f m)) k ∙ is.element))) ∙ same)) in
      rw differs (go e)

-- what a turn comes to

-- the state with an error, unless the formatting element is the current node
told-state : (fe : Listed) (s : State) (f : Forest) (xs : List Open) (entries : List Entry)
    → with_all s (told fe.number xs f) xs entries ≡ error_if_not_current fe (with_all s f xs entries)
unfolding parse_error
told-state fe s f xs entries = by (current_is (is_number fe.number) xs) where
  by : (b : Bool) → with_all s (choose b (λ _. f) (λ _. add_error f)) xs entries ≡ choose b
      (λ _. with_all s f xs entries) (λ _. parse_error (with_all s f xs entries))
  by true = refl
  by false = refl

pub turn-closed : (foster : Bool) (rules : Rules) (f : Forest) (xs : List Open) (entries : List Entry) (fe : Listed)
    → listed_as fe.number entries ≡ Some fe → is_open fe.number xs ≡ false
    → IsTurnOf foster rules fe.number false f xs entries (add_error f) xs (without_entry fe.number entries)
unfolding parse_error
turn-closed foster rules f xs entries fe listed closed name s on by = rw (listed, closed) refl

pub turn-bounded : (foster : Bool) (rules : Rules) (f : Forest) (xs : List Open) (entries : List Entry) (fe : Listed)
    → listed_as fe.number entries ≡ Some fe → is_open fe.number xs ≡ true → in_scope set.DefaultScope (is_number fe.number) xs ≡ false
    → IsTurnOf foster rules fe.number false f xs entries (add_error f) xs entries
unfolding parse_error
turn-bounded foster rules f xs entries fe listed there scope name s on by = rw (listed, there, scope) refl

-- an element that is open, and in scope
turn-open : (fe : Listed) (f : Forest) (xs : List Open) (entries : List Entry) (name : List ℕ) (s : State)
    → listed_as fe.number entries ≡ Some fe → is_open fe.number xs ≡ true → in_scope set.DefaultScope (is_number fe.number) xs ≡ true
    → adopt_listed (listed_as fe.number entries) name (with_all s f xs entries) ≡ adopt_from fe
    (furthest_block (opened_after fe.number xs)) (with_all s (told fe.number xs f) xs entries)
turn-open fe f xs entries name s listed there scope = rw (listed, there, scope)
    (ap (adopt_from fe (furthest_block (opened_after fe.number xs))) (sym (told-state fe s f xs entries)))

pub turn-cut : (foster : Bool) (rules : Rules) (f : Forest) (xs ys : List Open) (entries : List Entry) (fe : Listed)
    → listed_as fe.number entries ≡ Some fe → is_open fe.number xs ≡ true → in_scope set.DefaultScope (is_number fe.number) xs ≡ true
    → furthest_block (opened_after fe.number xs) ≡ None → ys ≡ opened_before fe.number xs
    → IsTurnOf foster rules fe.number false f xs entries (told fe.number xs f) ys (without_entry fe.number entries)
turn-cut foster rules f xs ys entries fe listed there scope none left name s on by =
    ap (λ zs. came_to false (with_all s (told fe.number xs f) zs (without_entry fe.number entries))) left
    ∙ sym (turn-open fe f xs entries name s listed there scope
    ∙ ap (λ o. adopt_from fe o (with_all s (told fe.number xs f) xs entries)) none)

pub turn-adopt : (foster : Bool) (rules : Rules) (f g : Forest) (xs ys : List Open) (entries others : List Entry) (fe : Listed)
    (block : Open) → listed_as fe.number entries ≡ Some fe → is_open fe.number xs ≡ true → in_scope set.DefaultScope
    (is_number fe.number) xs ≡ true
    → furthest_block (opened_after fe.number xs) ≡ Some block
    → ((s : State) → s.foster_parenting ≡ foster → s.opts.rules ≡ rules → with_all s g ys others ≡ turned (with_all s (told fe.number xs f) xs entries) fe block)
    → IsTurnOf foster rules fe.number true f xs entries g ys others
turn-adopt foster rules f g xs ys entries others fe block listed there scope some made name s on by =
    ap (came_to true) (made s on by)
    ∙ sym (turn-open fe f xs entries name s listed there scope
    ∙ ap (λ o. adopt_from fe o (with_all s (told fe.number xs f) xs entries)) some)

-- what is found on the stack

-- an element of a list that is not empty
pub any-of : {X : Type 0} (xs : List X) (i : ℕ) → i < length xs → X
any-of [] i less = absurd (omega arith)
any-of (x ∷ xs) i less = x

-- entries of one place have one tag
pub same-tag : {H : Type 0} (a b : H) (t u : Tag) (x : FormatEntry H) → x ≡ held.Element a t → x ≡ held.Element b u → t ≡ u
same-tag {H} a b t u x e k = ap (tag_or t) (sym e ∙ k) where
  tag_or : Tag → FormatEntry H → Tag
  tag_or t (held.Element h u) = u
  tag_or t held.Marker = t

-- those after a place
pub rest-is : {X : Type 0} (xs ys : List X) (i : ℕ) → ys ≡ xs → slice_range ys i (length ys) ≡ drop i xs
rest-is xs ys i e = between_is ys i (length ys) ∙ ap (drop i) (take-length ys ∙ e)

pub scope-place : {H : Type 0} (node : H → ℕ) (n : ℕ) (xs later : List (OpenElement H)) (i : ℕ) (d : OpenElement H)
    → IsNewest (open_of node) (is_number n) xs i → later ≡ drop (i + 1) xs
    → in_scope set.DefaultScope (is_number n) (opens_of node xs) ≡ not (list_any (is_in set.DefaultScope) (opens_of node later))
scope-place node n xs later i d is e =
    ap (in_scope set.DefaultScope (is_number n)) (split-at (open_of node) xs i d is.within)
    ∙ scope-at n set.DefaultScope (opens_of node (drop (suc i) xs)) (open_of node (get_or xs i d))
    (opens_of node (take i xs)) is.newer (is.here d)
    ∙ ap (λ k. not (list_any (is_in set.DefaultScope) (opens_of node (drop k xs)))) (sym (add-one i))
    ∙ ap (λ zs. not (list_any (is_in set.DefaultScope) (opens_of node zs))) (sym e)

pub after-is : {H : Type 0} (node : H → ℕ) (n : ℕ) (xs later : List (OpenElement H)) (i : ℕ) (d : OpenElement H)
    → IsNewest (open_of node) (is_number n) xs i → later ≡ drop (i + 1) xs → opened_after n (opens_of node xs) ≡ opens_of node later
after-is node n xs later i d is e = after-place node n xs i d is ∙ ap (λ k. opens_of node (drop k xs))
    (sym (add-one i)) ∙ ap (λ zs. opens_of node zs) (sym e)

pub block-place : {H : Type 0} (node : H → ℕ) (n : ℕ) (xs later : List (OpenElement H)) (i j : ℕ)
    (d : OpenElement H) → IsNewest (open_of node) (is_number n) xs i → later ≡ drop (i + 1) xs → IsFurthest node later j
    → furthest_block (opened_after n (opens_of node xs)) ≡ Some (open_of node (get_or xs (i + 1 + j) d))
block-place node n xs later i j d is e far =
    ap furthest_block (after-is node n xs later i d is e)
    ∙ far.block d
    ∙ ap (λ zs. Some (open_of node (get_or zs j d))) e
    ∙ ap (λ x. Some (open_of node x)) (get_or-drop (i + 1) xs j d)

-- an element is there under its own number
pub number-place : {H : Type 0} (node : H → ℕ) (n : ℕ) (xs : List (OpenElement H)) (i : ℕ) (d : OpenElement H)
    → IsNewest (open_of node) (is_number n) xs i → node (get_or xs i d).handle ≡ n
number-place node n xs i d is = eqb-true (node (get_or xs i d).handle) n (is.here d)

-- what stands with an error more

pub error-stands : (f : Forest) (xs : List Open) (entries : List Entry) → IsStanding f xs entries → IsStanding (add_error f) xs entries
unfolding parse_error
error-stands f xs entries is = parse_error-Standing (with_all (some_state false) f xs entries) is

pub told-stands : (n : ℕ) (f : Forest) (xs : List Open) (entries : List Entry) → IsStanding f xs entries
    → IsStanding (told n xs f) xs entries
told-stands n f xs entries is = by (current_is (is_number n) xs) where
  by : (b : Bool) → IsStanding (choose b (λ _. f) (λ _. add_error f)) xs entries
  by true = is
  by false = error-stands f xs entries is

-- turns

-- a turn with the entry of an element is a turn for its name
pub turn-named : (foster : Bool) (name : List ℕ) (goes_on : Bool) (old new : Stacked) (f g : Forest) (fe : Listed)
    → last_named name old.active_formatting ≡ Some fe → listed_as fe.number old.active_formatting ≡ Some fe
    → new.template_modes ≡ old.template_modes → new.rules ≡ old.rules → IsTurnOf foster old.rules fe.number goes_on f old.open_elems
    old.active_formatting g new.open_elems new.active_formatting
    → (s : State) → s.foster_parenting ≡ foster → came_to goes_on (joined s new g) ≡ adoption_turn name (joined s old f)
unfolding adoption_turn
turn-named foster name goes_on old new f g fe found newest same by turn s on =
    ap₂ (λ modes rules. came_to goes_on (joined s (record new { template_modes = modes; rules = rules }) g)) same by
    ∙ turn name (record s { template_modes = old.template_modes; opts = record s.opts { rules = old.rules } }) on refl
    ∙ ap (λ o. adopt_listed o name (joined s old f)) (newest ∙ sym found)

pub turn-unnamed : (name : List ℕ) (s : State) (old : Stacked) (f : Forest) (t : State)
    → last_named name old.active_formatting ≡ None → t ≡ process_end_tag_in_body name (joined s old f)
    → came_to false t ≡ adoption_turn name (joined s old f)
unfolding adoption_turn
turn-unnamed name s old f t none made = ap (came_to false) made ∙ sym (ap (λ o. adopt_listed o name (joined s old f)) none)

-- such a turn makes no nodes
count-choose : (b : Bool) (n : ℕ) (x y : State) → node_count x.forest ≡ n → node_count y.forest ≡ n
    → node_count (choose b (λ _. x) (λ _. y)).forest ≡ n
count-choose true n x y h k = h
count-choose false n x y h k = k

count-error : (s : State) → node_count (parse_error s).forest ≡ node_count s.forest
unfolding parse_error
count-error s = refl

count-close : (p : Open → Bool) (s : State) → node_count (expect_to_close p s).forest ≡ node_count s.forest
unfolding expect_to_close pop_until parse_error
count-close p s = count-choose (current_is p s.open_elems) (node_count s.forest) (pop_until p s) (pop_until p (parse_error s)) refl refl

pub count-unnamed : (name : List ℕ) (s : State) → node_count (process_end_tag_in_body name s).forest ≡ node_count s.forest
unfolding process_end_tag_in_body generate_implied_end_except
count-unnamed name s = count-choose (finds_generic (is_named name) s.open_elems) (node_count s.forest) _
    (parse_error s) (count-close (is_named name) (generate_implied_end_except (is_named name) s)) (count-error s)

-- one turn is taken of those that are left
pub turns-on : (n : ℕ) (name : List ℕ) (s t : State) → came_to true t ≡ adoption_turn name s
    → adoption_turns n name t ≡ adoption_turns (suc n) name s
unfolding adoption_turns
turns-on n name s t e = ap (λ (r : Turned). go_on r (adoption_turns n name)) e

pub turns-end : (n : ℕ) (name : List ℕ) (s t : State) → came_to false t ≡ adoption_turn name s → t ≡ adoption_turns (suc n) name s
unfolding adoption_turns
turns-end n name s t e = ap (λ (r : Turned). go_on r (adoption_turns n name)) e

pub turns-none : (name : List ℕ) (s : State) → adoption_turns 0 name s ≡ s
unfolding adoption_turns
turns-none name s = refl

-- after one turn the open elements stand
pub turned-kept : {E : Type 0} (name : List ℕ) (foster : Bool) (old new : Stacked) (f g : Forest) (r : Result Bool E)
    → IfOk r (λ goes_on. (s : State) → s.foster_parenting ≡ foster → came_to goes_on (joined s new g) ≡ adoption_turn name (joined s old f))
    → OnErr r (IsStanding g new.open_elems new.active_formatting)
    → IsStanding f old.open_elems old.active_formatting → IsStanding g new.open_elems new.active_formatting
turned-kept name foster old new f g (Ok goes_on) step kept is = kept-by (λ s. (adoption_turn name s).state)
    (turn-Standing name) foster old new f g (λ s on. ap (λ (r : Turned). r.state) (step s on)) is
turned-kept name foster old new f g (Err fault) step kept is = kept

-- whether an element is listed, as a walk over the list says
listed-here : (n : ℕ) (newer : List Entry) (entry : Entry) (older : List Entry) → stands_for n entry ≡ true
    → is_listed n (newer ++ entry ∷ older) ≡ true
listed-here n [] entry older here = rw here refl
listed-here n (e ∷ newer) entry older here = rw (listed-here n newer entry older here) (or-true (stands_for n e)) where
  or-true : (b : Bool) → (b || true) ≡ true
  or-true true = refl
  or-true false = refl

pub unlisted-by : {H : Type 0} (node : H → ℕ) (n : ℕ) (items : List (FormatEntry H)) (o : Option ℕ) (b : Bool) → is_some o ≡ not b
    → MatchOption o (is_listed n (entries_of node items) ≡ false) (IsNewest (entry_of node) (stands_for n) items)
    → b ≡ not (is_listed n (entries_of node items))
unlisted-by node n items None true e h = ap not (sym h)
unlisted-by node n items None false e h = absurd cc
unlisted-by node n items (Some i) true e h = absurd cc
unlisted-by node n items (Some i) false e h =
    ap not (sym (ap (is_listed n) (split-at (entry_of node) items i held.Marker h.within)
    ∙ listed-here n (entries_of node (drop (suc i) items)) (entry_of node (get_or items i held.Marker))
    (entries_of node (take i items)) (h.here held.Marker)))

-- the agency, and the `a` that it ends

pub agency-popped : (name : List ℕ) (s : State) (old new : Stacked) (f g : Forest)
    → true ≡ (current_is (is_named name) old.open_elems && not (is_listed (current_number old.open_elems) old.active_formatting))
    → new ≡ record old { open_elems = without_current old.open_elems } → g ≡ f → joined s new g ≡ adoption_agency name (joined s old f)
unfolding adoption_agency pop
agency-popped name s old new f g found left same = rw (left, same, ← found) refl

pub agency-turns : (name : List ℕ) (s : State)
    → false ≡ (current_is (is_named name) s.open_elems
    && not (is_listed (current_number s.open_elems) s.active_formatting)) → adoption_turns 8 name s ≡ adoption_agency name s
unfolding adoption_agency
agency-turns name s found = rw (← found) refl

-- the element of the newest entry is the current node: both leave
turn-newest : (name : List ℕ) (s : State) (f : Forest) (x : Open) (xs : List Open) (tag : Tag) (entries : List Entry)
    (modes : List InsertionMode) (rules : Rules) → bytes_eq tag.name name ≡ true → nat_eq x.number x.number ≡ true
    → came_to false (joined s (record { open_elems = xs; active_formatting = entries; template_modes = modes; rules = rules }) f) ≡ adoption_turn name
    (joined s (record { open_elems = x ∷ xs; active_formatting = Element x.number tag ∷ entries; template_modes = modes; rules = rules }) f)
unfolding adoption_turn
turn-newest name s f x xs tag entries modes rules named same = rw (named, same, same) refl

agency-newest : (name : List ℕ) (s : State) (f : Forest) (x : Open) (xs : List Open) (tag : Tag) (entries : List Entry)
    (modes : List InsertionMode) (rules : Rules) → bytes_eq tag.name name ≡ true
    → joined s (record { open_elems = xs; active_formatting = entries; template_modes = modes; rules = rules }) f ≡ adoption_agency name
    (joined s (record { open_elems = x ∷ xs; active_formatting = Element x.number tag ∷ entries; template_modes = modes; rules = rules }) f)
agency-newest name s f x xs tag entries modes rules named =
    let old : Stacked = record { open_elems = x ∷ xs; active_formatting = Element x.number tag ∷ entries; template_modes = modes; rules = rules } in
    let before : State = joined s old f in
    let same : nat_eq x.number x.number ≡ true = eq-eqb x.number x.number refl in
    let listed : false ≡ (current_is (is_named name) (x ∷ xs)
    && not (is_listed x.number (Element x.number tag ∷ entries))) = rw same (sym (and-false (is_named name x))) in
    turns-end 7 name before (joined s (record { open_elems = xs; active_formatting = entries; template_modes = modes; rules = rules }) f)
    (turn-newest name s f x xs tag entries modes rules named same)
    ∙ agency-turns name before listed
  where
    and-false : (b : Bool) → (b && false) ≡ false
    and-false true = refl
    and-false false = refl

pub agency-current : (name : List ℕ) (s : State) (f : Forest) (old : Stacked) → IsCurrentNewest name old.open_elems old.active_formatting
    → joined s (record old {
      open_elems = without_current old.open_elems;
      active_formatting = older_entries old.active_formatting;
    }) f ≡ adoption_agency name (joined s old f)
agency-current name s f old is = by old.open_elems old.active_formatting old.template_modes old.rules is where
  by : (xs : List Open) (entries : List Entry) (modes : List InsertionMode) (rules : Rules) → IsCurrentNewest name xs entries
      → joined s (record {
        open_elems = without_current xs;
        active_formatting = older_entries entries;
        template_modes = modes;
        rules = rules;
      }) f ≡ adoption_agency name (joined s (record { open_elems = xs; active_formatting = entries; template_modes = modes; rules = rules }) f)
  by [] entries modes rules is = absurd is
  by (x ∷ xs) [] modes rules is = absurd is
  by (x ∷ xs) (Marker ∷ entries) modes rules is = absurd is
  by (x ∷ xs) (Element n tag ∷ entries) modes rules is =
      subst (λ m. joined s (record { open_elems = xs; active_formatting = entries; template_modes = modes; rules = rules }) f ≡ adoption_agency name
      (joined s (record { open_elems = x ∷ xs; active_formatting = Element m tag ∷ entries; template_modes = modes; rules = rules }) f))
      (sym is.0) (agency-newest name s f x xs tag entries modes rules is.1)

pub misnested-none : (s : State) → last_named (codes "a") s.active_formatting ≡ None → s ≡ handle_misnested_a_tags s
unfolding handle_misnested_a_tags
misnested-none s none = rw none refl

pub misnested-ended : (s : State) (old mid new : Stacked) (f e g : Forest) (a : Listed)
    → last_named (codes "a") old.active_formatting ≡ Some a → e ≡ add_error f → joined s mid g ≡ adoption_agency
    (codes "a") (joined s old e)
    → new ≡ record mid {
      active_formatting = without_entry a.number mid.active_formatting;
      open_elems = without_number a.number mid.open_elems;
    } → joined s new g ≡ handle_misnested_a_tags (joined s old f)
unfolding handle_misnested_a_tags remove_from_stack parse_error
misnested-ended s old mid new f e g a found error ended left =
    ap (λ v. joined s v g) left
    ∙ ap (λ t. remove_from_stack a.number (unlist a t)) (ended ∙ ap (λ h. adoption_agency (codes "a") (joined s old h)) error)
    ∙ sym (ap (λ o. close_misnested o (joined s old f)) found)

-- an error more leaves the nodes
pub told-grows : (n : ℕ) (xs : List Open) (f g : Forest) → g ≡ told n xs f → node_count f ≤ node_count g
told-grows n xs f g e = by (current_is (is_number n) xs) e where
  by : (b : Bool) → g ≡ choose b (λ _. f) (λ _. add_error f) → node_count f ≤ node_count g
  by true e = let same = ap node_count e in omega arith
  by false e = let same = ap node_count e in omega arith

pub told-grows-on : (n : ℕ) (xs : List Open) (f g h : Forest) → g ≡ told n xs f → node_count g ≤ node_count h → node_count f ≤ node_count h
told-grows-on n xs f g h e more = let first = told-grows n xs f g e in omega arith
