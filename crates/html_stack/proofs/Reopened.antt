-- Listed elements that are opened again, one by one.
use Rattle.std.proofs.Common.{◌≡◌, ◌∙◌, ℕ, suc, ◌+◌, ◌<◌, ◌≤◌, Bool, true, false, not, List, [], ◌∷◌, ◌++◌, length, take, drop}
use Rattle.std.proofs.Common.{get_or, map, reverse, Option, Some, None, MatchOption, is_some, true≢false, refl, sym, ap, ap₂}
use Rattle.std.proofs.Common.{subst, arith, set, add-one, append_assoc, length-append, length-take-le}
use Rattle.std.specs.Prelude.{◌&&◌}
use Rattle.std.specs.List.{list_all}
use Rattle.std.proofs.lemmas.Bool.{and_parts}
use Rattle.std.proofs.Math.Seq.{drop-cons}
use Rattle.std.proofs.lemmas.Grind.{reverse_onto}
use Rattle.std.proofs.lemmas.List.{drop-set-lt, get_or-set_same, length-map, length-reverse, length-set, nil_from_length, take-set}
use Rattle.markup.specs.Forest.{Forest, data_of, element_name, node_count}
use Rattle.html_tokens.specs.declared.tags.Tag.{Tag}
use Rattle.html_rules.specs.Adoption.{is_number}
use Rattle.html_rules.specs.Formatting.{list_current, reopen}
use Rattle.html_rules.specs.Names.{Html, element_name_of}
use Rattle.html_rules.specs.Places.{insert_element, insert_element_for}
use Rattle.html_rules_laws.specs.Soundness.{AreListed, AreOpened, IsStanding}
use Rattle.html_rules.specs.Stack.{is_open}
use Rattle.html_rules.specs.State.{Entry, Element, Marker, Open, State}
use Rattle.html_stack.specs.Found.{IsNewest, IsTagAt, renamed}
use Rattle.html_stack.specs.Reopening.{HasEntry, IsAgain, IsSaidAt, IsDivided, IsSettled, waits}
use Rattle.html_stack.specs.Stacks.{Stacked, entries_of, entry_of, joined, open_of, opens_of}
use Rattle.html_stack.specs.declared.entries.OpenElement.{OpenElement}
use Rattle.html_stack.specs.declared.entries.FormatEntry.{FormatEntry}
use Rattle.html_stack.specs.declared.entries.FormatEntry.TheVariants as held
use Rattle.html_stack.proofs.Kept.{with_entries}
use Rattle.html_stack.proofs.Newest.{parts, split-at}
use Rattle.html_stack.proofs.StackEdits.{newest-open}
use Rattle.html_stack.proofs.States.{some_state}

-- lists are split in one way, where what is after is as long
same-split : {X : Type 0} (xs ys : List X) (x y : X) (xs' ys' : List X) → length xs' ≡ length ys' → xs ++ x ∷
    xs' ≡ ys ++ y ∷ ys' → (xs ≡ ys) × (x ≡ y) × (xs' ≡ ys')
same-split [] [] x y xs' ys' l e = (refl, head-is e, tail-is e) where
  head-is : x ∷ xs' ≡ y ∷ ys' → x ≡ y
  head-is e = cc

  tail-is : x ∷ xs' ≡ y ∷ ys' → xs' ≡ ys'
  tail-is e = cc
same-split [] (z ∷ ys) x y xs' ys' l e = absurd (let size = ap length e in let more = length-append ys (y ∷ ys') in omega arith)
same-split (z ∷ xs) [] x y xs' ys' l e = absurd (let size = ap length e in let more = length-append xs (x ∷ xs') in omega arith)
same-split (z ∷ xs) (w ∷ ys) x y xs' ys' l e =
    let rest = same-split xs ys x y xs' ys' l (tail-is e) in (ap₂ (λ a bs. a ∷ bs) (head-is e) rest.0, rest.1, rest.2)
  where
    head-is : z ∷ (xs ++ x ∷ xs') ≡ w ∷ (ys ++ y ∷ ys') → z ≡ w
    head-is e = cc

    tail-is : z ∷ (xs ++ x ∷ xs') ≡ w ∷ (ys ++ y ∷ ys') → xs ++ x ∷ xs' ≡ ys ++ y ∷ ys'
    tail-is e = cc

not-not : (a b : Bool) → a ≡ not b → b ≡ not a
not-not true true e = absurd (true≢false e)
not-not true false e = refl
not-not false true e = refl
not-not false false e = absurd (true≢false (sym e))

-- whether a node was not found among the open elements
pub waits-by : {H : Type 0} (node : H → ℕ) (n : ℕ) (xs : List (OpenElement H)) (o : Option ℕ) (b : Bool)
    → is_some o ≡ not b → MatchOption o (is_open n (opens_of node xs) ≡ false)
    (IsNewest (open_of node) (is_number n) xs) → b ≡ not (is_open n (opens_of node xs))
waits-by node n xs None b e h = not-not false b e ∙ sym (ap not h)
waits-by node n xs (Some i) b e h = not-not true b e ∙ sym (ap not (newest-open node n xs i h))

pub count-entries : {H : Type 0} (node : H → ℕ) (items : List (FormatEntry H)) → length (entries_of node items) ≡ length items
count-entries node items = length-reverse (map (entry_of node) items) ∙ length-map items (entry_of node)

-- the entries at both sides of a place
pub divided : {H : Type 0} (node : H → ℕ) (xs : List Open) (items : List (FormatEntry H)) (i : ℕ) → i ≤ length items
    → list_all (waits xs) (entries_of node (drop i items)) ≡ true → IsSettled xs (entries_of node (take i items))
    → IsDivided xs (entries_of node items) i
divided node xs items i within wait stay = record {
  waiting = entries_of node (drop i items);
  settled = entries_of node (take i items);
  parts = parts (entry_of node) items i;
  size = length-reverse (map (entry_of node) (take i items)) ∙ length-map (take i items) (entry_of node) ∙ length-take-le i items within;
  wait = wait;
  stay = stay;
}

-- where the newest entry stays, all do
pub all-settled : (xs : List Open) (entries : List Entry) (count : ℕ) → count ≡ length entries → IsSettled xs entries
    → IsDivided xs entries count
all-settled xs entries count e stay = record {
  waiting = [];
  settled = entries;
  parts = refl;
  size = sym e;
  wait = refl;
  stay = stay;
}

-- entries as they lie, by those that are newer and older than one of them
pub at-place : {H : Type 0} (node : H → ℕ) (items : List (FormatEntry H)) (place : ℕ) (newer older : List Entry)
    (n : ℕ) (tag : Tag) → entries_of node items ≡ newer ++ Element n tag ∷ older → length older ≡ place → place < length items
    → (entries_of node (drop (suc place) items) ≡ newer)
    × (entry_of node (get_or items place held.Marker) ≡ Element n tag) × (entries_of node (take place items) ≡ older)
at-place node items place newer older n tag e size less =
    let split = split-at (entry_of node) items place held.Marker less in
    let older' : List Entry = entries_of node (take place items) in
    let newer' : List Entry = entries_of node (drop (suc place) items) in
    let size' : length older' ≡ place = length-reverse (map (entry_of node) (take place items))
    ∙ length-map (take place items) (entry_of node) ∙ length-take-le place items (omega arith) in
    let both = same-split newer' newer (entry_of node (get_or items place held.Marker)) (Element n tag) older' older
    (size' ∙ sym size) (sym split ∙ e) in
    (both.0, both.1, both.2)

-- an entry is renamed
pub renamed-at : {H : Type 0} (node : H → ℕ) (items : List (FormatEntry H)) (place : ℕ) (element : H)
    (newer older : List Entry) (n : ℕ) (tag : Tag) → entries_of node items ≡ newer ++ Element n tag ∷ older
    → length older ≡ place → place < length items
    → entries_of node (set items place (renamed element (get_or items place held.Marker))) ≡ newer ++ Element (node element) tag ∷ older
renamed-at node items place element newer older n tag e size less =
    let p = at-place node items place newer older n tag e size less in
    let x = renamed element (get_or items place held.Marker) in
    split-at (entry_of node) (set items place x) place held.Marker (omega (arith, length-set items place x))
    ∙ ap (λ ys. reverse (map (entry_of node) ys) ++ entry_of node (get_or (set items place x) place held.Marker) ∷
    entries_of node (take place (set items place x))) (drop-set-lt (suc place) items place x (omega arith))
    ∙ ap (λ y. entries_of node (drop (suc place) items) ++ entry_of node y ∷
    entries_of node (take place (set items place x))) (get_or-set_same items place x held.Marker less)
    ∙ ap (λ ys. entries_of node (drop (suc place) items) ++ entry_of node x ∷ entries_of node ys) (take-set items place x)
    ∙ ap (λ ys. ys ++ entry_of node x ∷ entries_of node (take place items)) p.0
    ∙ ap (λ ys. newer ++ entry_of node x ∷ ys) p.2
    ∙ ap (λ y. newer ++ y ∷ older) (renamed-entry node element (get_or items place held.Marker) n tag p.1)
  where
    renamed-entry : {H : Type 0} (node : H → ℕ) (element : H) (x : FormatEntry H) (n : ℕ) (tag : Tag)
        → entry_of node x ≡ Element n tag → entry_of node (renamed element x) ≡ Element (node element) tag
    renamed-entry node element held.Marker n tag e = absurd cc
    renamed-entry node element (held.Element handle other) n tag e = ap (λ t. Element (node element) t) (tag-is e) where
      tag-is : Element (node handle) other ≡ Element n tag → other ≡ tag
      tag-is e = cc

-- what inserting for a tag leaves as it is, and the new element
pub inserted-entries : (tag : Tag) (foster : Bool) (old mid : Stacked) (f g : Forest)
    → ((s : State) → s.foster_parenting ≡ foster → joined s mid g ≡ insert_element_for tag (joined s old f))
    → mid.active_formatting ≡ old.active_formatting
unfolding insert_element
inserted-entries tag foster old mid f g step = ap (λ (t : State). t.active_formatting) (step (some_state foster) refl)

pub inserted-named : (tag : Tag) (foster : Bool) (old mid : Stacked) (f g : Forest)
    → ((s : State) → s.foster_parenting ≡ foster → joined s mid g ≡ insert_element_for tag (joined s old f))
    → AreOpened g mid.open_elems → element_name (data_of g (node_count f)) ≡ Some (element_name_of Html tag.name)
unfolding insert_element
inserted-named tag foster old mid f g step h =
    let first = subst (λ xs. AreOpened g xs) (ap (λ (t : State). t.open_elems) (step (some_state foster) refl)) h in
    first.0.named

pub again-kept : (tag : Tag) (foster : Bool) (old mid : Stacked) (f g : Forest) (newer older : List Entry) (n : ℕ)
    → ((s : State) → s.foster_parenting ≡ foster → joined s mid g ≡ insert_element_for tag (joined s old f))
    → IsStanding g mid.open_elems mid.active_formatting
    → old.active_formatting ≡ newer ++ Element n tag ∷ older → IsStanding g mid.open_elems (newer ++ Element (node_count f) tag ∷ older)
again-kept tag foster old mid f g newer older n step is e =
    let listed = subst (λ es. AreListed g es) (inserted-entries tag foster old mid f g step ∙ e) is.listed in
    with_entries g mid.open_elems mid.active_formatting (newer ++ Element (node_count f) tag ∷ older) is (replaced newer listed)
  where
    replaced : (newer : List Entry) → AreListed g (newer ++ Element n tag ∷ older)
        → AreListed g (newer ++ Element (node_count f) tag ∷ older)
    replaced [] h = (inserted-named tag foster old mid f g step is.opened, h.1)
    replaced (Marker ∷ newer) h = replaced newer h
    replaced (Element m other ∷ newer) h = (h.0, replaced newer h.1)

pub again-step : (tag : Tag) (foster : Bool) (old mid new : Stacked) (f g : Forest) (newer older : List Entry)
    → ((s : State) → s.foster_parenting ≡ foster → joined s mid g ≡ insert_element_for tag (joined s old f))
    → new ≡ record mid { active_formatting = newer ++ Element (node_count f) tag ∷ older } → IsAgain foster old new f g newer tag older
unfolding insert_element
again-step tag foster old mid new f g newer older step e = record {
  entries = ap (λ (v : Stacked). v.active_formatting) e;
  step = λ s on. ap (λ (v : Stacked). joined s (record v { active_formatting = Element (node_count f) tag ∷ older })
      g) e ∙ ap (λ (t : State). record t { active_formatting = Element (node_count f) tag ∷ older }) (step s on);
}

-- the entries that stay

pub reopen-settled : (entries : List Entry) (s : State) → IsSettled s.open_elems entries
    → reopen entries s ≡ record s { active_formatting = entries }
reopen-settled [] s h = refl
reopen-settled (Marker ∷ entries) s h = refl
reopen-settled (Element n tag ∷ entries) s h = rw (not-not false (is_open n s.open_elems) (sym h)) refl

-- so many entries have been gone through
pub record Reopens (foster : Bool) (old : Stacked) (f : Forest) (new : Stacked) (g : Forest) (i : ℕ) : Type 0 where
  pub waiting : List Entry
  pub past : List Entry
  pub again : List Entry
  pub was : old.active_formatting ≡ waiting ++ past
  pub now : new.active_formatting ≡ waiting ++ again
  pub size : length past ≡ i
  pub size_again : length again ≡ i
  pub wait : list_all (waits old.open_elems) waiting ≡ true
  pub step : (s : State) → s.foster_parenting ≡ foster → joined s (record new { active_formatting = again })
      g ≡ reopen past (joined s old f)

pub reopens-start : (foster : Bool) (old : Stacked) (f : Forest) (i : ℕ)
    → IsDivided old.open_elems old.active_formatting i → Reopens foster old f old f i
reopens-start foster old f i is = record {
  waiting = is.waiting;
  past = is.settled;
  again = is.settled;
  was = is.parts;
  now = is.parts;
  size = is.size;
  size_again = is.size;
  wait = is.wait;
  step = λ s on. sym (reopen-settled is.settled (joined s old f) is.stay);
}

both-true : (a b : Bool) → a ≡ true → b ≡ true → (a && b) ≡ true
both-true a b h k = rw (h, k) refl

waits-element : (xs : List Open) (entry : Entry) → waits xs entry ≡ true → (n : ℕ) × (tag : Tag)
    × (entry ≡ Element n tag) × (is_open n xs ≡ false)
waits-element xs Marker h = absurd (true≢false (sym h))
waits-element xs (Element n tag) h = (n, tag, refl, not-not true (is_open n xs) (sym h))

-- the last of some, and what holds of it
pub record IsLast (xs : List Open) (entries : List Entry) : Type 0 where
  pub front : List Entry
  pub number : ℕ
  pub tag : Tag
  pub parts : entries ≡ front ++ Element number tag ∷ []
  pub unopened : is_open number xs ≡ false
  pub wait : list_all (waits xs) front ≡ true

pub last-waits : (xs : List Open) (entries : List Entry) → 0 < length entries → list_all (waits xs) entries ≡ true → IsLast xs entries
last-waits xs [] some h = absurd (omega arith)
last-waits xs (entry ∷ []) some h =
    let p = and_parts (waits xs entry) true h in
    let e = waits-element xs entry p.0 in
    record { front = []; number = e.0; tag = e.1; parts = ap (λ y. y ∷ []) e.2; unopened = e.3; wait = refl }
last-waits xs (entry ∷ other ∷ entries) some h =
    let p = and_parts (waits xs entry) (list_all (waits xs) (other ∷ entries)) h in
    let rest = last-waits xs (other ∷ entries) (omega arith) p.1 in
    record {
      front = entry ∷ rest.front;
      number = rest.number;
      tag = rest.tag;
      parts = ap (λ ys. entry ∷ ys) rest.parts;
      unopened = rest.unopened;
      wait = both-true (waits xs entry) (list_all (waits xs) rest.front) p.0 rest.wait;
    }

pub reopen-more : (n : ℕ) (tag : Tag) (past : List Entry) (s : State) → is_open n s.open_elems ≡ false
    → reopen (Element n tag ∷ past) s ≡ list_current tag (insert_element_for tag (reopen past s))
reopen-more n tag past s e = rw e refl

pub reopens-more : (foster : Bool) (old : Stacked) (f : Forest) (new new' : Stacked) (g g' : Forest) (i : ℕ)
    → (is : Reopens foster old f new g i) → i < length new.active_formatting
    → ((newer older : List Entry) (n : ℕ) (tag : Tag) → new.active_formatting ≡ newer ++ Element n tag ∷ older
    → length older ≡ i → IsAgain foster new new' g g' newer tag older)
    → Reopens foster old f new' g' (i + 1)
reopens-more foster old f new new' g g' i is more go =
    let count : length new.active_formatting ≡ length is.waiting + length is.again = ap length is.now ∙ length-append is.waiting is.again in
    let some : 0 < length is.waiting = omega (arith, is.size_again) in
    let last = last-waits old.open_elems is.waiting some is.wait in
    let e : new.active_formatting ≡ last.front ++ Element last.number last.tag ∷ is.again = is.now
    ∙ ap (λ ys. ys ++ is.again) last.parts ∙ append_assoc last.front (Element last.number last.tag ∷ []) is.again in
    let next = go last.front is.again last.number last.tag e is.size_again in
    record {
      waiting = last.front;
      past = Element last.number last.tag ∷ is.past;
      again = Element (node_count g) last.tag ∷ is.again;
      was = is.was ∙ ap (λ ys. ys ++ is.past) last.parts ∙ append_assoc last.front (Element last.number last.tag ∷ []) is.past;
      now = next.entries;
      size = ap suc is.size ∙ sym (add-one i);
      size_again = ap suc is.size_again ∙ sym (add-one i);
      wait = last.wait;
      step = λ s on.
          next.step s on
          ∙ ap (λ t. list_current last.tag (insert_element_for last.tag t)) (is.step s on)
          ∙ sym (reopen-more last.number last.tag is.past (joined s old f) last.unopened);
    }

pub reopens-end : (foster : Bool) (old : Stacked) (f : Forest) (new : Stacked) (g : Forest) (i : ℕ)
    → (is : Reopens foster old f new g i) → length old.active_formatting ≤ i → (s : State)
    → s.foster_parenting ≡ foster → joined s new g ≡ reopen old.active_formatting (joined s old f)
reopens-end foster old f new g i is all s on =
    let count : length old.active_formatting ≡ length is.waiting + length is.past = ap length is.was ∙ length-append is.waiting is.past in
    let none : is.waiting ≡ [] = nil_from_length is.waiting (omega (arith, is.size)) in
    let was : old.active_formatting ≡ is.past = is.was ∙ ap (λ ys. ys ++ is.past) none in
    let now : new.active_formatting ≡ is.again = is.now ∙ ap (λ ys. ys ++ is.again) none in
    ap (λ es. joined s (record new { active_formatting = es }) g) now ∙ is.step s on ∙ ap (λ es. reopen es (joined s old f)) (sym was)

-- the tag of an entry, as it lies
pub said-at : {H : Type 0} (node : H → ℕ) (items : List (FormatEntry H)) (place : ℕ) (o : Option Tag)
    → place < length items → IsTagAt items place o → IsSaidAt (entries_of node items) place o
said-at node items place None less marker = λ newer older n tag e size.
    let p = at-place node items place newer older n tag e size less in
    not_mark node (get_or items place held.Marker) n tag marker p.1
  where
    not_mark : {H : Type 0} (node : H → ℕ) (x : FormatEntry H) (n : ℕ) (tag : Tag) → x ≡ held.Marker → entry_of node x ≡ Element n tag → ⊥
    not_mark node held.Marker n tag m e = absurd cc
    not_mark node (held.Element handle other) n tag m e = absurd cc
said-at node items place (Some tag) less h = record {
  newer = entries_of node (drop (suc place) items);
  older = entries_of node (take place items);
  number = node h.0;
  parts = split-at (entry_of node) items place held.Marker less
      ∙ ap (λ x. entries_of node (drop (suc place) items) ++ entry_of node x ∷ entries_of node (take place items)) h.1;
  size = length-reverse (map (entry_of node) (take place items)) ∙ length-map (take place items) (entry_of node)
      ∙ length-take-le place items (omega arith);
}

element-tag : (n m : ℕ) (tag other : Tag) → Element n tag ≡ Element m other → tag ≡ other
element-tag n m tag other e = cc

pub again-at : (tag : Tag) (foster : Bool) (old mid new : Stacked) (f g : Forest) (made place : ℕ)
    → HasEntry old.active_formatting place tag → made ≡ node_count f
    → ((s : State) → s.foster_parenting ≡ foster → joined s mid g ≡ insert_element_for tag (joined s old f))
    → ((newer older : List Entry) (n : ℕ) (t : Tag) → mid.active_formatting ≡ newer ++ Element n t ∷ older
    → length older ≡ place → new ≡ record mid { active_formatting = newer ++ Element made t ∷ older })
    → (newer older : List Entry) (n : ℕ) (t : Tag) → old.active_formatting ≡ newer ++ Element n t ∷ older
    → length older ≡ place → IsAgain foster old new f g newer t older
again-at tag foster old mid new f g made place has named step go newer older n t e size =
    let same = same-split newer has.newer (Element n t) (Element has.number tag) older has.older
    (size ∙ sym has.size) (sym e ∙ has.parts) in
    let tag_is : tag ≡ t = sym (element-tag n has.number t tag same.1) in
    let at = inserted-entries tag foster old mid f g step ∙ e in
    subst (λ u. IsAgain foster old new f g newer u older) tag_is
    (again-step tag foster old mid new f g newer older step
    (go newer older n t at size ∙ ap (λ u. record mid { active_formatting = newer ++ Element made u ∷ older })
    (sym tag_is) ∙ ap (λ m. record mid { active_formatting = newer ++ Element m tag ∷ older }) named))

pub again-kept-at : (tag : Tag) (foster : Bool) (old mid new : Stacked) (f g : Forest) (made place : ℕ)
    → HasEntry old.active_formatting place tag → made ≡ node_count f
    → ((s : State) → s.foster_parenting ≡ foster → joined s mid g ≡ insert_element_for tag (joined s old f))
    → ((newer older : List Entry) (n : ℕ) (t : Tag) → mid.active_formatting ≡ newer ++ Element n t ∷ older
    → length older ≡ place → new ≡ record mid { active_formatting = newer ++ Element made t ∷ older })
    → IsStanding g mid.open_elems mid.active_formatting → IsStanding g new.open_elems new.active_formatting
again-kept-at tag foster old mid new f g made place has named step go is =
    let new_is = go has.newer has.older has.number tag (inserted-entries tag foster old mid f g step ∙ has.parts)
    has.size ∙ ap (λ m. record mid { active_formatting = has.newer ++ Element m tag ∷ has.older }) named in
    subst (λ (v : Stacked). IsStanding g v.open_elems v.active_formatting) (sym new_is)
    (again-kept tag foster old mid f g has.newer has.older has.number step is has.parts)

pub reopens-count : (foster : Bool) (old : Stacked) (f : Forest) (new : Stacked) (g : Forest) (i : ℕ)
    → Reopens foster old f new g i → length new.active_formatting ≡ length old.active_formatting
reopens-count foster old f new g i is =
    ap length is.now ∙ length-append is.waiting is.again ∙ ap (λ n. length is.waiting + n)
    (is.size_again ∙ sym is.size) ∙ sym (length-append is.waiting is.past) ∙ sym (ap length is.was)

-- one entry more waits
pub more-wait : {H : Type 0} (node : H → ℕ) (xs : List Open) (items : List (FormatEntry H)) (i k : ℕ)
    (entry : FormatEntry H) → i ≡ suc k → k < length items → entry ≡ get_or items k entry
    → true ≡ waits xs (entry_of node entry) → list_all (waits xs) (entries_of node (drop i items)) ≡ true
    → list_all (waits xs) (entries_of node (drop k items)) ≡ true
more-wait node xs items i k entry e less here wait rest =
    let first : drop k items ≡ entry ∷ drop i items = drop-cons items k entry less
    ∙ ap (λ x. x ∷ drop (suc k) items) (sym here) ∙ ap (λ n. entry ∷ drop n items) (sym e) in
    ap (λ ys. list_all (waits xs) (entries_of node ys)) first ∙ ap (list_all (waits xs))
    (reverse_onto (map (entry_of node) (drop i items)) (entry_of node entry) []) ∙ all-behind (waits xs)
    (entries_of node (drop i items)) (entry_of node entry) rest (sym wait)
  where
    all-behind : {X : Type 0} (p : X → Bool) (ys : List X) (y : X) → list_all p ys ≡ true → p y ≡ true → list_all p (ys ++ y ∷ []) ≡ true
    all-behind p [] y h last = rw last refl
    all-behind p (z ∷ ys) y h last = let parts = and_parts (p z) (list_all p ys) h in rw parts.0 (all-behind p ys y parts.1 last)
