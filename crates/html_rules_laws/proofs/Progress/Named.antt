-- Where raw text follows a tag, the current node is the element that was made for it (HTML Standard, section 13.2.6.2).
use Rattle.std.proofs.Common.{◌≡◌, ◌∙◌, ℕ, zero, suc, Bool, true, false, List, [], ◌∷◌, Option, Some, None, refl, sym, ap, subst}
use Rattle.std.specs.Prelude.{◌||◌, ◌&&◌}
use Rattle.std.proofs.lemmas.Bool.{and_parts}
use Rattle.html_tokens.specs.declared.tags.Tag.{Tag}
use Rattle.html_tokens.specs.declared.token.Token.{Token}
use Rattle.html_tokens.specs.declared.token.Token.TheVariants.{TagToken}
use Rattle.html_rules.specs.Actions.{act, save_mode, set_foster_parenting, set_mode}
use Rattle.html_rules.specs.Choice.{choose}
use Rattle.html_rules.specs.Conditions.{holds}
use Rattle.html_rules.specs.Encodings.{encoding_hint}
use Rattle.html_rules.specs.ForeignContent.{is_foreign, is_start_tag}
use Rattle.html_rules.specs.Modes.Foreign.{in_foreign_content}
use Rattle.html_rules.specs.Places.{insert_element}
use Rattle.html_rules.specs.Rules.{Ending, Finished, Again, Replied, Settled, Turn, concluded, encoding_reply, first_fit, fits}
use Rattle.html_rules.specs.Rules.{four_for_each, most_modes, rows, settle, settled_by, turn, turn_by_row, using_rules_for}
use Rattle.html_rules.specs.Rules.{within}
use Rattle.html_rules.specs.Sets.{names_of}
use Rattle.html_rules.specs.State.{Open, State, current_is, current_number, is_named}
use Rattle.html_rules.specs.Table.{Row, Class, StartTags, Action, Then, ParseError, InsertElement, SaveMode, SwitchTo}
use Rattle.html_rules.specs.Table.{PushHeadElem, RemoveHeadElem, DisableFosterParenting, Conclusion, Done, Acknowledged}
use Rattle.html_rules.specs.Table.{Reprocess, ReprocessInOriginal, ReprocessInMode, Using, UsingThen, UsingCurrentMode, RawText}
use Rattle.html_rules.specs.Table.{PlainText, RunScript, ReportEncoding}
use Rattle.html_rules.specs.Tokens.{attributes_of, class_fits}
use Rattle.html_rules.specs.declared.insertion_mode.InsertionMode.{InsertionMode}
use Rattle.html_rules.specs.declared.insertion_mode.InsertionMode.TheVariants as mode
use Rattle.html_rules.specs.declared.tag_set.TagSet.TheVariants as set
use Rattle.html_rules_laws.specs.Nesting.{IsNested}
use Rattle.html_rules_laws.specs.Upright.{MayCome}
use Rattle.html_rules_laws.proofs.FirstFit.{by_fit, class_of_fits}
use Rattle.html_rules_laws.proofs.Termination.Kinds.{Kind, Starts, Texts, is_of}
use Rattle.html_rules_laws.proofs.Soundness.Acts.{act-aside, tame_in}
use Rattle.html_rules_laws.proofs.Soundness.Scan.{scan, scan-holds}
use Rattle.html_rules_laws.proofs.TreePreserved.Turns.{turn-again}
use Rattle.html_rules_laws.proofs.ModesPreserved.HeadAgain.{IsOnTop, again-by, again_row, raw-on-top, same-name}
use Rattle.html_rules_laws.proofs.ModesPreserved.Likes.{raw_row}
use Rattle.html_rules_laws.proofs.ModesPreserved.Turns.{IsFound, found-of, has-head, other-html, opens_head, turn-nested}
use Rattle.html_rules_laws.proofs.Progress.Outside.{IsRaw, IsRawEnd}
use Rattle.html_rules_laws.proofs.Bools.{no, or_by}

-- a start tag is told, and the current node is HTML's of its name
abbrev pub IsMade : Token → List Open → Type 0
IsMade (TagToken tag) xs = (is_start_tag tag.kind ≡ true) × (current_is (is_named tag.name) xs ≡ true)
IsMade t xs = ⊥

IsNamed : Token → Turn → Type 0
IsNamed t made = IsRawEnd made.ends → IsMade t made.state.open_elems

-- what is tested of rows

-- what follows is no raw text, and no other rules are used
abbrev is_silent : Conclusion → Bool
is_silent (Using m) = false
is_silent (UsingThen m after) = false
is_silent UsingCurrentMode = false
is_silent (RawText kind) = false
is_silent e = true

abbrev not_after_head : InsertionMode → Bool
not_after_head mode.AfterHead = false
not_after_head m = true

-- other rules are used, which the current node outlasts
abbrev uses_other : Conclusion → Bool
uses_other (Using m) = not_after_head m
uses_other (UsingThen m DisableFosterParenting) = not_after_head m
uses_other e = false

abbrev is_raw : Conclusion → Bool
is_raw (RawText kind) = true
is_raw e = false

abbrev starts : Class → Bool
starts (StartTags names) = true
starts c = false

-- an element is inserted last of all
abbrev ends_raw : Action → Bool
ends_raw (Then InsertElement (Then SaveMode (SwitchTo mode.Text))) = true
ends_raw (Then a b) = ends_raw b
ends_raw a = false

abbrev row_named : Row → Bool
row_named r = is_silent r.ends || (uses_other r.ends || (is_raw r.ends && (starts r.on && ends_raw r.does)))

abbrev all_named : List Row → Bool
all_named [] = true
all_named (r ∷ rs) = row_named r && all_named rs

modes_named : (m : InsertionMode) → not_after_head m ≡ true → all_named (rows m) ≡ true
unfolding rows
modes_named mode.Initial h = refl
modes_named mode.BeforeHtml h = refl
modes_named mode.BeforeHead h = refl
modes_named mode.InHead h = refl
modes_named mode.InHeadNoscript h = refl
modes_named mode.AfterHead h = no h
modes_named mode.InBody h = refl
modes_named mode.Text h = refl
modes_named mode.InTable h = refl
modes_named mode.InTableText h = refl
modes_named mode.InCaption h = refl
modes_named mode.InColumnGroup h = refl
modes_named mode.InTableBody h = refl
modes_named mode.InRow h = refl
modes_named mode.InCell h = refl
modes_named mode.InTemplate h = refl
modes_named mode.AfterBody h = refl
modes_named mode.InFrameset h = refl
modes_named mode.AfterFrameset h = refl
modes_named mode.AfterAfterBody h = refl
modes_named mode.AfterAfterFrameset h = refl

-- rows

encoding-none : (o : Option (List ℕ)) → IsRawEnd (encoding_reply o) → ⊥
encoding-none None raw = raw
encoding-none (Some label) raw = raw

silent-none : (using : InsertionMode → Token → State → Turn) (e : Conclusion) → is_silent e ≡ true
    → (t : Token) (script : ℕ) (s : State) → IsRawEnd (concluded using e t script s).ends → ⊥
silent-none using Done h t script s raw = raw
silent-none using Acknowledged h t script s raw = raw
silent-none using (Reprocess m) h t script s raw = raw
silent-none using ReprocessInOriginal h t script s raw = raw
silent-none using ReprocessInMode h t script s raw = raw
silent-none using PlainText h t script s raw = raw
silent-none using RunScript h t script s raw = raw
silent-none using ReportEncoding h t script s raw = encoding-none (encoding_hint (attributes_of t)) raw
silent-none using e h t script s raw = no h

silent-end : (using : InsertionMode → Token → State → Turn) (e : Conclusion) → is_silent e ≡ true
    → (t : Token) (script : ℕ) (s : State) → IsNamed t (concluded using e t script s)
unfolding IsNamed
silent-end using e h t script s raw = absurd (silent-none using e h t script s raw)

fostered-same : (t : Token) (s : State) → (act DisableFosterParenting t s).open_elems ≡ s.open_elems
unfolding set_foster_parenting
fostered-same t s = refl

other-end : (using : InsertionMode → Token → State → Turn) (t : Token)
    → ((m : InsertionMode) → not_after_head m ≡ true → (s : State) → IsNamed t (using m t s)) → (e : Conclusion)
    → uses_other e ≡ true → (script : ℕ) (s : State) → IsNamed t (concluded using e t script s)
unfolding IsNamed
other-end using t go (Using m) h script s raw = go m h s raw
other-end using t go (UsingThen m DisableFosterParenting) h script s raw = rw (fostered-same t (using m t s).state) (go m h s raw)
other-end using t go (UsingThen m after) h script s raw = no h
other-end using t go e h script s raw = no h

raw-top : (a : Action) → ends_raw a ≡ true → (tag : Tag) (s : State) → current_is (is_named tag.name)
    (act a (TagToken tag) s).open_elems ≡ true
unfolding set_mode save_mode insert_element
raw-top (Then InsertElement (Then SaveMode (SwitchTo mode.Text))) h tag s = same-name tag.name
raw-top (Then a b) h tag s = raw-top b h tag (act a (TagToken tag) s)
raw-top a h tag s = no h

raw-made : (c : Class) → starts c ≡ true → (a : Action) → ends_raw a ≡ true → (t : Token) → class_fits c t ≡ true
    → (s : State) → IsMade t (act a t s).open_elems
raw-made (StartTags names) h a r (TagToken tag) f s = ((and_parts (is_start_tag tag.kind) _ f).0, raw-top a r tag s)
raw-made (StartTags names) h a r t f s = no f
raw-made c h a r t f s = no h

raw-end : (using : InsertionMode → Token → State → Turn) (e : Conclusion) → is_raw e ≡ true
    → (t : Token) (script : ℕ) (s : State) → IsMade t s.open_elems → IsNamed t (concluded using e t script s)
unfolding IsNamed
raw-end using (RawText kind) h t script s made raw = made
raw-end using e h t script s made raw = no h

row-named : (using : InsertionMode → Token → State → Turn) (t : Token)
    → ((m : InsertionMode) → not_after_head m ≡ true → (s : State) → IsNamed t (using m t s)) → (r : Row)
    → row_named r ≡ true → class_fits r.on t ≡ true → (s : State) → IsNamed t (turn_by_row using r t s)
row-named using t go r h f s =
    let script : ℕ = current_number s.open_elems in
    or_by (is_silent r.ends) _ h (λ k. silent-end using r.ends k t script (act r.does t s))
    (λ k. or_by (uses_other r.ends) _ k (λ k. other-end using t go r.ends k script (act r.does t s))
    (λ k. let one = and_parts (is_raw r.ends) _ k in let two = and_parts (starts r.on) (ends_raw r.does) one.1 in
    raw-end using r.ends one.0 t script (act r.does t s) (raw-made r.on two.0 r.does two.1 t f s)))

none-named : (using : InsertionMode → Token → State → Turn) (t : Token) (s : State) → IsNamed t (turn_by_row using (first_fit [] t s) t s)
unfolding IsNamed
none-named using t s raw = absurd raw

first-named : (using : InsertionMode → Token → State → Turn) (t : Token)
    → ((m : InsertionMode) → not_after_head m ≡ true → (s : State) → IsNamed t (using m t s)) → (rs : List Row)
    → all_named rs ≡ true → (s : State) → IsNamed t (turn_by_row using (first_fit rs t s) t s)
first-named using t go [] h s = none-named using t s
first-named using t go (r ∷ rs) h s =
    let tests = and_parts (row_named r) (all_named rs) h in
    by_fit (λ r. IsNamed t (turn_by_row using r t s)) r (first_fit rs t s) (fits r t s)
    (λ b. row-named using t go r tests.0 (class_of_fits (class_fits r.on t) (λ _. holds r.when t s) b) s)
    (first-named using t go rs tests.1 s)

using-named : (n : ℕ) (t : Token) (m : InsertionMode) → not_after_head m ≡ true → (s : State) → IsNamed t (using_rules_for n m t s)
unfolding using_rules_for IsNamed
using-named zero t m h s raw = absurd raw
using-named (suc n) t m h s raw = first-named (using_rules_for n) t (using-named n t) (rows m) (modes_named m h) s raw

-- after the head, which is opened again for one token

abbrev again_rows : Kind → Row → Bool
again_rows kind r = again_row kind r.does r.ends && (is_silent r.ends || (is_raw r.ends && raw_row kind r.does))

abbrev head_contents : Kind
head_contents = Starts (names_of set.HeadContent)

head_named : scan again_rows head_contents (rows mode.InHead) ≡ true
unfolding rows names_of
head_named = refl

made-of : (t : Token) (xs : List Open) → is_of head_contents t ≡ true → IsOnTop t xs → IsMade t xs
made-of (TagToken tag) xs h on = ((and_parts (is_start_tag tag.kind) _ h).0, on)
made-of t xs h on = no h

again-raw : (using : InsertionMode → Token → State → Turn) (kind : Kind) (a : Action) (e : Conclusion)
    → again_row kind a e ≡ true → is_raw e ≡ true → raw_row kind a ≡ true → (t : Token)
    → is_of head_contents t ≡ true → is_of kind t ≡ true → (s : State) → IsFound mode.AfterHead s → (script : ℕ)
    → IsOnTop t (act RemoveHeadElem t (concluded using e t script (act a t (act (Then ParseError PushHeadElem) t s))).state).open_elems
again-raw using kind a (RawText raw) h i r t g k s found script =
    again-by (λ p. IsOnTop t p.open_elems) s found.at (found.poised refl) (has-head s found) found.modes found.is
    head_contents kind a (RawText raw) h using t g script (λ n q w. raw-on-top kind a r t k n q w)
again-raw using kind a e h i r t g k s found script = no i

HeadNamed : (InsertionMode → Token → State → Turn) → Token → Type 0
HeadNamed using t = is_of head_contents t ≡ true → (s : State) → IsFound mode.AfterHead s
    → IsRawEnd (using mode.InHead t (act (Then ParseError PushHeadElem) t s)).ends
    → IsMade t (act RemoveHeadElem t (using mode.InHead t (act (Then ParseError PushHeadElem) t s)).state).open_elems

-- a row of "in head" there: the head leaves from under what it made
again-end : (using : InsertionMode → Token → State → Turn) (t : Token) → is_of head_contents t ≡ true → (s : State)
    → IsFound mode.AfterHead s → (kind : Kind) (r : Row) → again_rows kind r ≡ true → is_of kind t ≡ true
    → IsRawEnd (turn_by_row using r t (act (Then ParseError PushHeadElem) t s)).ends
    → IsMade t (act RemoveHeadElem t (turn_by_row using r t (act (Then ParseError PushHeadElem) t s)).state).open_elems
again-end using t g s found kind r h k raw =
    let q : State = act (Then ParseError PushHeadElem) t s in
    let script : ℕ = current_number q.open_elems in
    let parts = and_parts (again_row kind r.does r.ends) _ h in
    or_by (is_silent r.ends) _ parts.1 (λ l. absurd (silent-none using r.ends l t script (act r.does t q) raw))
    (λ l. let two = and_parts (is_raw r.ends) _ l in
    made-of t _ g (again-raw using kind r.does r.ends parts.0 two.0 two.1 t g k s found script))

head-named : (n : ℕ) (t : Token) → HeadNamed (using_rules_for n) t
unfolding using_rules_for HeadNamed
head-named zero t g s found raw = absurd raw
head-named (suc n) t g s found raw =
    let q : State = act (Then ParseError PushHeadElem) t s in
    scan-holds again_rows (λ r. IsRawEnd (turn_by_row (using_rules_for n) r t q).ends
    → IsMade t (act RemoveHeadElem t (turn_by_row (using_rules_for n) r t q).state).open_elems) t q
    (λ inner r i j fits o. again-end (using_rules_for n) t g s found inner r i j) (λ raw. absurd raw)
    (rows mode.InHead) head_contents head_named g raw

abbrev for_head : Class → Bool
for_head (StartTags set.HeadContent) = true
for_head c = false

abbrev after_head_row : Row → Bool
after_head_row r = row_named r || (for_head r.on && opens_head r.does r.ends)

abbrev all_after_head : List Row → Bool
all_after_head [] = true
all_after_head (r ∷ rs) = after_head_row r && all_after_head rs

after_head_named : all_after_head (rows mode.AfterHead) ≡ true
unfolding rows
after_head_named = refl

of-contents : (t : Token) → class_fits (StartTags set.HeadContent) t ≡ true → is_of head_contents t ≡ true
of-contents (TagToken tag) f = f
of-contents t f = no f

opens-end : (using : InsertionMode → Token → State → Turn) (t : Token) → HeadNamed using t
    → (c : Class) (a : Action) (e : Conclusion) → for_head c ≡ true → opens_head a e ≡ true → class_fits c t ≡ true
    → (s : State) → IsFound mode.AfterHead s → (script : ℕ) → IsNamed t (concluded using e t script (act a t s))
unfolding HeadNamed IsNamed
opens-end using t go (StartTags set.HeadContent) (Then ParseError PushHeadElem)
    (UsingThen mode.InHead RemoveHeadElem) h o f s found script raw = go (of-contents t f) s found raw
opens-end using t go (StartTags set.HeadContent) a e h o f s found script raw = no o
opens-end using t go c a e h o f s found script raw = no h

after-named : (using : InsertionMode → Token → State → Turn) (t : Token)
    → ((m : InsertionMode) → not_after_head m ≡ true → (s : State) → IsNamed t (using m t s)) → HeadNamed using t
    → (rs : List Row) → all_after_head rs ≡ true → (s : State) → IsFound mode.AfterHead s
    → IsNamed t (turn_by_row using (first_fit rs t s) t s)
after-named using t go head [] h s found = none-named using t s
after-named using t go head (r ∷ rs) h s found =
    let tests = and_parts (after_head_row r) (all_after_head rs) h in
    by_fit (λ r. IsNamed t (turn_by_row using r t s)) r (first_fit rs t s) (fits r t s)
    (λ b. let f = class_of_fits (class_fits r.on t) (λ _. holds r.when t s) b in
    or_by (row_named r) _ tests.0 (λ k. row-named using t go r k f s)
    (λ k. let two = and_parts (for_head r.on) _ k in opens-end using t head r.on r.does r.ends two.0 two.1 f s found
    (current_number s.open_elems)))
    (after-named using t go head rs tests.1 s found)

after_head-named : (t : Token) (s : State) → IsFound mode.AfterHead s → IsNamed t (using_rules_for most_modes mode.AfterHead t s)
unfolding using_rules_for
after_head-named t s found = after-named (using_rules_for 3) t (using-named 3 t) (head-named 3 t)
    (rows mode.AfterHead) after_head_named s found

-- foreign content

abbrev is_current : Conclusion → Bool
is_current UsingCurrentMode = true
is_current e = false

abbrev foreign_row : Row → Bool
foreign_row r = is_silent r.ends || (is_current r.ends && tame_in Texts r.does)

abbrev all_foreign : List Row → Bool
all_foreign [] = true
all_foreign (r ∷ rs) = foreign_row r && all_foreign rs

foreign_named : all_foreign in_foreign_content ≡ true
foreign_named = refl

current-end : (using : InsertionMode → Token → State → Turn) (t : Token)
    → ((m : InsertionMode) → not_after_head m ≡ true → (s : State) → IsNamed t (using m t s)) → (e : Conclusion)
    → is_current e ≡ true → (script : ℕ) (s : State) → not_after_head s.mode ≡ true → IsNamed t (concluded using e t script s)
current-end using t go UsingCurrentMode h script s m = go s.mode m s
current-end using t go e h script s m = no h

foreign-named : (using : InsertionMode → Token → State → Turn) (t : Token)
    → ((m : InsertionMode) → not_after_head m ≡ true → (s : State) → IsNamed t (using m t s)) → (rs : List Row)
    → all_foreign rs ≡ true → (s : State) → not_after_head s.mode ≡ true → IsNamed t (turn_by_row using (first_fit rs t s) t s)
foreign-named using t go [] h s m = none-named using t s
foreign-named using t go (r ∷ rs) h s m =
    let tests = and_parts (foreign_row r) (all_foreign rs) h in
    let script : ℕ = current_number s.open_elems in
    by_fit (λ r. IsNamed t (turn_by_row using r t s)) r (first_fit rs t s) (fits r t s)
    (λ b. or_by (is_silent r.ends) _ tests.0 (λ k. silent-end using r.ends k t script (act r.does t s))
    (λ k. let two = and_parts (is_current r.ends) _ k in current-end using t go r.ends two.0 script (act r.does t s)
    (ap not_after_head (act-aside Texts r.does two.1 t s).mode ∙ m)))
    (foreign-named using t go rs tests.1 s m)

-- a turn

after_head-is : (m : InsertionMode) → not_after_head m ≡ false → m ≡ mode.AfterHead
after_head-is mode.AfterHead h = refl
after_head-is m h = no (sym h)

turn-named : (t : Token) (s : State) → MayCome t s → IsNested s → IsNamed t (turn t s)
unfolding turn
turn-named t s may is = by (is_foreign s t) (not_after_head s.mode) refl refl where
  by : (f a : Bool) → is_foreign s t ≡ f → not_after_head s.mode ≡ a
      → IsNamed t (choose f (λ _. turn_by_row (using_rules_for most_modes) (first_fit in_foreign_content t s) t s)
      (λ _. using_rules_for most_modes s.mode t s))
  by true true f a = foreign-named (using_rules_for most_modes) t (using-named most_modes t) in_foreign_content foreign_named s a
  by true false f a = absurd (other-html mode.AfterHead refl t s may (after_head-is s.mode a) is f)
  by false true f a = using-named most_modes t s.mode a s
  by false false f a =
      let at = after_head-is s.mode a in
      subst (λ m. IsNamed t (using_rules_for most_modes m t s)) (sym at)
      (after_head-named t s (subst (λ m. IsFound m s) at (found-of t s may is)))

-- a token

settled-named : (again : State → Settled) (e : Ending) (t : Token) (s : State)
    → (e ≡ Again → IsRaw (again s).reply → IsMade t (again s).state.open_elems)
    → (IsRawEnd e → IsMade t s.open_elems) → IsRaw (settled_by again e t s).reply → IsMade t (settled_by again e t s).state.open_elems
settled-named again (Finished acknowledged) t s go h raw = absurd raw
settled-named again Again t s go h raw = go refl raw
settled-named again (Replied r) t s go h raw = h raw

within-named : (n : ℕ) (beyond : State → Settled) (t : Token)
    → ((s : State) → MayCome t s → IsNested s → IsRaw (beyond s).reply → IsMade t (beyond s).state.open_elems)
    → (s : State) → MayCome t s → IsNested s → IsRaw (within n beyond t s).reply → IsMade t (within n beyond t s).state.open_elems
unfolding within IsNamed
within-named zero beyond t go s may is raw = go s may is raw
within-named (suc n) beyond t go s may is raw =
    settled-named (within n beyond t) (turn t s).ends t (turn t s).state
    (λ e. within-named n beyond t go (turn t s).state (turn-again t s may e) (turn-nested t s may is)) (turn-named t s may is) raw

four-named : (xs : List Open) (t : Token) (s : State) → MayCome t s → IsNested s
    → IsRaw (four_for_each xs t s).reply → IsMade t (four_for_each xs t s).state.open_elems
unfolding four_for_each
four-named [] t s may is raw = absurd raw
four-named (x ∷ xs) t s may is raw = within-named 4 (four_for_each xs t) t (four-named xs t) s may is raw

-- where raw text follows a token, that is a start tag, and the current node is the element of its name
pub settle-named : (t : Token) (s : State) → MayCome t s → IsNested s → IsRaw (settle t s).reply → IsMade t (settle t s).state.open_elems
unfolding settle
settle-named t s may is raw = within-named 16 (four_for_each s.open_elems t) t (four-named s.open_elems t) s may is raw
