-- The rows of all modes keep a state upright.
use Rattle.std.proofs.Common.{◌≡◌, ℕ, zero, suc, Bool, true, false, List, [], ◌∷◌, refl, sym, subst, codes}
use Rattle.std.specs.Prelude.{◌||◌, ◌&&◌, not}
use Rattle.std.proofs.lemmas.Bool.{and_parts}
use Rattle.html_tokens.specs.declared.token.Token.{Token}
use Rattle.html_tokens.specs.declared.token.Token.TheVariants.{TagToken}
use Rattle.html_rules.specs.Actions.{act}
use Rattle.html_rules.specs.Choice.{choose}
use Rattle.html_rules.specs.ForeignContent.{is_start_tag}
use Rattle.html_rules.specs.Rules.{Turn, concluded, rows, turn_by_row, using_rules_for}
use Rattle.html_rules.specs.Sets.{names_of}
use Rattle.html_rules.specs.Shape.{is_at_root}
use Rattle.html_rules.specs.Stack.{parse_error}
use Rattle.html_rules.specs.State.{State, current_number}
use Rattle.html_rules.specs.Table.{Row, Action, Then, ParseError, PushHeadElem, RemoveHeadElem, Conclusion, Done, Acknowledged}
use Rattle.html_rules.specs.Table.{Reprocess, ReprocessInOriginal, ReprocessInMode, Using, UsingThen, UsingCurrentMode, RawText}
use Rattle.html_rules.specs.Table.{PlainText, RunScript, ReportEncoding}
use Rattle.html_rules.specs.declared.insertion_mode.InsertionMode.{InsertionMode}
use Rattle.html_rules.specs.declared.insertion_mode.InsertionMode.TheVariants as mode
use Rattle.html_rules.specs.declared.tag_set.TagSet.TheVariants as set
use Rattle.html_rules_laws.specs.Upright.{is_first, is_head_start}
use Rattle.html_rules_laws.proofs.SetFacts.{all_among, among-all}
use Rattle.html_rules_laws.proofs.Termination.Kinds.{Kind, Starts, StartsBut, EndsBut, Texts, Nulls, TheEnd, Others, is_of}
use Rattle.html_rules_laws.proofs.Soundness.Scan.{scan, scan-holds}
use Rattle.html_rules_laws.proofs.TreePreserved.Heads.{makes_head, makes_head-poised, push_head-poised}
use Rattle.html_rules_laws.proofs.TreePreserved.Poised.{Poised, act-poised, back-poised, moved-poised, poised_in}
use Rattle.html_rules_laws.proofs.Bools.{both, no, not_true, or_by}

-- what is tested of rows

abbrev ends_poised : (Kind → InsertionMode → Bool) → Kind → Conclusion → Bool
ends_poised uses kind (Reprocess to) = not (is_first to)
ends_poised uses kind (Using to) = uses kind to
ends_poised uses kind (UsingThen to b) = poised_in kind b && uses kind to
ends_poised uses kind UsingCurrentMode = false
ends_poised uses kind e = true

abbrev row_poised : (Kind → InsertionMode → Bool) → Kind → Row → Bool
row_poised uses kind r = (poised_in kind r.does || makes_head kind r.does) && ends_poised uses kind r.ends

unfoldable pub uses_poised : ℕ → Kind → InsertionMode → Bool
uses_poised zero kind to = true
uses_poised (suc n) kind to = scan (row_poised (uses_poised n)) kind (rows to)

-- where the head may be opened again

abbrev pub starts_of_head : Kind → Bool
starts_of_head (Starts names) = all_among names (names_of set.HeadContent)
starts_of_head kind = false

abbrev opens_head : Action → Conclusion → Bool
opens_head (Then ParseError PushHeadElem) (UsingThen mode.InHead RemoveHeadElem) = true
opens_head a e = false

abbrev row_of_head : ℕ → Kind → Row → Bool
row_of_head n kind r = opens_head r.does r.ends && uses_poised n kind mode.InHead

abbrev is_after_head : InsertionMode → Bool
is_after_head mode.AfterHead = true
is_after_head m = false

abbrev pub mode_poised : Kind → InsertionMode → Bool
mode_poised kind m = choose (is_after_head m && starts_of_head kind)
    (λ _. scan (row_of_head 3) kind (rows mode.AfterHead)) (λ _. uses_poised 4 kind m)

-- the rows of a mode

Keeper : (Kind → InsertionMode → Bool) → (InsertionMode → Token → State → Turn) → Token → Type 0
Keeper uses using t = (kind : Kind) (to : InsertionMode) → uses kind to ≡ true → is_of kind t ≡ true → (s : State)
    → Poised s → Poised (using to t s).state

ends-poised : (uses : Kind → InsertionMode → Bool) (using : InsertionMode → Token → State → Turn) (t : Token)
    → Keeper uses using t → (kind : Kind) (e : Conclusion) → ends_poised uses kind e ≡ true → is_of kind t ≡ true
    → (script : ℕ) (s : State) → Poised s → Poised (concluded using e t script s).state
unfolding Keeper
ends-poised uses using t go kind Done h f script s is = is
ends-poised uses using t go kind Acknowledged h f script s is = is
ends-poised uses using t go kind (Reprocess to) h f script s is = moved-poised to s (not_true _ h) is
ends-poised uses using t go kind ReprocessInOriginal h f script s is = back-poised s is
ends-poised uses using t go kind ReprocessInMode h f script s is = is
ends-poised uses using t go kind (Using to) h f script s is = go kind to h f s is
ends-poised uses using t go kind (UsingThen to b) h f script s is = let parts = and_parts (poised_in kind b)
    (uses kind to) h in act-poised kind b parts.0 t f _ (go kind to parts.1 f s is)
ends-poised uses using t go kind UsingCurrentMode h f script s is = no h
ends-poised uses using t go kind (RawText raw) h f script s is = is
ends-poised uses using t go kind PlainText h f script s is = is
ends-poised uses using t go kind RunScript h f script s is = is
ends-poised uses using t go kind ReportEncoding h f script s is = is

row-poised : (uses : Kind → InsertionMode → Bool) (using : InsertionMode → Token → State → Turn) (t : Token)
    → Keeper uses using t → (kind : Kind) (r : Row) → row_poised uses kind r ≡ true → is_of kind t ≡ true
    → (s : State) → Poised s → Poised (turn_by_row using r t s).state
row-poised uses using t go kind r h f s is =
    let parts = and_parts (poised_in kind r.does || makes_head kind r.does) _ h in
    ends-poised uses using t go kind r.ends parts.1 f (current_number s.open_elems) (act r.does t s)
    (or_by (poised_in kind r.does) _ parts.0 (λ k. act-poised kind r.does k t f s is) (λ k. makes_head-poised kind r.does k t f s is))

pub uses-poised : (n : ℕ) (t : Token) (kind : Kind) (to : InsertionMode) → uses_poised n kind to ≡ true
    → is_of kind t ≡ true → (s : State) → Poised s → Poised (using_rules_for n to t s).state
unfolding uses_poised using_rules_for Keeper
uses-poised zero t kind to h f s is = is
uses-poised (suc n) t kind to h f s is =
    scan-holds (row_poised (uses_poised n)) (λ r. Poised (turn_by_row (using_rules_for n) r t s).state) t s
    (λ inner r k g of fits. row-poised (uses_poised n) (using_rules_for n) t (uses-poised n t) inner r k g s is)
    is (rows to) kind h f

opened-head : (n : ℕ) (a : Action) (e : Conclusion) → opens_head a e ≡ true → (t : Token) (kind : Kind)
    → uses_poised n kind mode.InHead ≡ true → is_of kind t ≡ true → (script : ℕ) (s : State) → is_at_root s.open_elems ≡ true → Poised s
    → Poised (concluded (using_rules_for n) e t script (act a t s)).state
unfolding parse_error
opened-head n (Then ParseError PushHeadElem) (UsingThen mode.InHead RemoveHeadElem) o t kind u f script s root is =
    let q = act-poised kind ParseError refl t f s is in
    act-poised kind RemoveHeadElem refl t f _ (uses-poised n t kind mode.InHead u f _ (push_head-poised (act ParseError t s) root q))
opened-head n a e o t kind u f script s root is = no o

start-of_head : (kind : Kind) (t : Token) → starts_of_head kind ≡ true → is_of kind t ≡ true → is_head_start t ≡ true
start-of_head (Starts names) (TagToken tag) h f = let parts = and_parts (is_start_tag tag.kind) _ f in
    both _ _ parts.0 (among-all tag.name names (names_of set.HeadContent) h parts.1)
start-of_head (Starts names) t h f = no f
start-of_head kind t h f = no h

after-head : (m : InsertionMode) → is_after_head m ≡ true → m ≡ mode.AfterHead
after-head mode.AfterHead h = refl
after-head m h = no h

-- a mode's own rows, where the head is opened again only over the root
pub mode-poised : (t : Token) (kind : Kind) (m : InsertionMode) → mode_poised kind m ≡ true → is_of kind t ≡ true
    → (s : State) → (is_head_start t ≡ true → m ≡ mode.AfterHead → is_at_root s.open_elems ≡ true) → Poised s
    → Poised (using_rules_for 4 m t s).state
unfolding using_rules_for
mode-poised t kind m h f s root is = by (is_after_head m && starts_of_head kind) refl h where
  by : (b : Bool) → (is_after_head m && starts_of_head kind) ≡ b
      → choose b (λ _. scan (row_of_head 3) kind (rows mode.AfterHead)) (λ _. uses_poised 4 kind m) ≡ true
      → Poised (using_rules_for 4 m t s).state
  by true e h =
      let parts = and_parts (is_after_head m) (starts_of_head kind) e in
      let at = after-head m parts.0 in
      let over = root (start-of_head kind t parts.1 f) at in
      subst (λ m. Poised (using_rules_for 4 m t s).state) (sym at)
      (scan-holds (row_of_head 3) (λ r. Poised (turn_by_row (using_rules_for 3) r t s).state) t s
      (λ inner r k g of fits. let own = and_parts (opens_head r.does r.ends) _ k in
      opened-head 3 r.does r.ends own.0 t inner own.1 g (current_number s.open_elems) s over is)
      is (rows mode.AfterHead) kind h f)
  by false e h = uses-poised 4 t kind m h f s is

-- the kinds of all tokens

abbrev pub head_contents : List (List ℕ)
head_contents = codes "base" ∷ codes "basefont" ∷ codes "bgsound" ∷ codes "link" ∷ codes "meta" ∷ codes "noframes" ∷
    codes "script" ∷ codes "style" ∷ codes "template" ∷ codes "title" ∷ []

abbrev pub named_apart : List (List ℕ)
named_apart = codes "html" ∷ codes "head" ∷ head_contents

abbrev pub each_kind : (Kind → Bool) → Bool
each_kind p = p (Starts (codes "html" ∷ []))
    && (p (Starts (codes "head" ∷ []))
    && (p (Starts head_contents) && (p (StartsBut named_apart) && (p (EndsBut []) && (p Texts && (p Nulls && (p TheEnd && p Others)))))))
