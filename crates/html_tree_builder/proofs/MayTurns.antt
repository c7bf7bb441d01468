-- Every turn of a token that may come may be taken.
use Rattle.std.proofs.Common.{◌≡◌, ◌∙◌, ℕ, zero, suc, Bool, true, false, List, [], ◌∷◌, Option, Some, None, refl, sym, ap, subst, codes}
use Rattle.std.specs.Prelude.{◌||◌, ◌&&◌, not, IfSome}
use Rattle.std.specs.List.{list_all}
use Rattle.std.proofs.lemmas.Bool.{and_parts}
use Rattle.markup.specs.Forest.{data_of, element_name}
use Rattle.html_tokens.specs.declared.tags.Tag.{Tag}
use Rattle.html_tokens.specs.declared.tags.TagKind.{TagKind}
use Rattle.html_tokens.specs.declared.tags.TagKind.TheVariants.{StartTag, EndTag}
use Rattle.html_tokens.specs.declared.token.Token.{Token}
use Rattle.html_tokens.specs.declared.token.Token.TheVariants.{DoctypeToken, TagToken, CommentToken, CharacterTokens}
use Rattle.html_tokens.specs.declared.token.Token.TheVariants.{NullCharacterToken, EOFToken, ParseError as ErrorToken}
use Rattle.html_rules.specs.Actions.{act}
use Rattle.html_rules.specs.Conditions.{holds}
use Rattle.html_rules.specs.ForeignContent.{is_end_tag, is_start_tag}
use Rattle.html_rules.specs.Modes.Foreign.{in_foreign_content}
use Rattle.html_rules.specs.Names.{Html, MathMl, Svg, Other, element_name_of}
use Rattle.html_rules.specs.Rules.{Turn, first_fit, fits, most_modes, rows, using_rules_for}
use Rattle.html_rules.specs.Sets.{mathml_names_of, set_by, svg_names_of}
use Rattle.html_rules.specs.Shape.{is_at_root}
use Rattle.html_rules.specs.Stack.{parse_error}
use Rattle.html_rules.specs.State.{State}
use Rattle.html_rules.specs.Table.{Row, row, Class, AnythingElse, StartTags, Action, Nothing, Then, When, ParseError, CloseItem}
use Rattle.html_rules.specs.Table.{EnterForeign, InsertForeign, PopForeign, PushHeadElem, RemoveHeadElem, Conclusion, Done}
use Rattle.html_rules.specs.Table.{Acknowledged, Using, UsingThen, UsingCurrentMode}
use Rattle.html_rules.specs.Tokens.{class_fits}
use Rattle.html_rules.specs.declared.insertion_mode.InsertionMode.{InsertionMode}
use Rattle.html_rules.specs.declared.insertion_mode.InsertionMode.TheVariants as mode
use Rattle.html_rules.specs.declared.rules.Rules.{Rules}
use Rattle.html_rules.specs.declared.tag_set.TagSet.{TagSet}
use Rattle.html_rules.specs.declared.tag_set.TagSet.TheVariants as set
use Rattle.html_rules_laws.specs.Soundness.{IsClear}
use Rattle.html_rules_laws.specs.Upright.{MayCome, Upright, is_first, is_head_start}
use Rattle.html_rules_laws.proofs.Bools.{both, no, or_by}
use Rattle.html_rules_laws.proofs.FirstFit.{by_fit, class_of_fits}
use Rattle.html_rules_laws.proofs.Termination.Kinds.{Kind, StartsBut, EndsBut, Texts, Nulls, TheEnd, Others, is_of}
use Rattle.html_rules_laws.proofs.TreePreserved.Heads.{root-clear}
use Rattle.html_rules_laws.proofs.TreePreserved.Poised.{Poised, act-poised}
use Rattle.html_rules_laws.proofs.TreePreserved.Turns.{is_pop, poised-of, popped-mode, popped-poised, popped-root}
use Rattle.html_tree_builder.specs.Acting.{MayAct}
use Rattle.html_tree_builder.specs.Turning.{MayConclude, MayTakeRow, MayTurn, MayUse}

-- actions that may always be taken

abbrev is_nothing : List (List ℕ) → Bool
is_nothing [] = true
is_nothing (name ∷ names) = false

-- sets of names that all rules share
abbrev is_shared : TagSet → Bool
is_shared set.Li = true
is_shared set.DdDt = true
is_shared names = false

shared-same : (names : TagSet) → is_shared names ≡ true → (rules : Rules) → set_by rules names ≡ names
shared-same set.Li h rules = refl
shared-same set.DdDt h rules = refl
shared-same names h rules = no h

abbrev is_free : Action → Bool
is_free (Then a b) = is_free a && is_free b
is_free (When c a) = is_free a
is_free PushHeadElem = false
is_free InsertForeign = false
is_free (EnterForeign (Other uri)) = false
is_free (CloseItem names) = is_shared names && (is_nothing (mathml_names_of names) && is_nothing (svg_names_of names))
is_free a = true

nothing-is : (names : List (List ℕ)) → is_nothing names ≡ true → names ≡ []
nothing-is [] h = refl
nothing-is (name ∷ names) h = no h

free-act : (a : Action) → is_free a ≡ true → (t : Token) (s : State) → MayAct a t s
free-act (Then a b) h t s = let parts = and_parts (is_free a) (is_free b) h in (free-act a parts.0 t s, free-act b parts.1 t (act a t s))
free-act (When c a) h t s = free-act a h t s
free-act PushHeadElem h t s = no h
free-act InsertForeign h t s = no h
free-act (EnterForeign (Other uri)) h t s = no h
free-act (EnterForeign Html) h t s = tt
free-act (EnterForeign MathMl) h t s = tt
free-act (EnterForeign Svg) h t s = tt
free-act (CloseItem names) h t s =
    let shared = and_parts (is_shared names) (is_nothing (mathml_names_of names) && is_nothing (svg_names_of names)) h in
    let parts = and_parts (is_nothing (mathml_names_of names)) (is_nothing (svg_names_of names)) shared.1 in
    record {
      no_mathml = nothing-is (mathml_names_of names) parts.0;
      no_svg = nothing-is (svg_names_of names) parts.1;
      same = shared-same names shared.0;
    }
free-act a h t s = tt

-- rows that may always be taken

abbrev is_after_head : InsertionMode → Bool
is_after_head mode.AfterHead = true
is_after_head m = false

abbrev ends_free : Conclusion → Bool
ends_free (Using m) = not (is_after_head m)
ends_free (UsingThen m after) = not (is_after_head m) && is_free after
ends_free UsingCurrentMode = false
ends_free e = true

abbrev row_free : Row → Bool
row_free r = is_free r.does && ends_free r.ends

modes-free : (m : InsertionMode) → not (is_after_head m) ≡ true → list_all row_free (rows m) ≡ true
unfolding rows mathml_names_of svg_names_of
modes-free mode.Initial h = refl
modes-free mode.BeforeHtml h = refl
modes-free mode.BeforeHead h = refl
modes-free mode.InHead h = refl
modes-free mode.InHeadNoscript h = refl
modes-free mode.AfterHead h = no h
modes-free mode.InBody h = refl
modes-free mode.Text h = refl
modes-free mode.InTable h = refl
modes-free mode.InTableText h = refl
modes-free mode.InCaption h = refl
modes-free mode.InColumnGroup h = refl
modes-free mode.InTableBody h = refl
modes-free mode.InRow h = refl
modes-free mode.InCell h = refl
modes-free mode.InTemplate h = refl
modes-free mode.AfterBody h = refl
modes-free mode.InFrameset h = refl
modes-free mode.AfterFrameset h = refl
modes-free mode.AfterAfterBody h = refl
modes-free mode.AfterAfterFrameset h = refl

-- what holds of each row that passes a test and fits holds of the first that fits
first-of : (ok : Row → Bool) (P : Row → Type 0) (t : Token) (s : State)
    → ((r : Row) → ok r ≡ true → class_fits r.on t ≡ true → P r) → P (row AnythingElse Nothing Done)
    → (rs : List Row) → list_all ok rs ≡ true → P (first_fit rs t s)
first-of ok P t s go none [] h = none
first-of ok P t s go none (r ∷ rs) h =
    let parts = and_parts (ok r) (list_all ok rs) h in
    by_fit P r (first_fit rs t s) (fits r t s)
    (λ fit. go r parts.0 (class_of_fits (class_fits r.on t) (λ _. holds r.when t s) fit)) (first-of ok P t s go none rs parts.1)

ends-free : (may : InsertionMode → Token → State → Type 0) (using : InsertionMode → Token → State → Turn)
    (t : Token) → ((m : InsertionMode) → not (is_after_head m) ≡ true → (s : State) → may m t s)
    → (e : Conclusion) → ends_free e ≡ true → (s : State) → MayConclude may using e t s
ends-free may using t go (Using m) h s = go m h s
ends-free may using t go (UsingThen m after) h s = let parts = and_parts (not (is_after_head m)) (is_free after) h
    in (go m parts.0 s, free-act after parts.1 t (using m t s).state)
ends-free may using t go UsingCurrentMode h s = no h
ends-free may using t go e h s = tt

row-free : (may : InsertionMode → Token → State → Type 0) (using : InsertionMode → Token → State → Turn) (t : Token)
    → ((m : InsertionMode) → not (is_after_head m) ≡ true → (s : State) → may m t s)
    → (r : Row) → row_free r ≡ true → (s : State) → MayTakeRow may using r t s
row-free may using t go r h s = let parts = and_parts (is_free r.does) (ends_free r.ends) h in
    (free-act r.does parts.0 t s, ends-free may using t go r.ends parts.1 (act r.does t s))

uses-free : (n : ℕ) (t : Token) (m : InsertionMode) → not (is_after_head m) ≡ true → (s : State) → MayUse n m t s
unfolding MayUse
uses-free zero t m h s = tt
uses-free (suc n) t m h s =
    first-of row_free (λ r. MayTakeRow (MayUse n) (using_rules_for n) r t s) t s
    (λ r free on. row-free (MayUse n) (using_rules_for n) t (uses-free n t) r free s)
    (tt, tt) (rows m) (modes-free m h)

-- where the head is opened again

abbrev takes_head : Class → Bool
takes_head (StartTags set.HeadContent) = true
takes_head on = false

abbrev opens_head : Action → Conclusion → Bool
opens_head (Then ParseError PushHeadElem) (UsingThen mode.InHead RemoveHeadElem) = true
opens_head a e = false

abbrev row_of_head : Row → Bool
row_of_head r = row_free r || (takes_head r.on && opens_head r.does r.ends)

after_head-rows : list_all row_of_head (rows mode.AfterHead) ≡ true
unfolding rows
after_head-rows = refl

head-start : (t : Token) → class_fits (StartTags set.HeadContent) t ≡ true → is_head_start t ≡ true
head-start (TagToken tag) h = h
head-start t h = no h

start-of : (on : Class) (t : Token) → takes_head on ≡ true → class_fits on t ≡ true → is_head_start t ≡ true
start-of (StartTags set.HeadContent) t h f = head-start t f
start-of on t h f = no h

-- the root alone is open, and the head element pointer names a head
head-may : (o : Option ℕ) (s : State) → Upright s → is_at_root s.open_elems ≡ true
    → IfSome o (λ n. element_name (data_of s.forest n) ≡ Some (element_name_of Html (codes "head")))
    → IfSome o (λ n. (element_name (data_of s.forest n) ≡ Some (element_name_of Html (codes "head"))) × IsClear s.forest n s.open_elems)
head-may None s h root named = tt
head-may (Some n) s h root named = (named, root-clear s n h root named)

tag-kind : (tag : Tag) (kind : TagKind) → tag.kind ≡ kind → (k : Kind) × (is_of k (TagToken tag) ≡ true)
tag-kind tag StartTag e = (StartsBut [], both _ _ (ap is_start_tag e) refl)
tag-kind tag EndTag e = (EndsBut [], both _ _ (ap is_end_tag e) refl)

kind-of : (t : Token) → (k : Kind) × (is_of k t ≡ true)
kind-of (TagToken tag) = tag-kind tag tag.kind refl
kind-of (CharacterTokens text) = (Texts, refl)
kind-of NullCharacterToken = (Nulls, refl)
kind-of EOFToken = (TheEnd, refl)
kind-of (CommentToken text) = (Others, refl)
kind-of (DoctypeToken d) = (Others, refl)
kind-of (ErrorToken message) = (Others, refl)

head-row : (n : ℕ) (t : Token) (s : State) → Poised s → is_at_root s.open_elems ≡ true
    → (a : Action) (e : Conclusion) → opens_head a e ≡ true → MayAct a t s × MayConclude (MayUse n) (using_rules_for n) e t (act a t s)
unfolding parse_error
head-row n t s h root (Then ParseError PushHeadElem) (UsingThen mode.InHead RemoveHeadElem) o =
    let kind = kind-of t in
    let told = act-poised kind.0 ParseError refl t kind.1 s h in (
      (tt, head-may (act ParseError t s).head_elem (act ParseError t s) told.upright root told.upright.head),
      (uses-free n t mode.InHead refl _, tt),
    )
head-row n t s h root a e o = no o

-- what is known where the rules are those after a head
pub record IsOverRoot (t : Token) (s : State) : Type 0 where
  pub poised : Poised s
  pub root : is_head_start t ≡ true → is_at_root s.open_elems ≡ true

after-head : (m : InsertionMode) → is_after_head m ≡ true → m ≡ mode.AfterHead
after-head mode.AfterHead h = refl
after-head m h = no h

over-root : (n : ℕ) (t : Token) (s : State) → IsOverRoot t s → MayUse n mode.AfterHead t s
unfolding MayUse
over-root zero t s h = tt
over-root (suc n) t s h =
    first-of row_of_head (λ r. MayTakeRow (MayUse n) (using_rules_for n) r t s) t s
    (λ r ok on. or_by (row_free r) _ ok (λ free. row-free (MayUse n) (using_rules_for n) t (uses-free n t) r free s)
    (λ head. let parts = and_parts (takes_head r.on) (opens_head r.does r.ends) head in head-row n t s h.poised
    (h.root (start-of r.on t parts.0 on)) r.does r.ends parts.1))
    (tt, tt) (rows mode.AfterHead) after_head-rows

mode-may : (n : ℕ) (t : Token) (m : InsertionMode) (s : State) → (m ≡ mode.AfterHead → IsOverRoot t s) → MayUse n m t s
mode-may n t m s h = by (is_after_head m) refl where
  by : (b : Bool) → is_after_head m ≡ b → MayUse n m t s
  by true e = let at = after-head m e in subst (λ m. MayUse n m t s) (sym at) (over-root n t s (h at))
  by false e = uses-free n t m (ap not e) s

-- foreign content

abbrev is_insert : Action → Bool
is_insert InsertForeign = true
is_insert a = false

abbrev foreign_ok : Action → Conclusion → Bool
foreign_ok a Done = is_free a
foreign_ok a Acknowledged = is_insert a
foreign_ok a UsingCurrentMode = is_pop a
foreign_ok a e = false

popped-free : (a : Action) → is_pop a ≡ true → is_free a ≡ true
popped-free (Then ParseError PopForeign) h = refl
popped-free ParseError h = refl
popped-free a h = no h

popped-over : (a : Action) → is_pop a ≡ true → (t : Token) (s : State) → IsOverRoot t s → IsOverRoot t (act a t s)
popped-over a h t s is = record {
  poised = let kind = kind-of t in popped-poised a h t kind.0 kind.1 s is.poised;
  root = λ start. popped-root a h t s (is.root start);
}

inserted-may : (a : Action) → is_insert a ≡ true → (t : Token) (s : State) → Upright s → MayAct a t s
inserted-may InsertForeign h t s is = is.context
inserted-may a h t s is = no h

foreign-row : (t : Token) (s : State) → Upright s → (s.mode ≡ mode.AfterHead → IsOverRoot t s)
    → (a : Action) (e : Conclusion) → foreign_ok a e ≡ true → MayAct a t s × MayConclude (MayUse most_modes)
    (using_rules_for most_modes) e t (act a t s)
foreign-row t s is over a Done h = (free-act a h t s, tt)
foreign-row t s is over a Acknowledged h = (inserted-may a h t s is, tt)
foreign-row t s is over a UsingCurrentMode h = (
  free-act a (popped-free a h) t s,
  mode-may 4 t (act a t s).mode (act a t s)
      (λ at. popped-over a h t s (over (sym (popped-mode a h t s) ∙ at))),
)
foreign-row t s is over a e h = no h

-- one turn

is-over-root : (t : Token) (s : State) → MayCome t s → s.mode ≡ mode.AfterHead → IsOverRoot t s
is-over-root t s may at = record { poised = poised-of s may.held may.upright (ap is_first at); root = λ start. may.head start at }

pub may-turn : (t : Token) (s : State) → MayCome t s → MayTurn t s
may-turn t s may = record {
  foreign = λ f.
      first-of (λ r. foreign_ok r.does r.ends) (λ r. MayTakeRow (MayUse most_modes) (using_rules_for most_modes) r t s) t s
      (λ r ok on. foreign-row t s may.upright (is-over-root t s may) r.does r.ends ok)
      (tt, tt) in_foreign_content refl;
  mode = λ f. mode-may 4 t s.mode s (is-over-root t s may);
}
