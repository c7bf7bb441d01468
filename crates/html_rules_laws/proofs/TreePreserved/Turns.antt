-- Every turn keeps a state upright.
use Rattle.std.proofs.Common.{◌≡◌, ◌∙◌, ℕ, Bool, true, false, List, [], ◌∷◌, Option, Some, None, refl, sym, ap, subst, true≢false, codes}
use Rattle.std.specs.Prelude.{◌||◌, ◌&&◌, not}
use Rattle.std.proofs.lemmas.Bool.{and_parts}
use Rattle.markup.specs.TreeLaws.{with_errors}
use Rattle.html_tokens.specs.declared.tags.Tag.{Tag}
use Rattle.html_tokens.specs.declared.tags.TagKind.{TagKind}
use Rattle.html_tokens.specs.declared.tags.TagKind.TheVariants.{StartTag, EndTag}
use Rattle.html_tokens.specs.declared.token.Token.{Token}
use Rattle.html_tokens.specs.declared.token.Token.TheVariants.{DoctypeToken, TagToken, CommentToken, CharacterTokens}
use Rattle.html_tokens.specs.declared.token.Token.TheVariants.{NullCharacterToken, EOFToken, ParseError as ErrorToken}
use Rattle.html_rules.specs.Actions.{act, set_mode}
use Rattle.html_rules.specs.Choice.{choose}
use Rattle.html_rules.specs.ForeignContent.{ends_foreign, ends_foreign_in, foreign_start, is_end_tag, is_foreign, is_html_element, is_start_tag, pop_foreign}
use Rattle.html_rules.specs.Modes.Foreign.{in_foreign_content}
use Rattle.html_rules.specs.Places.{create_root}
use Rattle.html_rules.specs.Rules.{Again, Turn, concluded, first_fit, most_modes, rows, turn, turn_by_row, using_rules_for}
use Rattle.html_rules.specs.Sets.{by_rules, is_among, mathml_names_of, names_of, svg_names_of}
use Rattle.html_rules.specs.Shape.{is_at_root}
use Rattle.html_rules.specs.Stack.{left_from, parse_error, pop_until_current}
use Rattle.html_rules.specs.State.{Open, State, adjusted_by, adjusted_current_node, current_number, is_in}
use Rattle.html_rules.specs.Table.{Row, Action, Then, ParseError, CreateRoot, CreateNewRoot, InsertForeign, PopForeign}
use Rattle.html_rules.specs.Table.{SwitchTo, Conclusion, Done, Acknowledged, Reprocess, UsingCurrentMode}
use Rattle.html_rules.specs.Tokens.{attributes_of}
use Rattle.html_rules.specs.declared.insertion_mode.InsertionMode.{InsertionMode}
use Rattle.html_rules.specs.declared.insertion_mode.InsertionMode.TheVariants as mode
use Rattle.html_rules.specs.declared.tag_set.TagSet.TheVariants as set
use Rattle.html_rules_laws.specs.Held.{Held}
use Rattle.html_rules_laws.specs.Ready.{are_formatting}
use Rattle.html_rules_laws.specs.Settled.{are_template_modes, is_template_mode}
use Rattle.html_rules_laws.specs.Sound.{is_later_original}
use Rattle.html_rules_laws.specs.Soundness.{is_plain_action}
use Rattle.html_rules_laws.specs.Upright.{MayCome, Upright, is_first, is_head_start}
use Rattle.html_rules_laws.proofs.Frames.Aside.{aside_kept}
use Rattle.html_rules_laws.proofs.Termination.Kinds.{Kind, Starts, StartsBut, EndsBut, Texts, Nulls, TheEnd, Others, is_of}
use Rattle.html_rules_laws.proofs.Soundness.Rows.{quiet, quiet-same, quiet-tame}
use Rattle.html_rules_laws.proofs.Soundness.Scan.{scan, scan-holds}
use Rattle.html_rules_laws.proofs.Soundness.Specials.{before_html_ok}
use Rattle.html_rules_laws.proofs.Soundness.Steps.{foreign-some, foreign-there, html-root, turn-held}
use Rattle.html_rules_laws.proofs.Soundness.Tokens.{is_insert_foreign}
use Rattle.html_rules_laws.proofs.TreePreserved.StandingActions.{foreign_start-Standing, own-by}
use Rattle.html_rules_laws.proofs.Frames.Tame.{foreign-tame}
use Rattle.html_rules_laws.proofs.TreePreserved.Again.{turn-next}
use Rattle.html_rules_laws.proofs.TreePreserved.Poised.{Poised, act-poised, eased-Upright, is_first_original, no_first}
use Rattle.html_rules_laws.proofs.TreePreserved.Poised.{poised_in, tame-upright}
use Rattle.html_rules_laws.proofs.TreePreserved.Roots.{rooted-Upright}
use Rattle.html_rules_laws.proofs.TreePreserved.Rows.{each_kind, head_contents, mode-poised, mode_poised, named_apart, uses_poised}
use Rattle.html_rules_laws.proofs.TreePreserved.Steps.{foreign_start_at-eased}
use Rattle.html_rules_laws.proofs.Bools.{both, no, or_by}
use Rattle.html_rules_laws.proofs.Frames.KeptBySteps.{foreign-keeps}

-- the kind of a token

module _ (p : Kind → Bool) (all : each_kind p ≡ true) where
  tests : (p (Starts (codes "html" ∷ [])) ≡ true)
      × ((p (Starts (codes "head" ∷ [])) ≡ true)
      × ((p (Starts head_contents) ≡ true)
      × ((p (StartsBut named_apart) ≡ true) × ((p (EndsBut []) && (p Texts && (p Nulls && (p TheEnd && p Others)))) ≡ true))))
  tests =
      let one = and_parts (p (Starts (codes "html" ∷ []))) _ all in
      let two = and_parts (p (Starts (codes "head" ∷ []))) _ one.1 in
      let three = and_parts (p (Starts head_contents)) _ two.1 in
      let four = and_parts (p (StartsBut named_apart)) _ three.1 in
      (one.0, (two.0, (three.0, (four.0, four.1))))

  others : (p (EndsBut []) ≡ true) × ((p Texts ≡ true) × ((p Nulls ≡ true) × ((p TheEnd ≡ true) × (p Others ≡ true))))
  others =
      let one = and_parts (p (EndsBut [])) _ tests.1.1.1.1 in
      let two = and_parts (p Texts) _ one.1 in
      let three = and_parts (p Nulls) _ two.1 in
      let four = and_parts (p TheEnd) _ three.1 in
      (one.0, (two.0, (three.0, four)))

  apart : (a b : Bool) (rest : Bool) → (a || false) ≡ false → (b || false) ≡ false → rest ≡ false → not (a || (b || rest)) ≡ true
  apart true b rest h k l = absurd (true≢false h)
  apart false true rest h k l = absurd (true≢false k)
  apart false false true h k l = absurd (true≢false l)
  apart false false false h k l = refl

  start-kind : (tag : Tag) → is_start_tag tag.kind ≡ true → (kind : Kind) × ((p kind ≡ true) × (is_of kind (TagToken tag) ≡ true))
  start-kind tag s = by (is_among tag.name (codes "html" ∷ [])) (is_among tag.name (codes "head" ∷ []))
      (is_among tag.name head_contents) refl refl refl where
        by : (a b c : Bool) → is_among tag.name (codes "html" ∷ []) ≡ a → is_among tag.name (codes "head" ∷ []) ≡ b
            → is_among tag.name head_contents ≡ c → (kind : Kind) × ((p kind ≡ true) × (is_of kind (TagToken tag) ≡ true))
        by true b c ea eb ec = (Starts (codes "html" ∷ []), (tests.0, both _ _ s ea))
        by false true c ea eb ec = (Starts (codes "head" ∷ []), (tests.1.0, both _ _ s eb))
        by false false true ea eb ec = (Starts head_contents, (tests.1.1.0, both _ _ s ec))
        by false false false ea eb ec = (StartsBut named_apart, (tests.1.1.1.0, both _ _ s (apart _ _ _ ea eb ec)))

  tag-kind : (tag : Tag) (kind : TagKind) → tag.kind ≡ kind → (kind : Kind) × ((p kind ≡ true) × (is_of kind (TagToken tag) ≡ true))
  tag-kind tag StartTag e = start-kind tag (ap is_start_tag e)
  tag-kind tag EndTag e = (EndsBut [], (others.0, both _ _ (ap is_end_tag e) refl))

  kind-of : (t : Token) → (kind : Kind) × ((p kind ≡ true) × (is_of kind t ≡ true))
  kind-of (TagToken tag) = tag-kind tag tag.kind refl
  kind-of (CharacterTokens text) = (Texts, (others.1.0, refl))
  kind-of NullCharacterToken = (Nulls, (others.1.1.0, refl))
  kind-of EOFToken = (TheEnd, (others.1.1.1.0, refl))
  kind-of (CommentToken text) = (Others, (others.1.1.1.1, refl))
  kind-of (DoctypeToken d) = (Others, (others.1.1.1.1, refl))
  kind-of (ErrorToken message) = (Others, (others.1.1.1.1, refl))

-- before the root is made

-- what a turn leaves
pub record IsLeft (r : State) : Type 0 where
  pub upright : Upright r
  pub empty : is_first r.mode ≡ true → r.open_elems ≡ []

abbrev to_html : Conclusion → Bool
to_html Done = true
to_html (Reprocess mode.BeforeHtml) = true
to_html e = false

abbrev first_row : Kind → Row → Bool
first_row kind r = (quiet r.does && (is_plain_action r.does && to_html r.ends)) || before_html_ok r.does r.ends

moved-Upright : (m : InsertionMode) (s : State) → Upright s → Upright (set_mode m s)
unfolding set_mode
moved-Upright m s h = record { standing = h.standing; rooted = h.rooted; head = h.head; context = h.context }

first-ends : (using : InsertionMode → Token → State → Turn) (e : Conclusion) → to_html e ≡ true
    → (t : Token) (script : ℕ) (s : State) → s.open_elems ≡ [] → Upright s → IsLeft (concluded using e t script s).state
unfolding set_mode
first-ends using Done h t script s empty is = record { upright = is; empty = λ _. empty }
first-ends using (Reprocess mode.BeforeHtml) h t script s empty is =
    record { upright = moved-Upright mode.BeforeHtml s is; empty = λ _. empty }
first-ends using e h t script s empty is = no h

rooted-ends : (using : InsertionMode → Token → State → Turn) (a : Action) (e : Conclusion)
    → before_html_ok a e ≡ true → (t : Token) (script : ℕ) (s : State) → s.open_elems ≡ [] → Upright s
    → IsLeft (concluded using e t script (act a t s)).state
unfolding set_mode
rooted-ends using (Then CreateRoot (SwitchTo mode.BeforeHead)) Done h t script s empty is =
    record {
      upright = moved-Upright mode.BeforeHead (create_root (attributes_of t) s)
          (rooted-Upright (attributes_of t) s empty is);
      empty = λ e. no e;
    }
rooted-ends using CreateNewRoot (Reprocess mode.BeforeHead) h t script s empty is =
    record { upright = moved-Upright mode.BeforeHead (create_root [] s) (rooted-Upright [] s empty is); empty = λ e. no e }
rooted-ends using a e h t script s empty is = no h

first-row : (using : InsertionMode → Token → State → Turn) (kind : Kind) (r : Row) → first_row kind r ≡ true
    → (t : Token) → is_of kind t ≡ true → (s : State) → s.open_elems ≡ []
    → are_formatting s.active_formatting ≡ true → Upright s → IsLeft (turn_by_row using r t s).state
first-row using kind r h t f s empty l is =
    or_by (quiet r.does && (is_plain_action r.does && to_html r.ends)) _ h
    (λ k. let parts = and_parts (quiet r.does) _ k in let more = and_parts (is_plain_action r.does) _ parts.1 in
    first-ends using r.ends more.1 t (current_number s.open_elems) (act r.does t s)
    (quiet-same r.does parts.0 t s ∙ empty) (tame-upright kind r.does (quiet-tame kind r.does parts.0) more.0 t f s l is))
    (λ k. rooted-ends using r.does r.ends k t (current_number s.open_elems) s empty is)

mode_first : Kind → InsertionMode → Bool
mode_first kind m = scan first_row kind (rows m)

modes_first : (m : InsertionMode) → is_first m ≡ true → each_kind (λ kind. mode_first kind m) ≡ true
unfolding mode_first rows names_of mathml_names_of svg_names_of
modes_first mode.Initial e = refl
modes_first mode.BeforeHtml e = refl
modes_first m e = no e

first-left : (t : Token) (m : InsertionMode) → is_first m ≡ true → (s : State) → s.open_elems ≡ []
    → are_formatting s.active_formatting ≡ true → Upright s → IsLeft (using_rules_for 4 m t s).state
unfolding using_rules_for mode_first
first-left t m e s empty l is =
    let kind = kind-of (λ kind. mode_first kind m) (modes_first m e) t in
    scan-holds first_row (λ r. IsLeft (turn_by_row (using_rules_for 3) r t s).state) t s
    (λ inner r k g of fits. first-row (using_rules_for 3) inner r k t g s empty l is)
    (record { upright = is; empty = λ _. empty }) (rows m) kind.0 kind.1.0 kind.1.1

-- after it

poised-left : (s : State) → Poised s → IsLeft s
poised-left s h = record { upright = h.upright; empty = λ e. absurd (true≢false (sym e ∙ h.mode)) }

template-first : (m : InsertionMode) → is_template_mode m ≡ true → not (is_first m) ≡ true
template-first mode.Initial h = no h
template-first mode.BeforeHtml h = no h
template-first m h = refl

templates-first : (modes : List InsertionMode) → are_template_modes modes ≡ true → no_first modes ≡ true
templates-first [] h = refl
templates-first (m ∷ modes) h = let parts = and_parts (is_template_mode m) (are_template_modes modes) h in
    both _ _ (template-first m parts.0) (templates-first modes parts.1)

later-first : (o : Option InsertionMode) → is_later_original o ≡ true → is_first_original o ≡ false
later-first None h = refl
later-first (Some mode.Initial) h = no h
later-first (Some mode.BeforeHtml) h = no h
later-first (Some m) h = refl

pub poised-of : (s : State) → Held s → Upright s → is_first s.mode ≡ false → Poised s
poised-of s held h e = record {
  upright = h;
  listed = held.listed;
  mode = e;
  original = later-first s.orig_mode held.original;
  modes = templates-first s.template_modes held.modes;
}

-- foreign content

-- what pops the elements of foreign content, or only tells an error
abbrev pub is_pop : Action → Bool
is_pop (Then ParseError PopForeign) = true
is_pop ParseError = true
is_pop a = false

abbrev foreign_ends : InsertionMode → Kind → Action → Conclusion → Bool
foreign_ends m kind a Done = poised_in kind a
foreign_ends m kind a Acknowledged = is_insert_foreign a
foreign_ends m kind a UsingCurrentMode = is_pop a && mode_poised kind m
foreign_ends m kind a e = false

abbrev foreign_row : InsertionMode → Kind → Row → Bool
foreign_row m kind r = foreign_ends m kind r.does r.ends

-- the root stays
root-stays : (s : State) (xs : List Open) → is_at_root xs ≡ true → is_at_root (left_from (ends_foreign_in s) xs) ≡ true
root-stays s [] h = h
root-stays s (x ∷ xs) h = by (is_html_element x) (html-root x h) where
  by : (b : Bool) → b ≡ true
      → is_at_root (choose ((b || is_in set.MathmlTextIntegrationPoint x || is_in set.SvgHtmlIntegrationPoint x)
      || (by_rules s.opts.rules false (is_in set.AnnotationXml x) && s.answers.integration_point (with_errors 0 s.forest) x.number))
      (λ _. x ∷ xs) (λ _. left_from (ends_foreign_in s) xs)) ≡ true
  by true e = h
  by false e = no e

pub popped-root : (a : Action) → is_pop a ≡ true → (t : Token) (s : State) → is_at_root s.open_elems ≡ true
    → is_at_root (act a t s).open_elems ≡ true
unfolding pop_foreign pop_until_current parse_error
popped-root (Then ParseError PopForeign) h t s root = root-stays (parse_error s) s.open_elems root
popped-root ParseError h t s root = root
popped-root a h t s root = no h

pub popped-mode : (a : Action) → is_pop a ≡ true → (t : Token) (s : State) → (act a t s).mode ≡ s.mode
unfolding pop_foreign pop_until_current parse_error
popped-mode (Then ParseError PopForeign) h t s = refl
popped-mode ParseError h t s = refl
popped-mode a h t s = no h

pub popped-poised : (a : Action) → is_pop a ≡ true → (t : Token) (kind : Kind) → is_of kind t ≡ true → (s : State)
    → Poised s → Poised (act a t s)
popped-poised (Then ParseError PopForeign) h t kind f s is = act-poised kind (Then ParseError PopForeign) refl t f s is
popped-poised ParseError h t kind f s is = act-poised kind ParseError refl t f s is
popped-poised a h t kind f s is = no h

foreign-upright : (tag : Tag) (s : State) → is_foreign s (TagToken tag) ≡ true → Upright s → Upright (foreign_start tag s)
unfolding foreign_start
foreign-upright tag s f is =
    let aside = foreign-keeps aside_kept (adjusted_current_node s) tag s in
    eased-Upright s (foreign_start tag s) is (foreign_start-Standing tag s is.context is.standing)
    (foreign_start_at-eased (adjusted_current_node s) tag
    (own-by s.forest s.context_elem s.open_elems is.context is.standing.opened)
    (foreign-there s (TagToken tag) f) s is.standing) aside.head aside.context

pub foreign-poised : (tag : Tag) (s : State) → is_foreign s (TagToken tag) ≡ true → Poised s → Poised (foreign_start tag s)
unfolding foreign_start
foreign-poised tag s f is =
    let aside = foreign-keeps aside_kept (adjusted_current_node s) tag s in
    record {
      upright = foreign-upright tag s f is.upright;
      listed = (foreign-tame (adjusted_current_node s) tag (foreign-there s (TagToken tag) f) s is.listed).listed;
      mode = rw aside.mode is.mode;
      original = rw aside.original is.original;
      modes = rw aside.modes is.modes;
    }

inserted-foreign : (a : Action) → is_insert_foreign a ≡ true → (t : Token) (s : State) → is_foreign s t ≡ true
    → Poised s → Poised (act a t s)
inserted-foreign InsertForeign h (TagToken tag) s f is = foreign-poised tag s f is
inserted-foreign InsertForeign h t s f is = is
inserted-foreign a h t s f is = no h

foreign-ends : (m : InsertionMode) (t : Token) (kind : Kind) (a : Action) (e : Conclusion)
    → foreign_ends m kind a e ≡ true → is_of kind t ≡ true → (s : State) → is_foreign s t ≡ true → Poised s → s.mode ≡ m
    → (is_head_start t ≡ true → m ≡ mode.AfterHead → is_at_root s.open_elems ≡ true) → (script : ℕ)
    → Poised (concluded (using_rules_for 4) e t script (act a t s)).state
foreign-ends m t kind a Done h k s f is at root script = act-poised kind a h t k s is
foreign-ends m t kind a Acknowledged h k s f is at root script = inserted-foreign a h t s f is
foreign-ends m t kind a UsingCurrentMode h k s f is at root script =
    let parts = and_parts (is_pop a) (mode_poised kind m) h in
    let same : (act a t s).mode ≡ m = popped-mode a parts.0 t s ∙ at in
    mode-poised t kind (act a t s).mode (subst (λ m. mode_poised kind m ≡ true) (sym same) parts.1) k (act a t s)
    (λ h e. popped-root a parts.0 t s (root h (sym same ∙ e))) (popped-poised a parts.0 t kind k s is)
foreign-ends m t kind a e h k s f is at root script = no h

mode_upright : InsertionMode → Kind → Bool
mode_upright m kind = mode_poised kind m && scan (foreign_row m) kind in_foreign_content

modes_upright : (m : InsertionMode) → is_first m ≡ false → each_kind (mode_upright m) ≡ true
unfolding mode_upright uses_poised rows names_of mathml_names_of svg_names_of
modes_upright mode.Initial e = absurd (true≢false e)
modes_upright mode.BeforeHtml e = absurd (true≢false e)
modes_upright mode.BeforeHead e = refl
modes_upright mode.InHead e = refl
modes_upright mode.InHeadNoscript e = refl
modes_upright mode.AfterHead e = refl
modes_upright mode.InBody e = refl
modes_upright mode.Text e = refl
modes_upright mode.InTable e = refl
modes_upright mode.InTableText e = refl
modes_upright mode.InCaption e = refl
modes_upright mode.InColumnGroup e = refl
modes_upright mode.InTableBody e = refl
modes_upright mode.InRow e = refl
modes_upright mode.InCell e = refl
modes_upright mode.InTemplate e = refl
modes_upright mode.AfterBody e = refl
modes_upright mode.InFrameset e = refl
modes_upright mode.AfterFrameset e = refl
modes_upright mode.AfterAfterBody e = refl
modes_upright mode.AfterAfterFrameset e = refl

-- one turn

later-turn : (t : Token) (s : State)
    → (is_head_start t ≡ true → s.mode ≡ mode.AfterHead → is_at_root s.open_elems ≡ true) → Poised s → Poised (turn t s).state
unfolding turn mode_upright
later-turn t s root is = by (is_foreign s t) refl where
  kind : (kind : Kind) × ((mode_upright s.mode kind ≡ true) × (is_of kind t ≡ true))
  kind = kind-of (mode_upright s.mode) (modes_upright s.mode is.mode) t

  parts : (mode_poised kind.0 s.mode ≡ true) × (scan (foreign_row s.mode) kind.0 in_foreign_content ≡ true)
  parts = and_parts (mode_poised kind.0 s.mode) _ kind.1.0

  by : (b : Bool) → is_foreign s t ≡ b
      → Poised (choose b (λ _. turn_by_row (using_rules_for most_modes) (first_fit in_foreign_content t s) t s)
      (λ _. using_rules_for most_modes s.mode t s)).state
  by true f =
      scan-holds (foreign_row s.mode) (λ r. Poised (turn_by_row (using_rules_for 4) r t s).state) t s
      (λ inner r k g of fits. foreign-ends s.mode t inner r.does r.ends k g s f is refl root (current_number s.open_elems))
      is in_foreign_content kind.0 parts.1 kind.1.1
  by false f = mode-poised t kind.0 s.mode parts.0 kind.1.1 s root is

empty-adjusted : (context : Option Open) (xs : List Open) → xs ≡ [] → adjusted_by context xs ≡ None
empty-adjusted context [] e = refl
empty-adjusted context (x ∷ xs) e = absurd (cc)

first-turn : (t : Token) (s : State) → is_first s.mode ≡ true → s.open_elems ≡ []
    → are_formatting s.active_formatting ≡ true → Upright s → IsLeft (turn t s).state
unfolding turn
first-turn t s e empty l is = by (is_foreign s t) refl where
  by : (b : Bool) → is_foreign s t ≡ b
      → IsLeft (choose b (λ _. turn_by_row (using_rules_for most_modes) (first_fit in_foreign_content t s) t s)
      (λ _. using_rules_for most_modes s.mode t s)).state
  by true f = absurd (foreign-some s t f (empty-adjusted s.context_elem s.open_elems empty))
  by false f = first-left t s.mode e s empty l is

pub turn-left : (t : Token) (s : State) → MayCome t s → IsLeft (turn t s).state
turn-left t s may = by (is_first s.mode) refl where
  by : (b : Bool) → is_first s.mode ≡ b → IsLeft (turn t s).state
  by true e = first-turn t s e (may.empty e) may.held.listed may.upright
  by false e = poised-left (turn t s).state (later-turn t s may.head (poised-of s may.held may.upright e))

-- where the token is taken again, it may come
pub turn-again : (t : Token) (s : State) → MayCome t s → (turn t s).ends ≡ Again → MayCome t (turn t s).state
turn-again t s may again =
    let left = turn-left t s may in
    record {
      held = turn-held t s may.held;
      upright = left.upright;
      empty = left.empty;
      head = λ h e. absurd ((turn-next t s h (may.original h) again).head e);
      original = λ h e o. (turn-next t s h (may.original h) again).original e o;
    }
