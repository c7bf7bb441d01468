-- A token leaves what was allowed: turn by turn, and character by character.
use Rattle.std.proofs.Common.{◌≡◌, ◌∙◌, ℕ, zero, suc, Bool, true, false, List, [], ◌∷◌, Option, Some, None, refl, sym, ap, subst, codes}
use Rattle.std.proofs.Common.{true≢false}
use Rattle.std.proofs.lemmas.Bool.{and_parts, not-true}
use Rattle.std.specs.List.{list_all}
use Rattle.std.specs.Prelude.{◌&&◌, ◌||◌, not, is_some, IfOk, IfSome}
use Rattle.markup.specs.Forest.{NodeData, data_of}
use Rattle.markup.specs.Forest.NodeData.{Document, Contents, ProcessingInstruction, Doctype as DoctypeNode, Text as TextNode}
use Rattle.markup.specs.Forest.NodeData.{Comment as CommentNode, Element as ElementNode}
use Rattle.markup.specs.declared.names.QualName.{QualName}
use Rattle.html_tokens.specs.declared.tags.Tag.{Tag}
use Rattle.html_tokens.specs.Sink.{Refusal}
use Rattle.html_tokens.specs.declared.replies.TokenSinkResult.TheVariants as reply
use Rattle.html_tokens.specs.declared.token.Doctype.{Doctype}
use Rattle.html_tokens.specs.declared.token.Token.{Token}
use Rattle.html_tokens.specs.declared.token.Token.TheVariants.{TagToken, DoctypeToken, CommentToken, CharacterTokens, NullCharacterToken}
use Rattle.html_tokens.specs.declared.token.Token.TheVariants.{EOFToken, ParseError as ErrorToken}
use Rattle.html_rules.specs.Actions.{act, restore_mode, set_ignore_lf, set_mode, set_quirks_mode}
use Rattle.html_rules.specs.Choice.{choose}
use Rattle.html_rules.specs.Conditions.{holds}
use Rattle.html_rules.specs.Doctypes.{doctype_error, quirks_of}
use Rattle.html_rules.specs.ForeignContent.{is_end_tag, is_foreign, is_start_tag}
use Rattle.html_rules.specs.Modes.Foreign.{in_foreign_content}
use Rattle.html_rules.specs.Places.{append_doctype_to_document}
use Rattle.html_rules.specs.Rules.{Again, Ending, Finished, Replied, Settled, Turn, check_acknowledged, concluded, first_fit}
use Rattle.html_rules.specs.Rules.{four_for_each, is_self_closing, most_modes, rows, settle, settled_by, turn, turn_by_row}
use Rattle.html_rules.specs.Rules.{using_rules_for, within}
use Rattle.html_rules.specs.Sets.{is_among, names_of}
use Rattle.html_rules.specs.Stack.{body_elem, parse_error, root_number}
use Rattle.html_rules.specs.State.{Open, State, current_number, hushed}
use Rattle.html_rules.specs.Step.{after_line_feed, answered, doctype_settled, doctype_taken, ends_table_text, first_doctype_taken, followed_by, if_kept, is_idle}
use Rattle.html_rules.specs.Step.{refusal_of, step}
use Rattle.html_rules.specs.Step.{step_by, taken, taken_by, text_taken, untouched}
use Rattle.html_rules.specs.Table as table
use Rattle.html_rules.specs.Table.{Class, Conclusion, Row, AnythingElse, Nothing, row}
use Rattle.html_rules.specs.Tokens.{class_fits}
use Rattle.html_rules.specs.declared.insertion_mode.InsertionMode.{InsertionMode}
use Rattle.html_rules.specs.declared.insertion_mode.InsertionMode.TheVariants as mode
use Rattle.html_origins.specs.Allowed.{root_and_body, IsStateAllowed, Allowed, AreRootsAllowed, IsTokenAllowed}
use Rattle.html_origins.proofs.Acts.{Fits, OnTag, act-from, adds_at_once, no_adds, still, still-fits}
use Rattle.html_origins.proofs.Trees.{IsAdding}
use Rattle.html_origins.proofs.Rows.{adding, among-all, given, is_given}
use Rattle.html_origins.proofs.Steps.{Keeps, choose-from, doctype-from, error-from, quirks-from, same-nodes}

-- what a row does at its end is given what it needs
abbrev is_given_end : Class → Conclusion → Bool
is_given_end c (table.UsingThen m after) = is_given c after && no_adds after
is_given_end c e = true

-- a row of this class is for no tag `html` or `body`
abbrev is_for_others : Class → Bool
is_for_others (table.StartTags set) = list_all (λ name. not (is_among name root_and_body)) (names_of set)
is_for_others (table.EndTags set) = list_all (λ name. not (is_among name root_and_body)) (names_of set)
is_for_others table.AnyStartTag = false
is_for_others table.AnyEndTag = false
is_for_others table.AnythingElse = false
is_for_others c = true

-- where the rules of a mode are used, nothing was changed before, or no attributes are added
abbrev is_used_well : Row → Conclusion → Bool
is_used_well r (table.Using m) = is_some (still r.does) || is_for_others r.on
is_used_well r (table.UsingThen m after) = is_some (still r.does) || is_for_others r.on
is_used_well r table.UsingCurrentMode = is_some (still r.does) || is_for_others r.on
is_used_well r e = true

-- attributes are added by an action that changes nothing before, or by none
abbrev is_adding_well : table.Action → Bool
is_adding_well x = no_adds x || is_some (adds_at_once x)

abbrev is_given_row : Row → Bool
is_given_row r = (is_given r.on r.does && is_given_end r.on r.ends) && (is_adding_well r.does && is_used_well r r.ends)

abbrev are_given : List Row → Bool
are_given [] = true
are_given (r ∷ rs) = is_given_row r && are_given rs

-- computed for all rows of all modes
foreign-given : are_given in_foreign_content ≡ true
unfolding names_of
foreign-given = refl

rows-given : (m : InsertionMode) → are_given (rows m) ≡ true
unfolding rows names_of
rows-given mode.Initial = refl
rows-given mode.BeforeHtml = refl
rows-given mode.BeforeHead = refl
rows-given mode.InHead = refl
rows-given mode.InHeadNoscript = refl
rows-given mode.AfterHead = refl
rows-given mode.InBody = refl
rows-given mode.Text = refl
rows-given mode.InTable = refl
rows-given mode.InTableText = refl
rows-given mode.InCaption = refl
rows-given mode.InColumnGroup = refl
rows-given mode.InTableBody = refl
rows-given mode.InRow = refl
rows-given mode.InCell = refl
rows-given mode.InTemplate = refl
rows-given mode.AfterBody = refl
rows-given mode.InFrameset = refl
rows-given mode.AfterFrameset = refl
rows-given mode.AfterAfterBody = refl
rows-given mode.AfterAfterFrameset = refl

-- the row that is met
record IsMet (r : Row) (t : Token) : Type 0 where
  given_row : is_given_row r ≡ true
  fit : class_fits r.on t ≡ true

met : (rs : List Row) (t : Token) (s : State) → are_given rs ≡ true → IsMet (first_fit rs t s) t
met [] t s h = record { given_row = refl; fit = refl }
met (r ∷ rs) t s h =
    let parts = and_parts (is_given_row r) (are_given rs) h in
    by (class_fits r.on t) (holds r.when t s) refl parts.0 (met rs t s parts.1)
  where
    by : (b c : Bool) → class_fits r.on t ≡ b → is_given_row r ≡ true → IsMet (first_fit rs t s) t
        → IsMet (choose (choose b (λ _. c) (λ _. false)) (λ _. r) (λ _. first_fit rs t s)) t
    by true true e first rest = record { given_row = first; fit = e }
    by true false e first rest = rest
    by false c e first rest = rest

no : {P : Type 0} → false ≡ true → P
no h = absurd (true≢false (sym h))

none-among : {P : Type 0} (name : List ℕ) (names : List (List ℕ)) → list_all (λ name. not (is_among name root_and_body)) names ≡ true
    → is_among name names ≡ true → is_among name root_and_body ≡ true → P
none-among name names h k n =
    absurd (true≢false (sym n ∙ not-true (is_among name root_and_body)
    (among-all (λ name. not (is_among name root_and_body)) name names h k)))

never : {P : Type 0} (c : Class) (tag : Tag) → is_for_others c ≡ true → class_fits c (TagToken tag) ≡ true
    → is_among tag.name root_and_body ≡ true → P
never (table.StartTags set) tag h f n =
    none-among tag.name (names_of set) h (and_parts (is_start_tag tag.kind) (is_among tag.name (names_of set)) f).1 n
never (table.EndTags set) tag h f n =
    none-among tag.name (names_of set) h (and_parts (is_end_tag tag.kind) (is_among tag.name (names_of set)) f).1 n
never table.AnyStartTag tag h f n = no h
never table.AnyEndTag tag h f n = no h
never table.AnythingElse tag h f n = no h
never table.WhiteSpace tag h f n = no f
never table.Character tag h f n = no f
never table.Null tag h f n = no f
never table.Comment tag h f n = no f
never table.EndOfFile tag h f n = no f

abbrev is_tag : Token → Bool
is_tag (TagToken tag) = true
is_tag t = false

-- what is asked where the rules of a mode are used
abbrev WhenUsing : Conclusion → Type 0 → Type 0
WhenUsing (table.Using m) P = P
WhenUsing (table.UsingThen m after) P = P
WhenUsing table.UsingCurrentMode P = P
WhenUsing e P = Unit {0}

or-else : {P : Type 0} (x y : Bool) → (x || y) ≡ true → (x ≡ true → P) → (y ≡ true → P) → P
or-else true y h f g = f refl
or-else false y h f g = g h

some-of : {X P : Type 0} (o : Option X) → is_some o ≡ true → (X → P) → P
some-of (Some x) h go = go x
some-of None h go = no h

module _ (a : Allowed) where
  not-tag : (t : Token) (s : State) → is_tag t ≡ false → Fits a t s
  not-tag t s h = record {
    root = λ tag e n. absurd (true≢false (sym (ap is_tag e) ∙ h));
    body = λ tag e n. absurd (true≢false (sym (ap is_tag e) ∙ h));
    document = λ tag e n. absurd (true≢false (sym (ap is_tag e) ∙ h));
  }

  others-fit : (c : Class) (t : Token) (s : State) → is_for_others c ≡ true → class_fits c t ≡ true → Fits a t s
  others-fit c t s h f = record {
    root = λ tag e n. never c tag h (subst (λ t. class_fits c t ≡ true) e f)
        (among-all (λ name. is_among name root_and_body) tag.name (codes "html" ∷ []) refl n);
    body = λ tag e n. never c tag h (subst (λ t. class_fits c t ≡ true) e f)
        (among-all (λ name. is_among name root_and_body) tag.name (codes "body" ∷ []) refl n);
    document = λ tag e n. never c tag h (subst (λ t. class_fits c t ≡ true) e f)
        (among-all (λ name. is_among name root_and_body) tag.name (codes "html" ∷ []) refl n);
  }

  used : (r : Row) (t : Token) (s : State) → (is_some (still r.does) || is_for_others r.on) ≡ true → class_fits r.on t ≡ true → Fits a t s
      → Fits a t (act r.does t s)
  used r t s h f fits = or-else (is_some (still r.does)) (is_for_others r.on) h
      (λ e. some-of (still r.does) e (λ p. still-fits a r.does t s p fits)) (λ e. others-fit r.on t (act r.does t s) e f)

  used-fit : (r : Row) (e : Conclusion) (t : Token) (s : State) → is_used_well r e ≡ true → class_fits r.on t ≡ true → Fits a t s
      → WhenUsing e (Fits a t (act r.does t s))
  used-fit r (table.Using m) t s h f fits = used r t s h f fits
  used-fit r (table.UsingThen m after) t s h f fits = used r t s h f fits
  used-fit r table.UsingCurrentMode t s h f fits = used r t s h f fits
  used-fit r table.Done t s h f fits = tt
  used-fit r table.Acknowledged t s h f fits = tt
  used-fit r (table.Reprocess m) t s h f fits = tt
  used-fit r table.ReprocessInOriginal t s h f fits = tt
  used-fit r table.ReprocessInMode t s h f fits = tt
  used-fit r (table.RawText kind) t s h f fits = tt
  used-fit r table.PlainText t s h f fits = tt
  used-fit r table.RunScript t s h f fits = tt
  used-fit r table.ReportEncoding t s h f fits = tt

-- what a state has to have between the turns of a tag, so that attributes come only to elements that may take them
pub record Fitting (a : Allowed) : Type 1 where
  pub Holds : Tag → State → Type 0
  pub fits : (tag : Tag) (s : State) → Holds tag s → Fits a (TagToken tag) s
  pub again : (tag : Tag) (s : State) → Holds tag s → (turn (TagToken tag) s).ends ≡ Again → Holds tag (turn (TagToken tag) s).state

module _ (a : Allowed) (roots : AreRootsAllowed a) (F : Fitting a) where
  given-from : (x : table.Action) (c : Class) (t : Token) (s : State) → is_given c x ≡ true → no_adds x ≡ true → class_fits c t ≡ true
      → IsTokenAllowed a t → IsStateAllowed a s → IsStateAllowed a (act x t s)
  given-from x c t s h g f k is = act-from a roots.namespace x t s g (given a roots x c t h f k) is

  does-from : (x : table.Action) (c : Class) (t : Token) (s : State) → is_given c x ≡ true → is_adding_well x ≡ true
      → class_fits c t ≡ true → IsTokenAllowed a t → Fits a t s → IsStateAllowed a s → IsStateAllowed a (act x t s)
  does-from x c t s h g f k fits is = or-else (no_adds x) (is_some (adds_at_once x)) g
      (λ e. given-from x c t s h e f k is)
      (λ e. some-of (adds_at_once x) e (λ p. adding a roots x c t s p h f k fits is))

  -- what holds between the turns of a token
  abbrev HoldsOn : Token → State → Type 0
  HoldsOn t s = OnTag t (λ tag. F.Holds tag s)

  holds-fits : (t : Token) (s : State) → HoldsOn t s → Fits a t s
  holds-fits (TagToken tag) s h = F.fits tag s h
  holds-fits (DoctypeToken d) s h = not-tag a _ s refl
  holds-fits (CommentToken text) s h = not-tag a _ s refl
  holds-fits (CharacterTokens text) s h = not-tag a _ s refl
  holds-fits NullCharacterToken s h = not-tag a _ s refl
  holds-fits EOFToken s h = not-tag a _ s refl
  holds-fits (ErrorToken message) s h = not-tag a _ s refl

  holds-again : (t : Token) (s : State) → HoldsOn t s → (turn t s).ends ≡ Again → HoldsOn t (turn t s).state
  holds-again (TagToken tag) s h e = F.again tag s h e
  holds-again (DoctypeToken d) s h e = tt
  holds-again (CommentToken text) s h e = tt
  holds-again (CharacterTokens text) s h e = tt
  holds-again NullCharacterToken s h e = tt
  holds-again EOFToken s h e = tt
  holds-again (ErrorToken message) s h e = tt

  -- what no part that is spoken of changes
  mode-from : (m : InsertionMode) → Keeps a (set_mode m)
  unfolding set_mode
  mode-from m s is = record { elements = is.elements; listed = is.listed; opened = is.opened; context = is.context }

  restored-from : Keeps a restore_mode
  unfolding restore_mode
  restored-from s is = record { elements = is.elements; listed = is.listed; opened = is.opened; context = is.context }

  line_feed-from : (b : Bool) → Keeps a (set_ignore_lf b)
  unfolding set_ignore_lf
  line_feed-from b s is = record { elements = is.elements; listed = is.listed; opened = is.opened; context = is.context }

  hushed-from : Keeps a hushed
  hushed-from s is = record {
    elements = same-nodes a s.forest is.elements _ _;
    listed = is.listed;
    opened = is.opened;
    context =
        is.context;
  }

  module _ (t : Token) (from : IsTokenAllowed a t) where
    abbrev Uses : (InsertionMode → Token → State → Turn) → Type 0
    Uses using = (m : InsertionMode) (s : State) → Fits a t s → IsStateAllowed a s → IsStateAllowed a (using m t s).state

    concluded-from : (using : InsertionMode → Token → State → Turn) → Uses using → (e : Conclusion) (c : Class) → is_given_end c e ≡ true
        → class_fits c t ≡ true → (script : ℕ) (s : State) → WhenUsing e (Fits a t s) → IsStateAllowed a s
        → IsStateAllowed a (concluded using e t script s).state
    concluded-from using uses table.Done c h f script s fits is = is
    concluded-from using uses table.Acknowledged c h f script s fits is = is
    concluded-from using uses (table.Reprocess m) c h f script s fits is = mode-from m s is
    concluded-from using uses table.ReprocessInOriginal c h f script s fits is = restored-from s is
    concluded-from using uses table.ReprocessInMode c h f script s fits is = is
    concluded-from using uses (table.Using m) c h f script s fits is = uses m s fits is
    concluded-from using uses (table.UsingThen m after) c h f script s fits is =
        let parts = and_parts (is_given c after) (no_adds after) h in
        given-from after c t (using m t s).state parts.0 parts.1 f from (uses m s fits is)
    concluded-from using uses table.UsingCurrentMode c h f script s fits is = uses s.mode s fits is
    concluded-from using uses (table.RawText kind) c h f script s fits is = is
    concluded-from using uses table.PlainText c h f script s fits is = is
    concluded-from using uses table.RunScript c h f script s fits is = is
    concluded-from using uses table.ReportEncoding c h f script s fits is = is

    row-from : (using : InsertionMode → Token → State → Turn) → Uses using → (r : Row) → IsMet r t → (s : State) → Fits a t s
        → IsStateAllowed a s
        → IsStateAllowed a (turn_by_row using r t s).state
    row-from using uses r m s fits is =
        let parts = and_parts (is_given r.on r.does && is_given_end r.on r.ends)
        (is_adding_well r.does && is_used_well r r.ends) m.given_row in
        let given = and_parts (is_given r.on r.does) (is_given_end r.on r.ends) parts.0 in
        let well = and_parts (is_adding_well r.does) (is_used_well r r.ends) parts.1 in
        concluded-from using uses r.ends r.on given.1 m.fit (current_number s.open_elems) (act r.does t s)
        (used-fit a r r.ends t s well.1 m.fit fits)
        (does-from r.does r.on t s given.0 well.0 m.fit from fits is)

    using-from : (n : ℕ) → Uses (using_rules_for n)
    unfolding using_rules_for
    using-from zero m s fits is = is
    using-from (suc n) m s fits is =
        row-from (using_rules_for n) (using-from n) (first_fit (rows m) t s) (met (rows m) t s (rows-given m)) s fits is

    choose-turn : (b : Bool) (x y : Turn) → IsStateAllowed a x.state → IsStateAllowed a y.state
        → IsStateAllowed a (choose b (λ _. x) (λ _. y)).state
    choose-turn true x y h k = h
    choose-turn false x y h k = k

    turn-from : (s : State) → Fits a t s → IsStateAllowed a s → IsStateAllowed a (turn t s).state
    unfolding turn
    turn-from s fits is = choose-turn (is_foreign s t)
        (turn_by_row (using_rules_for most_modes) (first_fit in_foreign_content t s) t s) (using_rules_for most_modes s.mode t s)
        (row-from (using_rules_for most_modes) (using-from most_modes) (first_fit in_foreign_content t s)
        (met in_foreign_content t s foreign-given) s fits is)
        (using-from most_modes s.mode s fits is)

    acknowledged-from : (b : Bool) → Keeps a (check_acknowledged b t)
    acknowledged-from b s is = choose-from a b s (choose (is_self_closing t) (λ _. parse_error s) (λ _. s)) is
        (choose-from a (is_self_closing t) (parse_error s) s (error-from a s is) is)

    abbrev Settles : (State → Settled) → Type 0
    Settles again = (s : State) → HoldsOn t s → IsStateAllowed a s → IsStateAllowed a (again s).state

    ended-from : (again : State → Settled) → Settles again → (e : Ending) (s : State) → (e ≡ Again → HoldsOn t s) → IsStateAllowed a s
        → IsStateAllowed a (settled_by again e t s).state
    ended-from again h (Finished b) s holds is = acknowledged-from b s is
    ended-from again h Again s holds is = h s (holds refl) is
    ended-from again h (Replied r) s holds is = is

    within-from : (n : ℕ) (beyond : State → Settled) → Settles beyond → Settles (within n beyond t)
    unfolding within
    within-from zero beyond h s holds is = h s holds is
    within-from (suc n) beyond h s holds is = ended-from (within n beyond t) (within-from n beyond h) (turn t s).ends (turn t s).state
        (holds-again t s holds) (turn-from s (holds-fits t s holds) is)

    four-from : (xs : List Open) → Settles (four_for_each xs t)
    unfolding four_for_each
    four-from [] s holds is = is
    four-from (x ∷ xs) s holds is = within-from 4 (four_for_each xs t) (four-from xs) s holds is

    settle-from : Settles (settle t)
    unfolding settle
    settle-from s holds is = within-from 16 (four_for_each s.open_elems t) (four-from s.open_elems) s holds is

  texts-from : (text : List ℕ) (before : Settled) → IsStateAllowed a before.state → IsStateAllowed a (text_taken text before).state
  texts-from [] before is = is
  texts-from (c ∷ cs) before is =
      texts-from cs (followed_by before (settle (CharacterTokens (c ∷ [])) before.state))
      (settle-from (CharacterTokens (c ∷ [])) tt before.state tt is)

  doctype_if-from : (b : Bool) (d : Doctype) → Keeps a (if_kept b d)
  doctype_if-from b d s is = choose-from a b s (append_doctype_to_document d s) is (doctype-from a d s is)

  first_doctype-from : (d : Doctype) → Keeps a (first_doctype_taken d)
  first_doctype-from d s is =
      let told : State = choose (doctype_error d) (λ _. parse_error s) (λ _. s) in
      let h : IsStateAllowed a told = choose-from a (doctype_error d) (parse_error s) s (error-from a s is) is in
      let k : IsStateAllowed a (if_kept s.opts.drop_doctype d told) = doctype_if-from s.opts.drop_doctype d told h in
      mode-from mode.BeforeHtml (set_quirks_mode (quirks_of s.opts.rules s.opts.iframe_srcdoc d) (if_kept s.opts.drop_doctype d told))
      (quirks-from a (quirks_of s.opts.rules s.opts.iframe_srcdoc d) (if_kept s.opts.drop_doctype d told) k)

  doctypes-from : (m : InsertionMode) (d : Doctype) → Keeps a (doctype_taken m d)
  doctypes-from mode.Initial d s is = first_doctype-from d s is
  doctypes-from _ d s is = error-from a s is

  doctype_settled-from : (e : Bool) (d : Doctype) (s : State) → IsTokenAllowed a (DoctypeToken d) → HoldsOn (DoctypeToken d) s
      → IsStateAllowed a s → IsStateAllowed a (doctype_settled e d s).state
  doctype_settled-from true d s from holds is = settle-from (DoctypeToken d) from s holds is
  doctype_settled-from false d s from holds is = doctypes-from s.mode d s is

  by-from : (b : Bool) (t : Token) (s : State) → IsTokenAllowed a t → HoldsOn t s → IsStateAllowed a s
      → IsStateAllowed a (taken_by b t s).state
  by-from b (CharacterTokens text) s from holds is = texts-from (after_line_feed b text) (untouched s) is
  by-from b (DoctypeToken d) s from holds is = doctype_settled-from (ends_table_text s.opts.rules s.mode) d s from holds is
  by-from b (TagToken tag) s from holds is = settle-from (TagToken tag) from s holds is
  by-from b (CommentToken text) s from holds is = settle-from (CommentToken text) from s holds is
  by-from b NullCharacterToken s from holds is = settle-from NullCharacterToken from s holds is
  by-from b EOFToken s from holds is = settle-from EOFToken from s holds is
  by-from b (ErrorToken message) s from holds is = settle-from (ErrorToken message) from s holds is

  taken-from : (t : Token) (s : State) → IsTokenAllowed a t → HoldsOn t (set_ignore_lf false s) → IsStateAllowed a s
      → IsStateAllowed a (taken t s).state
  unfolding taken
  taken-from t s from holds is = by-from s.ignore_lf t (set_ignore_lf false s) from holds (line_feed-from false s is)

  -- what holds before a token, where it is taken
  abbrev pub HoldsBefore : Token → State → Type 0
  HoldsBefore t s = refusal_of t s ≡ None → is_idle t ≡ false → HoldsOn t (set_ignore_lf false (hushed s))

  unless_idle-from : (b : Bool) (t : Token) (s : State) → IsTokenAllowed a t → (b ≡ false → HoldsOn t (set_ignore_lf false (hushed s)))
      → IsStateAllowed a s
      → IsStateAllowed a (choose b (λ _. (s, reply.Continue)) (λ _. answered (taken t (hushed s)))).0
  unless_idle-from true t s from holds is = is
  unless_idle-from false t s from holds is =
      hushed-from (taken t (hushed s)).state (taken-from t (hushed s) from (holds refl) (hushed-from s is))

  answer-from : (o : Option Refusal) (t : Token) (s : State) → IsTokenAllowed a t
      → (o ≡ None → is_idle t ≡ false → HoldsOn t (set_ignore_lf false (hushed s))) → IsStateAllowed a s
      → IfOk (step_by o t s) (λ after. IsStateAllowed a after.0)
  answer-from (Some refusal) t s from holds is = tt
  answer-from None t s from holds is = unless_idle-from (is_idle t) t s from (holds refl) is

  pub step-from : (s : State) (t : Token) (line : ℕ) → IsTokenAllowed a t → HoldsBefore t s → IsStateAllowed a s
      → IfOk (step s t line) (λ after. IsStateAllowed a after.0)
  unfolding step
  step-from s t line from holds is = answer-from (refusal_of t s) t s from holds is

module _ (a : Allowed) (any : (name : QualName) (tag : List ℕ) → a.adds name tag) where
  any-adding : (tag : List ℕ) (about : NodeData) → IsAdding a tag about
  any-adding tag (ElementNode name attributes template integration_point) = any name tag
  any-adding tag Document = tt
  any-adding tag Contents = tt
  any-adding tag (DoctypeNode name public_id system_id) = tt
  any-adding tag (TextNode text) = tt
  any-adding tag (CommentNode text) = tt
  any-adding tag (ProcessingInstruction target text) = tt

  any-body : (o : Option ℕ) (tag : List ℕ) (s : State) → IfSome o (λ n. IsAdding a tag (data_of s.forest n))
  any-body None tag s = tt
  any-body (Some n) tag s = any-adding tag (data_of s.forest n)

  -- where any element may take attributes, nothing is asked of a state
  pub fitting-any : Fitting a
  fitting-any = record {
    Holds = λ tag s. Unit {0};
    fits = λ tag s h. record {
      root = λ other e n. any-adding other.name (data_of s.forest (root_number s.open_elems));
      body = λ other e n. any-body (body_elem s.open_elems) other.name s;
      document = λ other e n. any-adding other.name (data_of s.forest 0);
    };
    again = λ tag s h e. tt;
  }

  pub holds-any : (roots : AreRootsAllowed a) (t : Token) (s : State) → HoldsBefore a roots fitting-any t s
  unfolding fitting-any
  holds-any roots (TagToken tag) s r i = tt
  holds-any roots (DoctypeToken d) s r i = tt
  holds-any roots (CommentToken text) s r i = tt
  holds-any roots (CharacterTokens text) s r i = tt
  holds-any roots NullCharacterToken s r i = tt
  holds-any roots EOFToken s r i = tt
  holds-any roots (ErrorToken message) s r i = tt
