-- The rules are a lawful sink.
use Rattle.std.proofs.Common.{◌≡◌, ◌∙◌, ℕ, Bool, true, false, List, [], ◌∷◌, length, Option, Some, None, refl, sym, ap, true≢false, arith}
use Rattle.std.specs.Prelude.{◌||◌, ◌&&◌, not, is_some, IfOk}
use Rattle.std.proofs.lemmas.Bool.{and_parts, eqb-true}
use Rattle.markup.specs.Forest.{Forest}
use Rattle.markup.specs.declared.quirks.QuirksMode.{QuirksMode}
use Rattle.html_tokens.specs.declared.token.Doctype.{Doctype}
use Rattle.html_tokens.specs.declared.token.Token.{Token}
use Rattle.html_tokens.specs.declared.token.Token.TheVariants.{DoctypeToken, TagToken, CommentToken, CharacterTokens}
use Rattle.html_tokens.specs.declared.token.Token.TheVariants.{NullCharacterToken, EOFToken, ParseError as ErrorToken}
use Rattle.html_rules.specs.Actions.{set_ignore_lf, set_quirks_mode}
use Rattle.html_rules.specs.Choice.{choose}
use Rattle.html_rules.specs.Conditions.{is_nonempty}
use Rattle.html_rules.specs.Doctypes.{doctype_error, quirks_of}
use Rattle.html_rules.specs.Documents.{Setting, before_document, before_fragment, modes_of_context, form_of_context}
use Rattle.html_rules.specs.Places.{append_doctype_to_document, create_root}
use Rattle.html_rules.specs.Reset.{current_template_mode, mode_of, reset_insertion_mode}
use Rattle.html_rules.specs.Sets.{mathml_names_of, names_of, svg_names_of}
use Rattle.html_rules.specs.Shape.{fits_mode, has_root, has_template_modes, is_at_root, is_fit}
use Rattle.html_rules.specs.Stack.{has_open, parse_error}
use Rattle.html_rules.specs.State.{Open, State, hushed, is_in}
use Rattle.html_rules.specs.Step.{doctype_settled, doctype_taken, ended, ends_table_text, first_doctype_taken, if_kept, is_barred, is_idle, step, taken, taken_by}
use Rattle.html_rules.specs.Step.{after_line_feed, untouched}
use Rattle.html_rules.specs.declared.insertion_mode.InsertionMode.{InsertionMode}
use Rattle.html_rules.specs.declared.insertion_mode.InsertionMode.TheVariants as mode
use Rattle.html_rules.specs.declared.tag_set.TagSet.TheVariants as set
use Rattle.html_rules_laws.specs.Held.{Held, wanted}
use Rattle.html_rules_laws.specs.Lawful.{TextSound}
use Rattle.html_rules_laws.specs.Placing.{is_in_head, may_stand_over, stand_well}
use Rattle.html_rules_laws.specs.Ready.{fits_head, is_over_head, is_over_root}
use Rattle.html_rules_laws.specs.Settled.{are_template_modes}
use Rattle.html_rules_laws.specs.Sink.{AreRulesLawful}
use Rattle.html_rules_laws.specs.Sound.{Sound, are_placed_in, has_its_head, is_later, is_over_head_element, is_own}
use Rattle.html_rules_laws.proofs.Frames.Firm.{html_head}
use Rattle.html_rules_laws.proofs.SetFacts.{in-apart}
use Rattle.html_rules_laws.proofs.Termination.Settled.{each_token_is_settled}
use Rattle.html_rules_laws.proofs.Soundness.Moves.{free-later, free-placed, is_free}
use Rattle.html_rules_laws.proofs.Soundness.Steps.{erred, settle-held, text-held}
use Rattle.html_rules_laws.proofs.Soundness.Tokens.{initial-held}
use Rattle.html_rules_laws.proofs.StepLaws.{refusal_with, rules-lawful, step-is}
use Rattle.html_rules_laws.proofs.Bools.{no}

-- a token that is taken

unlined : (s : State) → Held s → Held (set_ignore_lf false s)
unfolding set_ignore_lf
unlined s h = record { listed = h.listed; modes = h.modes; head = h.head; original = h.original; most = h.most; placed = h.placed }

-- the tree has a doctype more, or quirks are known: nothing else changes
told-held : (s : State) (f : Forest) (q : QuirksMode) → Held s → Held (record s { forest = f; quirks_mode = q })
told-held s f q h = record { listed = h.listed; modes = h.modes; head = h.head; original = h.original; most = h.most; placed = h.placed }

record IsFirst (s : State) : Type 0 where
  held : Held s
  mode : s.mode ≡ mode.Initial

first-either : (b : Bool) (x y : State) → IsFirst x → IsFirst y → IsFirst (choose b (λ _. x) (λ _. y))
first-either true x y h k = h
first-either false x y h k = k

error-mode : (s : State) → (parse_error s).mode ≡ s.mode
unfolding parse_error
error-mode s = refl

put-first : (d : Doctype) (s : State) → IsFirst s → IsFirst (append_doctype_to_document d s)
unfolding append_doctype_to_document
put-first d s is = record { held = told-held s _ s.quirks_mode is.held; mode = is.mode }

quirks-first : (q : QuirksMode) (s : State) → IsFirst s → IsFirst (set_quirks_mode q s)
unfolding set_quirks_mode
quirks-first q s is = record { held = told-held s _ q is.held; mode = is.mode }

first-held : (d : Doctype) (s : State) → IsFirst s → Held (first_doctype_taken d s)
first-held d s is =
    let told : State = choose (doctype_error d) (λ _. parse_error s) (λ _. s) in
    let one = first-either (doctype_error d) (parse_error s) s (record { held = erred s is.held; mode = error-mode s ∙ is.mode }) is in
    let two = first-either s.opts.drop_doctype told (append_doctype_to_document d told) one (put-first d told one) in
    let three = quirks-first (quirks_of s.opts.rules s.opts.iframe_srcdoc d) (if_kept s.opts.drop_doctype d told) two in
    initial-held (set_quirks_mode (quirks_of s.opts.rules s.opts.iframe_srcdoc d) (if_kept s.opts.drop_doctype d told)) three.mode three.held

doctype-held : (m : InsertionMode) (d : Doctype) (s : State) → s.mode ≡ m → Held s → Held (doctype_taken m d s)
doctype-held mode.Initial d s e h = first-held d s (record { held = h; mode = e })
doctype-held m d s e h = erred s h

doctype_settled-held : (e : Bool) (d : Doctype) (s : State) → Held s → Held (doctype_settled e d s).state
doctype_settled-held true d s h = settle-held (DoctypeToken d) s h
doctype_settled-held false d s h = doctype-held s.mode d s refl h

taken_by-held : (t : Token) (b : Bool) (s : State) → Held s → Held (taken_by b t s).state
taken_by-held (CharacterTokens text) b s h = text-held (after_line_feed b text) (untouched s) h
taken_by-held (DoctypeToken d) b s h = doctype_settled-held (ends_table_text s.opts.rules s.mode) d s h
taken_by-held (TagToken tag) b s h = settle-held (TagToken tag) s h
taken_by-held (CommentToken text) b s h = settle-held (CommentToken text) s h
taken_by-held NullCharacterToken b s h = settle-held NullCharacterToken s h
taken_by-held EOFToken b s h = settle-held EOFToken s h
taken_by-held (ErrorToken message) b s h = settle-held (ErrorToken message) s h

pub taken-held : (t : Token) (s : State) → Held s → Held (taken t s).state
unfolding taken
taken-held t s h = taken_by-held t s.ignore_lf (set_ignore_lf false s) (unlined s h)

-- sound states

pub templates-fit : (s : State) → is_fit s ≡ true → has_template_modes s.template_modes s.open_elems s.context_elem ≡ true
unfolding is_fit
templates-fit s h = (and_parts (fits_mode s.mode s.orig_mode s.open_elems s.head_elem s.template_modes) _ h).1

pub mode-fits : (s : State) → is_fit s ≡ true → fits_mode s.mode s.orig_mode s.open_elems s.head_elem s.template_modes ≡ true
unfolding is_fit
mode-fits s h = (and_parts (fits_mode s.mode s.orig_mode s.open_elems s.head_elem s.template_modes) _ h).0

pub held-of : (s : State) → Sound s → s.has_ended ≡ false → is_fit s ≡ true → Held (hushed s)
held-of s is e f =
    let templates = templates-fit s f in
    let count : length s.template_modes ≡ wanted s = eqb-true (length s.template_modes) (wanted s) templates in
    record {
      listed = is.listed;
      modes = is.modes;
      head = is.head;
      original = is.original;
      most = omega arith;
      placed = λ k root. is.placed e templates root;
    }

pub sound-of : (s : State) → Held s → Sound (hushed s)
sound-of s h = record {
  listed = h.listed;
  modes = h.modes;
  head = h.head;
  original = h.original;
  placed = λ e templates root. h.placed (sym (eqb-true (length s.template_modes) (wanted s) templates)) root;
}

-- the step

step-sound : (ended idle fit barred : Bool) (s : State) (t : Token) (line : ℕ) → s.has_ended ≡ ended
    → is_idle t ≡ idle → is_fit s ≡ fit → is_barred s.mode t ≡ barred → Sound s → IfOk (step s t line) (λ p. Sound p.0)
unfolding refusal_with
step-sound true idle fit barred s t line e i f b is = rw (step-is s t line true idle fit barred e i f b) tt
step-sound false true fit barred s t line e i f b is = rw (step-is s t line false true fit barred e i f b) (rw i is)
step-sound false false false barred s t line e i f b is = rw (step-is s t line false false false barred e i f b) tt
step-sound false false true true s t line e i f b is = rw (step-is s t line false false true true e i f b) tt
step-sound false false true false s t line e i f b is = rw (step-is s t line false false true false e i f b)
    (rw i (sound-of (taken t (hushed s)).state (taken-held t (hushed s) (held-of s is e f))))

pub ended-sound : (s : State) → Sound s → Sound (ended s)
unfolding ended
ended-sound s is = record {
  listed = is.listed;
  modes = is.modes;
  head = is.head;
  original = is.original;
  placed = λ e templates root. absurd (true≢false e);
}

-- text is sound in a sound state

pub root-html : (xs : List Open) → has_root xs ≡ true → has_open set.Html xs ≡ true
root-html [] h = no h
root-html (x ∷ xs) h = by (is_in set.Html x) h (root-html xs) where
  by : (b : Bool) → choose b (λ _. not (is_nonempty xs)) (λ _. has_root xs) ≡ true
      → (has_root xs ≡ true → has_open set.Html xs ≡ true) → (b || has_open set.Html xs) ≡ true
  by true h go = refl
  by false h go = go h

not_template-head : (x : Open) → is_in set.Head x ≡ true → is_in set.Template x ≡ false
unfolding names_of mathml_names_of svg_names_of
not_template-head x h = in-apart set.Head set.Template refl x h

not_root-head : (x : Open) → is_in set.Head x ≡ true → is_in set.Html x ≡ false
unfolding names_of mathml_names_of svg_names_of
not_root-head x h = in-apart set.Head set.Html refl x h

over-root : (xs : List Open) → is_in_head xs ≡ true → stand_well xs ≡ true → is_over_root xs ≡ true
over-root [] h w = no h
over-root (x ∷ xs) h w =
    let parts = and_parts (is_in set.Head x) (has_open set.Html xs) h in
    rw (not_template-head x parts.0)
    (rw (not_root-head x parts.0, parts.0, parts.1) at ((and_parts (may_stand_over x xs) (stand_well xs) w).0))

over-head : (xs : List Open) → is_over_head_element xs ≡ true → is_over_head xs ≡ true
over-head [] h = no h
over-head (x ∷ xs) h =
    let parts = and_parts (is_own x) _ h in
    let own = and_parts (not (is_in set.Html x)) (not (is_in set.Template x))
    (and_parts _ (not (is_in set.Html x) && not (is_in set.Template x)) parts.0).1 in
    let below = and_parts (is_in_head xs) (stand_well xs) parts.1 in
    rw own.1 (over-root xs below.0 below.1)

fits-head : (m : InsertionMode) (s : State) → s.mode ≡ m → Sound s → s.has_ended ≡ false → is_fit s ≡ true → fits_head m s.open_elems ≡ true
fits-head mode.BeforeHead s e is going fit =
    let placed : (is_at_root s.open_elems && stand_well s.open_elems) ≡ true =
    rw e at (is.placed going (templates-fit s fit) (λ later. absurd (true≢false (sym later ∙ ap is_later e)))) in
    (and_parts (is_at_root s.open_elems) _ placed).0
fits-head mode.InHead s e is going fit =
    let fits : (has_root s.open_elems && is_some s.head_elem && not (is_at_root s.open_elems)) ≡ true = rw e at (mode-fits s fit) in
    let root = (and_parts (has_root s.open_elems) (is_some s.head_elem)
    (and_parts (has_root s.open_elems && is_some s.head_elem) _ fits).0).0 in
    let placed : (is_in_head s.open_elems && stand_well s.open_elems) ≡ true =
    rw e at (is.placed going (templates-fit s fit) (λ later. root-html s.open_elems root)) in
    let parts = and_parts (is_in_head s.open_elems) (stand_well s.open_elems) placed in
    over-root s.open_elems parts.0 parts.1
fits-head mode.InHeadNoscript s e is going fit =
    let fits : (has_root s.open_elems && is_some s.head_elem && not (is_at_root s.open_elems)) ≡ true = rw e at (mode-fits s fit) in
    let root = (and_parts (has_root s.open_elems) (is_some s.head_elem)
    (and_parts (has_root s.open_elems && is_some s.head_elem) _ fits).0).0 in
    let placed : is_over_head_element s.open_elems ≡ true =
    rw e at (is.placed going (templates-fit s fit) (λ later. root-html s.open_elems root)) in
    over-head s.open_elems placed
fits-head m s e is going fit = refl

pub sound-text : (s : State) → Sound s → s.has_ended ≡ false → is_fit s ≡ true → TextSound s
sound-text s is going fit = record { in_head = fits-head s.mode s refl is going fit; listed = is.listed }

-- the states before the first token

pub document-sound : (setting : Setting) (f : Forest) → Sound (before_document setting f)
document-sound setting f = record { listed = refl; modes = refl; head = refl; original = refl; placed = λ e templates root. refl }

-- what a context asks for
abbrev AsksWell : Open → InsertionMode → Type 0
AsksWell c m = (has_its_head m None (Some c) ≡ true) × ((x : Open) → is_in set.Html x ≡ true → are_placed_in m None (x ∷ []) ≡ true)

asks-either : (c : Open) (b : Bool) (x y : Unit {0} → InsertionMode) → (b ≡ true → AsksWell c (x tt))
    → (b ≡ false → AsksWell c (y tt)) → AsksWell c (choose b x y)
asks-either c true x y h k = h refl
asks-either c false x y h k = k refl

free-asks : (c : Open) (m : InsertionMode) → is_free m ≡ true → is_in set.Html c ≡ false → AsksWell c m
free-asks c m f h = (rw (free-later m f, h) refl, λ x html. free-placed m f None (x ∷ []) ∙ rw (html_head x html, html) refl)

root-asks : (c : Open) → is_in set.Html c ≡ true → AsksWell c mode.BeforeHead
root-asks c h = (h, λ x html. rw html refl)

context-modes : (c : Open) (b : Bool) → is_free (current_template_mode (choose b (λ _. mode.InTemplate ∷ []) (λ _. []))) ≡ true
context-modes c true = refl
context-modes c false = refl

pub context-template_modes : (b : Bool) → are_template_modes (choose b (λ _. mode.InTemplate ∷ []) (λ _. [])) ≡ true
context-template_modes true = refl
context-template_modes false = refl

apart-root : (c : Open) → ((is_in set.Tr c ≡ true → is_in set.Html c ≡ false)
    × ((is_in set.TbodyTfootThead c ≡ true → is_in set.Html c ≡ false)
    × ((is_in set.Caption c ≡ true → is_in set.Html c ≡ false) × ((is_in set.Colgroup c ≡ true → is_in set.Html c ≡ false)
    × ((is_in set.Table c ≡ true → is_in set.Html c ≡ false)
    × ((is_in set.Template c ≡ true → is_in set.Html c ≡ false)
    × ((is_in set.Body c ≡ true → is_in set.Html c ≡ false) × (is_in set.Frameset c ≡ true → is_in set.Html c ≡ false))))))))
unfolding names_of mathml_names_of svg_names_of
apart-root c = (
  in-apart set.Tr set.Html refl c,
  (
    in-apart set.TbodyTfootThead set.Html refl c,
    (
      in-apart set.Caption set.Html refl c,
      (
        in-apart set.Colgroup set.Html refl c,
        (
          in-apart set.Table set.Html refl c,
          (in-apart set.Template set.Html refl c, (in-apart set.Body set.Html refl c, in-apart set.Frameset set.Html refl c)),
        ),
      ),
    ),
  ),
)

context-asks : (s : State) (c : Open) → s.template_modes ≡ modes_of_context c → s.head_elem ≡ None
    → AsksWell c (mode_of s c (λ _. mode.InBody))
context-asks s c modes head =
    let h = apart-root c in
    asks-either c (is_in set.Tr c) _ _ (λ e. free-asks c mode.InRow refl (h.0 e))
    (λ _. asks-either c (is_in set.TbodyTfootThead c) _ _ (λ e. free-asks c mode.InTableBody refl (h.1.0 e))
    (λ _. asks-either c (is_in set.Caption c) _ _ (λ e. free-asks c mode.InCaption refl (h.1.1.0 e))
    (λ _. asks-either c (is_in set.Colgroup c) _ _ (λ e. free-asks c mode.InColumnGroup refl (h.1.1.1.0 e))
    (λ _. asks-either c (is_in set.Table c) _ _ (λ e. free-asks c mode.InTable refl (h.1.1.1.1.0 e))
    (λ _. asks-either c (is_in set.Template c) _ _ (λ e. free-asks c (current_template_mode s.template_modes)
    (rw modes (context-modes c (is_in set.Template c))) (h.1.1.1.1.1.0 e))
    (λ _. asks-either c (is_in set.Body c) _ _ (λ e. free-asks c mode.InBody refl (h.1.1.1.1.1.1.0 e))
    (λ _. asks-either c (is_in set.Frameset c) _ _ (λ e. free-asks c mode.InFrameset refl (h.1.1.1.1.1.1.1 e))
    (λ _. asks-either c (is_in set.Html c) _ _ (λ e. rw head (root-asks c e)) (λ e. free-asks c mode.InBody refl e)))))))))

pub fragment-sound : (setting : Setting) (context : Open) (form : Option ℕ) (f : Forest) → Sound (before_fragment setting context form f)
unfolding reset_insertion_mode create_root names_of
fragment-sound setting context form f =
    let s : State = create_root [] (record (before_document setting f) {
      context_elem = Some context;
      form_elem = form_of_context setting.opts.rules context form;
      template_modes = modes_of_context context;
    }) in
    let asks = context-asks s context refl refl in
    record {
      listed = refl;
      modes = context-template_modes (is_in set.Template context);
      head = asks.0;
      original = refl;
      placed = λ e templates root. asks.1 _ refl;
    }

pub rules-are-lawful : AreRulesLawful
rules-are-lawful = record {
  sink = rules-lawful Sound sound-text (λ s is t line. step-sound s.has_ended (is_idle t) (is_fit s)
      (is_barred s.mode t) s t line refl refl refl refl is) ended-sound;
  settled = λ s is going fit t. each_token_is_settled t s going fit (sound-text s is going fit) is.modes;
  document = document-sound;
  fragment = fragment-sound;
}
