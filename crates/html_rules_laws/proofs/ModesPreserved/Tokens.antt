-- Every token leaves the parts nested, so every state that is reached fits.
use Rattle.std.proofs.Common.{◌≡◌, ◌∙◌, ℕ, zero, suc, Bool, true, false, List, [], ◌∷◌, refl, subst}
use Rattle.std.specs.Prelude.{IfErr, IfOk}
use Rattle.html_tokens.specs.Sink.{Unfit}
use Rattle.html_tokens.specs.declared.token.Doctype.{Doctype}
use Rattle.html_tokens.specs.declared.token.Token.{Token}
use Rattle.html_tokens.specs.declared.token.Token.TheVariants.{DoctypeToken, TagToken, CommentToken, CharacterTokens}
use Rattle.html_tokens.specs.declared.token.Token.TheVariants.{NullCharacterToken, EOFToken, ParseError as ErrorToken}
use Rattle.markup.specs.declared.quirks.QuirksMode.{QuirksMode}
use Rattle.html_rules.specs.Actions.{set_ignore_lf, set_quirks_mode}
use Rattle.html_rules.specs.Choice.{choose}
use Rattle.html_rules.specs.Doctypes.{doctype_error, quirks_of}
use Rattle.html_rules.specs.Places.{append_doctype_to_document}
use Rattle.html_rules.specs.Rules.{Ending, Finished, Again, Replied, Settled, check_acknowledged, four_for_each}
use Rattle.html_rules.specs.Rules.{is_self_closing, settle, settled_by, turn, within}
use Rattle.html_rules.specs.Shape.{is_fit}
use Rattle.html_rules.specs.Stack.{parse_error}
use Rattle.html_rules.specs.State.{Open, State, hushed}
use Rattle.html_rules.specs.Step.{followed_by, after_line_feed, doctype_taken, first_doctype_taken, if_kept, is_barred, is_idle, doctype_settled, ends_table_text}
use Rattle.html_rules.specs.Step.{step, taken, taken_by, text_taken, untouched}
use Rattle.html_rules.specs.declared.insertion_mode.InsertionMode.{InsertionMode}
use Rattle.html_rules.specs.declared.insertion_mode.InsertionMode.TheVariants as mode
use Rattle.html_rules_laws.specs.Nesting.{AreReachedStatesFit, IsNested, Reached, document, fragment, token}
use Rattle.html_rules_laws.specs.Soundness.{Standing}
use Rattle.html_rules_laws.specs.Upright.{MayCome, Steady}
use Rattle.html_rules_laws.proofs.TreePreserved.StandingActions.{quirks-Standing}
use Rattle.html_rules_laws.proofs.TreePreserved.StandingSteps.{doctype-Standing, parse_error-Standing}
use Rattle.html_rules_laws.proofs.TreePreserved.StandingTrees.{stays-nodes}
use Rattle.html_rules_laws.proofs.StepLaws.{refusal_with, step-is}
use Rattle.html_rules_laws.proofs.TreePreserved.Steps.{doctype-eased, quirks-eased}
use Rattle.html_rules_laws.proofs.TreePreserved.Tokens.{IsKept, begins, come-kept, hushed-come, other-come, settle-kept}
use Rattle.html_rules_laws.proofs.TreePreserved.Tokens.{states-steady, taken-left, unlined}
use Rattle.html_rules_laws.proofs.TreePreserved.Turns.{turn-again}
use Rattle.html_rules_laws.proofs.ModesPreserved.Begins.{nested-states}
use Rattle.html_rules_laws.proofs.ModesPreserved.Fits.{nested-fits}
use Rattle.html_rules_laws.proofs.ModesPreserved.Fluid.{form-kept}
use Rattle.html_rules_laws.proofs.ModesPreserved.Heads.{begun-nested, erred-nested, error-mode}
use Rattle.html_rules_laws.proofs.ModesPreserved.Turns.{turn-nested}

-- the turns of a token

check-nested : (acknowledged : Bool) (t : Token) (s : State) → IsNested s → IsNested (check_acknowledged acknowledged t s)
check-nested true t s h = h
check-nested false t s h = by (is_self_closing t) where
  by : (b : Bool) → IsNested (choose b (λ _. parse_error s) (λ _. s))
  by true = erred-nested s h
  by false = h

settled-nested : (again : State → Settled) (e : Ending) (t : Token) (s : State)
    → (e ≡ Again → IsNested (again s).state) → IsNested s → IsNested (settled_by again e t s).state
settled-nested again (Finished acknowledged) t s go h = check-nested acknowledged t s h
settled-nested again Again t s go h = go refl
settled-nested again (Replied r) t s go h = h

within-nested : (n : ℕ) (beyond : State → Settled) (t : Token)
    → ((s : State) → MayCome t s → IsNested s → IsNested (beyond s).state) → (s : State) → MayCome t s → IsNested s
    → IsNested (within n beyond t s).state
unfolding within
within-nested zero beyond t go s may h = go s may h
within-nested (suc n) beyond t go s may h =
    let made = turn-nested t s may h in
    settled-nested (within n beyond t) (turn t s).ends t (turn t s).state
    (λ e. within-nested n beyond t go (turn t s).state (turn-again t s may e) made) made

four-nested : (xs : List Open) (t : Token) (s : State) → MayCome t s → IsNested s → IsNested (four_for_each xs t s).state
unfolding four_for_each
four-nested [] t s may h = h
four-nested (x ∷ xs) t s may h = within-nested 4 (four_for_each xs t) t (four-nested xs t) s may h

pub settle-nested : (t : Token) (s : State) → MayCome t s → IsNested s → IsNested (settle t s).state
unfolding settle
settle-nested t s may h = within-nested 16 (four_for_each s.open_elems t) t (four-nested s.open_elems t) s may h

text-nested : (text : List ℕ) (before : Settled) → IsKept before.state → IsNested before.state → IsNested (text_taken text before).state
text-nested [] before kept h = h
text-nested (c ∷ cs) before kept h =
    let t : Token = CharacterTokens (c ∷ []) in
    let may = other-come t before.state refl kept in
    text-nested cs (followed_by before (settle t before.state)) (settle-kept t before.state may) (settle-nested t before.state may h)

-- doctypes

record IsFirst (s : State) : Type 0 where
  at : s.mode ≡ mode.Initial
  standing : Standing s
  is : IsNested s

first-error : (s : State) → IsFirst s → IsFirst (parse_error s)
first-error s f = record { at = error-mode s ∙ f.at; standing = parse_error-Standing s f.standing; is = erred-nested s f.is }

first-put : (d : Doctype) (s : State) → IsFirst s → IsFirst (append_doctype_to_document d s)
unfolding append_doctype_to_document
first-put d s f = record {
  at = f.at;
  standing = doctype-Standing d s f.standing;
  is = record {
    fits = f.is.fits;
    count = f.is.count;
    framed = f.is.framed;
    form = form-kept s.form_elem s.forest (append_doctype_to_document d s).forest (doctype-eased d s f.standing).names f.is.form;
  };
}

first-quirks : (q : QuirksMode) (s : State) → IsFirst s → IsFirst (set_quirks_mode q s)
unfolding set_quirks_mode
first-quirks q s f = record {
  at = f.at;
  standing = quirks-Standing q s f.standing;
  is = record {
    fits = f.is.fits;
    count = f.is.count;
    framed = f.is.framed;
    form = form-kept s.form_elem s.forest (set_quirks_mode q s).forest (quirks-eased q s f.standing).names f.is.form;
  };
}

first-either : (b : Bool) (x y : State) → IsFirst x → IsFirst y → IsFirst (choose b (λ _. x) (λ _. y))
first-either true x y h k = h
first-either false x y h k = k

first-doctype : (d : Doctype) (s : State) → IsFirst s → IsNested (first_doctype_taken d s)
first-doctype d s f =
    let told : State = choose (doctype_error d) (λ _. parse_error s) (λ _. s) in
    let kept : State = if_kept s.opts.drop_doctype d told in
    let one = first-either (doctype_error d) (parse_error s) s (first-error s f) f in
    let two = first-either s.opts.drop_doctype told (append_doctype_to_document d told) one (first-put d told one) in
    let three = first-quirks (quirks_of s.opts.rules s.opts.iframe_srcdoc d) kept two in
    begun-nested (set_quirks_mode (quirks_of s.opts.rules s.opts.iframe_srcdoc d) kept) three.at three.is

doctype-nested : (m : InsertionMode) (d : Doctype) (s : State) → s.mode ≡ m → Standing s → IsNested s → IsNested (doctype_taken m d s)
doctype-nested mode.Initial d s at standing h = first-doctype d s (record { at = at; standing = standing; is = h })
doctype-nested m d s at standing h = erred-nested s h

-- a token that is taken

doctype_settled-nested : (e : Bool) (d : Doctype) (s : State) → MayCome (DoctypeToken d) s → IsNested s
    → IsNested (doctype_settled e d s).state
doctype_settled-nested true d s may h = settle-nested (DoctypeToken d) s may h
doctype_settled-nested false d s may h = doctype-nested s.mode d s refl may.upright.standing h

taken_by-nested : (t : Token) (b : Bool) (s : State) → MayCome t s → IsNested s → IsNested (taken_by b t s).state
taken_by-nested (CharacterTokens text) b s may h = text-nested (after_line_feed b text) (untouched s)
    (come-kept (CharacterTokens text) s may) h
taken_by-nested (DoctypeToken d) b s may h = doctype_settled-nested (ends_table_text s.opts.rules s.mode) d s may h
taken_by-nested (TagToken tag) b s may h = settle-nested (TagToken tag) s may h
taken_by-nested (CommentToken text) b s may h = settle-nested (CommentToken text) s may h
taken_by-nested NullCharacterToken b s may h = settle-nested NullCharacterToken s may h
taken_by-nested EOFToken b s may h = settle-nested EOFToken s may h
taken_by-nested (ErrorToken message) b s may h = settle-nested (ErrorToken message) s may h

pub unlined-nested : (s : State) → IsNested s → IsNested (set_ignore_lf false s)
unfolding set_ignore_lf
unlined-nested s h = record { fits = h.fits; count = h.count; framed = h.framed; form = h.form }

taken-nested : (t : Token) (s : State) → MayCome t s → IsNested s → IsNested (taken t s).state
unfolding taken
taken-nested t s may h = taken_by-nested t s.ignore_lf (set_ignore_lf false s) (unlined t s may) (unlined-nested s h)

-- the number of errors is put aside
pub hushed-nested : (s : State) → Standing s → IsNested s → IsNested (hushed s)
hushed-nested s standing h = record {
  fits = h.fits;
  count = h.count;
  framed = h.framed;
  form = form-kept s.form_elem s.forest (hushed s).forest (stays-nodes s.forest s.forest.quirks 0 standing.tree).names.names h.form;
}

-- the step

step-nested : (ended idle fit barred : Bool) (s : State) (t : Token) (line : ℕ) → s.has_ended ≡ ended
    → is_idle t ≡ idle → is_fit s ≡ fit → is_barred s.mode t ≡ barred → Steady s → IsNested s → IfOk (step s t line) (λ p. IsNested p.0)
unfolding refusal_with
step-nested true idle fit barred s t line e i f b is n = rw (step-is s t line true idle fit barred e i f b) tt
step-nested false true fit barred s t line e i f b is n = rw (step-is s t line false true fit barred e i f b) (rw i n)
step-nested false false false barred s t line e i f b is n = rw (step-is s t line false false false barred e i f b) tt
step-nested false false true true s t line e i f b is n = rw (step-is s t line false false true true e i f b) tt
step-nested false false true false s t line e i f b is n =
    let may = hushed-come t s (begins s is e f t) in
    rw (step-is s t line false false true false e i f b)
    (rw i (hushed-nested (taken t (hushed s)).state (taken-left t (hushed s) may).upright.standing
    (taken-nested t (hushed s) may (hushed-nested s is.upright.standing n))))

-- the states that are reached

record IsReached (s : State) : Type 0 where
  steady : Steady s
  is : IsNested s

token-nested : (s : State) (t : Token) (line : ℕ) → Steady s → IsNested s → IfOk (step s t line) (λ p. IsNested p.0)
token-nested s t line is n = step-nested s.has_ended (is_idle t) (is_fit s) (is_barred s.mode t) s t line refl refl refl refl is n

reached-is : (s : State) → Reached s → IsReached s
reached-is s (document setting f tree top) = record {
  steady = states-steady.document setting f tree top;
  is = nested-states.document setting f;
}
reached-is s (fragment setting context form f tree top own named) =
    record {
      steady = states-steady.fragment setting context form f tree top own;
      is = nested-states.fragment setting context form f tree named;
    }
reached-is _ (token s r t line reply before e) =
    let was = reached-is s before in
    record {
      steady = subst (λ made. IfOk made (λ p. Steady p.0)) e (states-steady.step s was.steady t line);
      is = subst (λ made. IfOk made (λ p. IsNested p.0)) e (token-nested s t line was.steady was.is);
    }

reached-fit : (s : State) → Reached s → is_fit s ≡ true
reached-fit s h = let is = reached-is s h in nested-fits s is.steady.sound.head is.is

fit-taken : (ended idle barred : Bool) (s : State) (t : Token) (line : ℕ) → s.has_ended ≡ ended → is_idle t ≡ idle
    → is_fit s ≡ true → is_barred s.mode t ≡ barred → IfErr (step s t line) (λ refusal. refusal ≡ Unfit → ⊥)
unfolding refusal_with
fit-taken true idle barred s t line e i f b = rw (step-is s t line true idle true barred e i f b) (λ same. absurd (cc))
fit-taken false true barred s t line e i f b = rw (step-is s t line false true true barred e i f b) tt
fit-taken false false true s t line e i f b = rw (step-is s t line false false true true e i f b) (λ same. absurd (cc))
fit-taken false false false s t line e i f b = rw (step-is s t line false false true false e i f b) tt

pub reached-states : AreReachedStatesFit
reached-states = record {
  kept = λ s is n t line. token-nested s t line is n;
  fit = reached-fit;
  taken = λ s h t line. fit-taken s.has_ended (is_idle t) (is_barred s.mode t) s t line refl refl (reached-fit s h) refl;
}
