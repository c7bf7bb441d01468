-- The step of the rules keeps the laws of sinks.
use Rattle.std.proofs.Common.{◌≡◌, ◌∙◌, ℕ, Bool, true, false, List, [], ◌∷◌, ◌++◌, append-nil, Option, Some, None, Ok, Err}
use Rattle.std.proofs.Common.{IfOk, refl, sym, ap, ap₂, subst, true≢false, nat_eq}
use Rattle.std.specs.Prelude.{◌&&◌, IsErr}
use Rattle.std.proofs.lemmas.Bool.{and_parts}
use Rattle.html_tokens.specs.Sink.{◌>>=◌, IsIdle, IsReplyTo, Reply, Refusal, InText, AfterEnd, Unfit, SinkLaws}
use Rattle.html_tokens.specs.declared.replies.TokenSinkResult.TheVariants as reply
use Rattle.html_tokens.specs.declared.token.Token.{Token}
use Rattle.html_tokens.specs.declared.token.Token.TheVariants.{TagToken, CharacterTokens, ParseError}
use Rattle.html_rules.specs.Actions.{set_ignore_lf}
use Rattle.html_rules.specs.Choice.{choose}
use Rattle.html_rules.specs.Rules.{Settled, settle}
use Rattle.html_rules.specs.Shape.{fits_mode, has_template_modes, is_fit}
use Rattle.html_rules.specs.State.{State, hushed}
use Rattle.html_rules.specs.Step.{answered, followed_by, after_line_feed, ended, is_barred, is_idle, is_quiet, refusal_of, step}
use Rattle.html_rules.specs.Step.{step_by, taken, text_taken, untouched}
use Rattle.html_rules.specs.declared.insertion_mode.InsertionMode.{InsertionMode}
use Rattle.html_rules.specs.declared.insertion_mode.InsertionMode.TheVariants.{Text}
use Rattle.html_rules_laws.specs.Lawful.{AreTokensTakenLawfully, TextSound}
use Rattle.html_rules_laws.specs.Ready.{Ready}
use Rattle.html_rules_laws.proofs.CharacterTurns.{text-keeps}
use Rattle.html_rules_laws.proofs.Replies.{taken-well}
use Rattle.html_rules_laws.proofs.ErrorsMonotone.Rises.{rises-none, taken-hushed}

-- text in two pieces

text_taken-append : (a b : List ℕ) (before : Settled) → text_taken (a ++ b) before ≡ text_taken b (text_taken a before)
text_taken-append [] b before = refl
text_taken-append (c ∷ cs) b before = text_taken-append cs b (followed_by before (settle (CharacterTokens (c ∷ [])) before.state))

choose-append : (d : Bool) (c : ℕ) (cs b : List ℕ) → choose d (λ _. cs ++ b) (λ _. c ∷ cs ++ b) ≡ choose d (λ _. cs) (λ _. c ∷ cs) ++ b
choose-append true c cs b = refl
choose-append false c cs b = refl

after_line_feed-append : (lf : Bool) (c : ℕ) (cs b : List ℕ) → after_line_feed lf ((c ∷ cs) ++ b) ≡ after_line_feed lf (c ∷ cs) ++ b
after_line_feed-append false c cs b = refl
after_line_feed-append true c cs b = choose-append (nat_eq c 10) c cs b

-- the state goes by the state before alone
text-state : (text : List ℕ) (x y : Settled) → x.state ≡ y.state → (text_taken text x).state ≡ (text_taken text y).state
text-state [] x y e = e
text-state (c ∷ cs) x y e =
    text-state cs (followed_by x (settle (CharacterTokens (c ∷ [])) x.state))
    (followed_by y (settle (CharacterTokens (c ∷ [])) y.state)) (ap (λ s. (settle (CharacterTokens (c ∷ [])) s).state) e)

ignore-same : (x : State) → x.ignore_lf ≡ false → set_ignore_lf false x ≡ x
unfolding set_ignore_lf
ignore-same x e = ap (λ b. record x { ignore_lf = b }) (sym e)

-- what is left by a text
left : List ℕ → State → Settled
left text s = taken (CharacterTokens text) s

left-is : (text : List ℕ) (s : State) → left text s ≡ text_taken (after_line_feed s.ignore_lf text) (untouched (set_ignore_lf false s))
unfolding left taken
left-is text s = refl

left-Ready : (text : List ℕ) (s : State) → Ready (set_ignore_lf false s) → Ready (left text s).state
left-Ready text s h = rw (left-is text s) (text-keeps (after_line_feed s.ignore_lf text) (untouched (set_ignore_lf false s)) h)

left-joined : (c : ℕ) (cs b : List ℕ) (s : State) → Ready (set_ignore_lf false s) → (left ((c ∷ cs) ++ b) s).state ≡
    (left b (left (c ∷ cs) s).state).state
left-joined c cs b s h =
    let first = left-is (c ∷ cs) s in
    let ready = left-Ready (c ∷ cs) s h in
    let x : State = (left (c ∷ cs) s).state in
    let second : left b x ≡ text_taken b (untouched x) =
    left-is b x ∙ ap (λ lf. text_taken (after_line_feed lf b) (untouched (set_ignore_lf false x))) ready.kept_lf
    ∙ ap (λ y. text_taken b (untouched y)) (ignore-same x ready.kept_lf) in
    ap (λ made. made.state)
    (left-is ((c ∷ cs) ++ b) s
    ∙ ap (λ text. text_taken text (untouched (set_ignore_lf false s))) (after_line_feed-append s.ignore_lf c cs b)
    ∙ text_taken-append (after_line_feed s.ignore_lf (c ∷ cs)) b (untouched (set_ignore_lf false s))
    ∙ ap (text_taken b) (sym first))
    ∙ text-state b (left (c ∷ cs) s) (untouched x) refl
    ∙ ap (λ made. made.state) (sym second)

-- the step

not_barred : (m : InsertionMode) (text : List ℕ) → is_barred m (CharacterTokens text) ≡ false
not_barred Text text = refl
not_barred _ text = refl

-- the refusal, by its tests
unfoldable pub refusal_with : Bool → Bool → Bool → Bool → Option Refusal
refusal_with ended idle fit barred =
    choose ended (λ _. Some AfterEnd)
    (λ _. choose idle (λ _. None) (λ _. choose fit (λ _. choose barred (λ _. Some InText) (λ _. None)) (λ _. Some Unfit)))

refusal-is : (t : Token) (s : State) → refusal_of t s ≡ refusal_with s.has_ended (is_idle t) (is_fit s) (is_barred s.mode t)
unfolding refusal_with
refusal-is t s = refl

-- a step by its refusal
pub step-is : (s : State) (t : Token) (line : ℕ) (ended idle fit barred : Bool) → s.has_ended ≡ ended
    → is_idle t ≡ idle → is_fit s ≡ fit → is_barred s.mode t ≡ barred → step s t line ≡ step_by (refusal_with ended idle fit barred) t s
unfolding step
step-is s t line ended idle fit barred e i f b =
    ap (λ r. step_by r t s)
    (refusal-is t s
    ∙ ap (λ x. refusal_with x (is_idle t) (is_fit s) (is_barred s.mode t)) e
    ∙ ap (λ x. refusal_with ended x (is_fit s) (is_barred s.mode t)) i
    ∙ ap (λ x. refusal_with ended idle x (is_barred s.mode t)) f
    ∙ ap (λ x. refusal_with ended idle fit x) b)

ended-step : (s : State) (t : Token) (line : ℕ) → s.has_ended ≡ true → step s t line ≡ Err AfterEnd
unfolding refusal_with
ended-step s t line e = step-is s t line true (is_idle t) (is_fit s) (is_barred s.mode t) e refl refl refl

pub idle-step : (s : State) (t : Token) (line : ℕ) → s.has_ended ≡ false → is_idle t ≡ true → step s t line ≡ Ok (s, reply.Continue)
unfolding refusal_with
idle-step s t line e i = step-is s t line false true (is_fit s) (is_barred s.mode t) e i refl refl
    ∙ ap (λ b. Ok (choose b (λ _. (s, reply.Continue)) (λ _. answered (taken t (hushed s))))) i

unfit-step : (s : State) (c : ℕ) (cs : List ℕ) (line : ℕ) → s.has_ended ≡ false → is_fit s ≡ false
    → step s (CharacterTokens (c ∷ cs)) line ≡ Err Unfit
unfolding refusal_with
unfit-step s c cs line e f = step-is s (CharacterTokens (c ∷ cs)) line false false false
    (is_barred s.mode (CharacterTokens (c ∷ cs))) e refl f refl

text-step : (s : State) (c : ℕ) (cs : List ℕ) (line : ℕ) → s.has_ended ≡ false → is_fit s ≡ true
    → step s (CharacterTokens (c ∷ cs)) line ≡ Ok (answered (left (c ∷ cs) (hushed s)))
unfolding refusal_with left
text-step s c cs line e f = step-is s (CharacterTokens (c ∷ cs)) line false false true false e refl f (not_barred s.mode (c ∷ cs))

-- a state that fits and is sound is ready for text
ready : (s : State) → TextSound s → s.has_ended ≡ false → is_fit s ≡ true → Ready (set_ignore_lf false (hushed s))
unfolding is_fit set_ignore_lf
ready s is e f =
    let parts = and_parts (fits_mode s.mode s.orig_mode s.open_elems s.head_elem s.template_modes)
    (has_template_modes s.template_modes s.open_elems s.context_elem) f in
    record { fit = parts.0; templates = parts.1; in_head = is.in_head; listed = is.listed; kept_lf = refl; going = e }

ready-fit : (x : State) → Ready x → is_fit (hushed x) ≡ true
unfolding is_fit
ready-fit x h = rw (h.fit, h.templates) refl

continues : (text : List ℕ) (s : State) → (left text s).reply ≡ reply.Continue
unfolding left
continues text s = taken-well (CharacterTokens text) s

-- after the first text the second is read as from the same state without its number of errors
hushed-left : (b : List ℕ) (x : State) → hushed (left b (hushed x)).state ≡ hushed (left b x).state
unfolding left
hushed-left b x = ap (λ made. hushed made.state) (sym (taken-hushed (CharacterTokens b) x))

answers-same : (x y : Settled) → hushed x.state ≡ hushed y.state → x.reply ≡ y.reply → answered x ≡ answered y
answers-same x y e f = ap₂ (λ s r. (s, r)) e f

second : (c : ℕ) (cs b : List ℕ) (s : State) → Ready (set_ignore_lf false s)
    → answered (left b (hushed (left (c ∷ cs) s).state)) ≡ answered (left ((c ∷ cs) ++ b) s)
second c cs b s h =
    let x : State = (left (c ∷ cs) s).state in
    answers-same (left b (hushed x)) (left ((c ∷ cs) ++ b) s)
    (hushed-left b x ∙ ap hushed (sym (left-joined c cs b s h)))
    (continues b (hushed x) ∙ sym (continues ((c ∷ cs) ++ b) s))

behind-first : (c : ℕ) (cs b : List ℕ) (s : State) (line : ℕ) (x : State)
    → x ≡ hushed (left (c ∷ cs) (hushed s)).state → Ready (set_ignore_lf false (hushed s)) → x.has_ended ≡ false → is_fit x ≡ true
    → step x (CharacterTokens b) line ≡ Ok (answered (left ((c ∷ cs) ++ b) (hushed s)))
behind-first c cs [] s line x is h e f =
    idle-step x (CharacterTokens []) line e refl
    ∙ ap Ok (ap₂ (λ s r. (s, r)) is (sym (continues (c ∷ cs) (hushed s))))
    ∙ ap (λ text. Ok (answered (left text (hushed s)))) (sym (append-nil (c ∷ cs)))
behind-first c cs (d ∷ ds) s line x is h e f =
    text-step x d ds line e f
    ∙ ap (λ x. Ok (answered (left (d ∷ ds) (hushed x)))) is
    ∙ ap Ok (second c cs (d ∷ ds) (hushed s) h)

pieces-by : (ended fit : Bool) (a b : List ℕ) (s : State) (line : ℕ) → s.has_ended ≡ ended → is_fit s ≡ fit
    → (s.has_ended ≡ false → is_fit s ≡ true → TextSound s)
    → (step s (CharacterTokens a) line >>= λ p. step p.0 (CharacterTokens b) line) ≡ step s (CharacterTokens (a ++ b)) line
pieces-by true fit a b s line e f is = rw (ended-step s (CharacterTokens a) line e) (sym (ended-step s (CharacterTokens (a ++ b)) line e))
pieces-by false fit [] b s line e f is = rw (idle-step s (CharacterTokens []) line e refl) refl
pieces-by false false (c ∷ cs) b s line e f is = rw (unfit-step s c cs line e f) (sym (unfit-step s c (cs ++ b) line e f))
pieces-by false true (c ∷ cs) b s line e f is =
    let h = ready s (is e f) e f in
    let x : State = (left (c ∷ cs) (hushed s)).state in
    let r = left-Ready (c ∷ cs) (hushed s) h in
    rw (text-step s c cs line e f) (behind-first c cs b s line (hushed x) refl h r.going (ready-fit x r)
    ∙ sym (text-step s c (cs ++ b) line e f))

-- empty text and errors

idle-is : (t : Token) → IsIdle t → is_idle t ≡ true
idle-is (CharacterTokens []) h = refl
idle-is (ParseError message) h = refl
idle-is _ h = absurd h

idle-by : (ended : Bool) (s : State) (t : Token) (line : ℕ) → s.has_ended ≡ ended → IsIdle t → IfOk (step s t line) (λ p. p.0 ≡ s)
idle-by true s t line e h = rw (ended-step s t line e) tt
idle-by false s t line e h = rw (idle-step s t line e (idle-is t h)) refl

idle_refused-by : (ended : Bool) (s : State) (t : Token) (line : ℕ) → s.has_ended ≡ ended → IsIdle t
    → IsErr (step s t line) → (any : Token) (other : ℕ) → IsErr (step s any other)
idle_refused-by true s t line e h k any other = rw (ended-step s any other e) refl
idle_refused-by false s t line e h k any other =
    absurd (no_err (s, reply.Continue) (subst (λ r. IsErr r) (idle-step s t line e (idle-is t h)) k)) where
      no_err : (p : State × Reply) → IsErr {E = Refusal} (Ok p) → ⊥
      no_err p h = true≢false (sym h)

lines-same : (s : State) (a : List ℕ) (line other : ℕ) → step s (CharacterTokens a) line ≡ step s (CharacterTokens a) other
unfolding step
lines-same s a line other = refl

-- replies

continues-reply : (t : Token) → IsReplyTo t reply.Continue
continues-reply (TagToken tag) = tt
continues-reply _ = refl

answer-reply : (b : Bool) (t : Token) (s : State) → IsReplyTo t (choose b (λ _. (s, reply.Continue)) (λ _. answered (taken t (hushed s)))).1
answer-reply true t s = continues-reply t
answer-reply false t s = taken-well t (hushed s)

replies-by : (o : Option Refusal) (t : Token) (s : State) → IfOk (step_by o t s) (λ p. IsReplyTo t p.1)
replies-by (Some refusal) t s = tt
replies-by None t s = answer-reply (is_idle t) t s

replies : (s : State) (t : Token) (line : ℕ) → IfOk (step s t line) (λ p. IsReplyTo t p.1)
unfolding step
replies s t line = replies-by (refusal_of t s) t s

-- quiet texts

quiet-is : (text : List ℕ) (s : State) → is_quiet s (CharacterTokens text) ≡ nat_eq (left text (hushed s)).state.forest.errors 0
unfolding is_quiet left
quiet-is text s = refl

no_text-left : (s : State) → (left [] s).state.forest.errors ≡ s.forest.errors
unfolding set_ignore_lf
no_text-left s = ap (λ made. made.state.forest.errors) (left-is [] s) ∙ by s.ignore_lf where
  by : (b : Bool) → (text_taken (after_line_feed b []) (untouched (set_ignore_lf false s))).state.forest.errors ≡ s.forest.errors
  by true = refl
  by false = refl

no_text-quiet : (s : State) → is_quiet s (CharacterTokens []) ≡ true
no_text-quiet s = quiet-is [] s ∙ ap (λ n. nat_eq n 0) (no_text-left (hushed s))

-- errors after two texts: none exactly if none are after the first, and none after the second once they are put aside
errors-joined : (b : List ℕ) (x : State) → nat_eq (left b x).state.forest.errors 0 ≡ (nat_eq x.forest.errors 0
    && nat_eq (left b (hushed x)).state.forest.errors 0)
unfolding left
errors-joined b x =
    ap (λ made. nat_eq made.state.forest.errors 0) (taken-hushed (CharacterTokens b) x)
    ∙ rises-none (taken (CharacterTokens b) (hushed x)).state.forest.errors x.forest.errors

quiet-joined : (c : ℕ) (cs b : List ℕ) (s : State) → Ready (set_ignore_lf false (hushed s))
    → is_quiet s (CharacterTokens ((c ∷ cs) ++ b)) ≡ (is_quiet s (CharacterTokens (c ∷ cs))
    && is_quiet (hushed (left (c ∷ cs) (hushed s)).state) (CharacterTokens b))
quiet-joined c cs b s h =
    let x : State = (left (c ∷ cs) (hushed s)).state in
    quiet-is ((c ∷ cs) ++ b) s
    ∙ ap (λ y. nat_eq y.forest.errors 0) (left-joined c cs b (hushed s) h)
    ∙ errors-joined b x
    ∙ ap₂ (λ p q. p && q) (sym (quiet-is (c ∷ cs) s)) (sym (quiet-is b (hushed x)))

quiet-by : (ended fit : Bool) (a b : List ℕ) (s : State) (line : ℕ) → s.has_ended ≡ ended → is_fit s ≡ fit
    → (s.has_ended ≡ false → is_fit s ≡ true → TextSound s)
    → IfOk (step s (CharacterTokens a) line)
    (λ p. is_quiet s (CharacterTokens (a ++ b)) ≡ (is_quiet s (CharacterTokens a) && is_quiet p.0 (CharacterTokens b)))
quiet-by true fit a b s line e f is = rw (ended-step s (CharacterTokens a) line e) tt
quiet-by false fit [] b s line e f is = rw (idle-step s (CharacterTokens []) line e refl)
    (ap (λ q. q && is_quiet s (CharacterTokens b)) (sym (no_text-quiet s)))
quiet-by false false (c ∷ cs) b s line e f is = rw (unfit-step s c cs line e f) tt
quiet-by false true (c ∷ cs) b s line e f is = rw (text-step s c cs line e f) (quiet-joined c cs b s (ready s (is e f) e f))

pub tokens-lawful : AreTokensTakenLawfully
tokens-lawful = record {
  pieces = λ s h a b line. pieces-by s.has_ended (is_fit s) a b s line refl refl h;
  lines = lines-same;
  idle = λ s t i line. idle-by s.has_ended s t line refl i;
  idle_refused = λ s t i line k any other. idle_refused-by s.has_ended s t line refl i k any other;
  replies = replies;
  quiet = λ s h a b line. quiet-by s.has_ended (is_fit s) a b s line refl refl h;
}

-- with sound states that lead to sound states, and are sound for text where they take it, the rules are a sink's
pub rules-lawful : (is_sound : State → Type 0) → ((s : State) → is_sound s → s.has_ended ≡ false → is_fit s ≡ true → TextSound s)
    → ((s : State) → is_sound s → (t : Token) (line : ℕ) → IfOk (step s t line) (λ p. is_sound p.0))
    → ((s : State) → is_sound s → is_sound (ended s))
    → SinkLaws is_sound step ended is_quiet
rules-lawful is_sound text keeps ends = record {
  keeps = keeps;
  ends = ends;
  pieces = λ s h a b line. tokens-lawful.pieces s (text s h) a b line;
  lines = λ s h a line other. tokens-lawful.lines s a line other;
  idle = λ s h t i line. tokens-lawful.idle s t i line;
  idle_refused = λ s h t i line k any other. tokens-lawful.idle_refused s t i line k any other;
  replies = λ s h t line. tokens-lawful.replies s t line;
  quiet = λ s h a b line. tokens-lawful.quiet s (text s h) a b line;
}
