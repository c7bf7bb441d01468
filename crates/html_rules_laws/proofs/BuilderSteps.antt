-- What the calls of a builder come to, as those of a sink of tokens.
use Rattle.std.proofs.Common.{◌≡◌, ◌∙◌, ℕ, zero, suc, ◌≤◌, nat_eq, Bool, true, false, true≢false, [], ◌∷◌, Result, Ok, Err}
use Rattle.std.proofs.Common.{IfOk, IfErr, refl, sym, ap, arith, subst}
use Rattle.std.proofs.lemmas.Bool.Decides.{nat_tests}
use Rattle.markup.specs.Forest.{one_more}
use Rattle.markup.specs.declared.fault.ParseFault.{ParseFault}
use Rattle.markup.specs.declared.fault.ParseFault.TheVariants.{Memory}
use Rattle.html_tokens.specs.Sink.{AfterEnd, Counts, CountsOwn, Gives, InText, fails}
use Rattle.html_tokens.specs.declared.replies.TokenSinkResult.{TokenSinkResult}
use Rattle.html_tokens.specs.declared.replies.TokenSinkResult.TheVariants as reply
use Rattle.html_tokens.specs.declared.token.Token.{Token}
use Rattle.html_tokens.specs.declared.token.Token.TheVariants.{DoctypeToken, TagToken, CommentToken, CharacterTokens}
use Rattle.html_tokens.specs.declared.token.Token.TheVariants.{NullCharacterToken, EOFToken, ParseError}
use Rattle.html_rules.specs.Actions.{set_ignore_lf}
use Rattle.html_rules.specs.Choice.{choose}
use Rattle.html_rules.specs.Stack.{parse_error}
use Rattle.html_rules.specs.State.{State, hushed}
use Rattle.html_rules.specs.Step.{answered, after_line_feed, is_barred, is_idle, is_quiet, step, taken, text_taken, untouched}
use Rattle.html_rules.specs.declared.insertion_mode.InsertionMode.{InsertionMode}
use Rattle.html_rules.specs.declared.insertion_mode.InsertionMode.TheVariants.{Text}
use Rattle.html_rules_laws.proofs.ErrorsMonotone.Rises.{rises, taken-hushed}
use Rattle.html_rules_laws.proofs.StepLaws.{idle-step, refusal_with, step-is}
use Rattle.html_rules_laws.specs.Coming.{IsTaken, came_of}
use Rattle.html_rules_laws.specs.Usable.{Usable}
use Rattle.html_rules_laws.proofs.Progress.UsableTokens.{usable-fit, usable-step}

-- the refusals

pub refuses-ended : (t : Token) (s : State) (line : ℕ) → s.has_ended ≡ true → step s t line ≡ Err AfterEnd
unfolding refusal_with
refuses-ended t s line e = step-is s t line true (is_idle t) _ (is_barred s.mode t) e refl refl refl

barred-busy : (m : InsertionMode) (t : Token) → is_barred m t ≡ true → is_idle t ≡ false
barred-busy Text (TagToken tag) h = refl
barred-busy Text (CommentToken text) h = refl
barred-busy Text NullCharacterToken h = refl
barred-busy Text (CharacterTokens text) h = absurd (true≢false (sym h))
barred-busy Text (ParseError message) h = absurd (true≢false (sym h))
barred-busy Text (DoctypeToken d) h = refl
barred-busy Text EOFToken h = refl
barred-busy m t h = absurd (true≢false (sym h))

pub refuses-barred : (t : Token) (s : State) (line : ℕ) → Usable s → s.has_ended ≡ false → is_barred s.mode t ≡ true
    → step s t line ≡ Err InText
unfolding refusal_with
refuses-barred t s line h going e = step-is s t line false false true true going (barred-busy s.mode t e) (usable-fit s h going) e

-- a token that is taken

answered-louder : (t : Token) (s : State) → answered (taken t (hushed s)) ≡ answered (taken t s)
answered-louder t s = sym (ap answered (taken-hushed t s))

busy-step : (t : Token) (s : State) (line : ℕ) → Usable (hushed s) → s.has_ended ≡ false → is_idle t ≡ false
    → is_barred s.mode t ≡ false → step (hushed s) t line ≡ Ok (answered (taken t s))
unfolding refusal_with
busy-step t s line h going i b =
    step-is (hushed s) t line false false true false going i (usable-fit (hushed s) h going) b
    ∙ ap (λ c. Ok (choose c (λ _. (hushed s, reply.Continue)) (λ _. answered (taken t (hushed s))))) i
    ∙ ap Ok (answered-louder t s)

-- the step gives what the token comes to
pub came-step : (t : Token) (s : State) (line : ℕ) → Usable (hushed s) → s.has_ended ≡ false
    → is_barred s.mode t ≡ false → step (hushed s) t line ≡ Ok (answered (came_of t s))
unfolding parse_error
came-step (ParseError message) s line h going b = idle-step (hushed s) (ParseError message) line going refl
came-step (CharacterTokens []) s line h going b = idle-step (hushed s) (CharacterTokens []) line going refl
came-step (CharacterTokens (c ∷ cs)) s line h going b = busy-step (CharacterTokens (c ∷ cs)) s line h going refl b
came-step (DoctypeToken d) s line h going b = busy-step (DoctypeToken d) s line h going refl b
came-step (TagToken tag) s line h going b = busy-step (TagToken tag) s line h going refl b
came-step (CommentToken text) s line h going b = busy-step (CommentToken text) s line h going refl b
came-step NullCharacterToken s line h going b = busy-step NullCharacterToken s line h going refl b
came-step EOFToken s line h going b = busy-step EOFToken s line h going refl b

pub gives-taken : {H : Type 0} (node : H → ℕ) (t : Token) (s new : State) (line : ℕ)
    (r : Result (TokenSinkResult H) ParseFault) → Usable (hushed s) → s.has_ended ≡ false → is_barred s.mode t ≡ false
    → IsTaken node t s new r → IfErr r (λ fault. fault ≡ Memory) → Gives node (step (hushed s) t line) r (hushed new)
gives-taken node t s new line (Ok answer) h going b e f = came-step t s line h going b ∙ rw (e.0, e.1) refl
gives-taken node t s new line (Err fault) h going b e f = rw (f, came-step t s line h going b) refl

pub usable-taken : {H : Type 0} (node : H → ℕ) (t : Token) (s new : State) (answer : TokenSinkResult H)
    → Usable (hushed s) → s.has_ended ≡ false → is_barred s.mode t ≡ false
    → IsTaken node t s new (Ok answer) → Usable (hushed new)
usable-taken node t s new answer h going b e =
    rw e.0 (subst (λ r. IfOk r (λ p. Usable p.0)) (came-step t s 0 h going b) (usable-step (hushed s) h t 0))

-- the number of errors

one_more-raises : (x : ℕ) → x ≤ one_more x
one_more-raises x = grind (arith, nat_tests)

rises-above : (n k : ℕ) → one_more k ≤ rises (suc n) k
rises-above zero k = omega arith
rises-above (suc n) k = let h = rises-above n k in let f = one_more-raises (rises (suc n) k) in omega arith

suc-some : (n : ℕ) → nat_eq (suc n) 0 ≡ false
suc-some n = grind (arith, nat_tests)

own : (k e : ℕ) → CountsOwn (nat_eq k 0) e (rises k e)
own zero e = refl
own (suc n) e = rw (suc-some n) (rises-above n e)

busy-own : (t : Token) (s : State) → CountsOwn (is_quiet (hushed s) t) s.forest.errors (taken t s).state.forest.errors
unfolding is_quiet
busy-own t s = subst (λ made. CountsOwn (nat_eq (taken t (hushed s)).state.forest.errors 0) s.forest.errors
    made.state.forest.errors) (sym (taken-hushed t s)) (own (taken t (hushed s)).state.forest.errors s.forest.errors)

no_text-quiet : (s : State) → is_quiet (hushed s) (CharacterTokens []) ≡ true
unfolding is_quiet taken set_ignore_lf
no_text-quiet s = by s.ignore_lf where
  by : (b : Bool) → nat_eq (text_taken (after_line_feed b []) (untouched (set_ignore_lf false (hushed s)))).state.forest.errors 0 ≡ true
  by true = refl
  by false = refl

came-counts : (t : Token) {R : Type 0} (r : R) (s : State) → Counts (is_quiet (hushed s) t) t (Ok r) s.forest.errors
    (came_of t s).state.forest.errors
unfolding parse_error
came-counts (ParseError message) r s = refl
came-counts (CharacterTokens []) r s = rw (no_text-quiet s) refl
came-counts (CharacterTokens (c ∷ cs)) r s = busy-own (CharacterTokens (c ∷ cs)) s
came-counts (DoctypeToken d) r s = busy-own (DoctypeToken d) s
came-counts (TagToken tag) r s = busy-own (TagToken tag) s
came-counts (CommentToken text) r s = busy-own (CommentToken text) s
came-counts NullCharacterToken r s = busy-own NullCharacterToken s
came-counts EOFToken r s = busy-own EOFToken s

err-counts : (t : Token) (R : Type 0) (q : Bool) (fault : ParseFault) (a b : ℕ) → Counts {R = R} q t (Err fault) a b
err-counts (ParseError message) R q fault a b = tt
err-counts (DoctypeToken d) R q fault a b = tt
err-counts (TagToken tag) R q fault a b = tt
err-counts (CommentToken text) R q fault a b = tt
err-counts (CharacterTokens text) R q fault a b = tt
err-counts NullCharacterToken R q fault a b = tt
err-counts EOFToken R q fault a b = tt

pub counts-taken : {H : Type 0} (node : H → ℕ) (t : Token) (s new : State)
    (r : Result (TokenSinkResult H) ParseFault) → IsTaken node t s new r → Counts (is_quiet (hushed s) t) t r
    s.forest.errors new.forest.errors
counts-taken node t s new (Ok answer) e = rw e.0 (came-counts t answer s)
counts-taken {H} node t s new (Err fault) e = err-counts t (TokenSinkResult H) (is_quiet (hushed s) t) fault
    s.forest.errors new.forest.errors

-- it leaves a usable state, unless it leaves a builder that has failed
pub sound-taken : {H : Type 0} (node : H → ℕ) (t : Token) (s new : State)
    (r : Result (TokenSinkResult H) ParseFault) (failed : Bool) → Usable (hushed s) → s.has_ended ≡ false → is_barred s.mode t ≡ false
    → IsTaken node t s new r → IfErr r (λ fault. fault ≡ Memory) → failed ≡ fails r → failed ≡ false → Usable (hushed new)
sound-taken node t s new (Ok answer) failed h going b e f is works = usable-taken node t s new answer h going b e
sound-taken node t s new (Err fault) failed h going b e f is works = absurd (true≢false (sym (is ∙ rw f refl) ∙ works))
