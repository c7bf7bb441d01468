-- What the step of the rules keeps of the laws of sinks.
use Rattle.std.specs.Prelude.{◌≡◌, ℕ, true, false, ◌&&◌, List, ◌++◌, IfOk, IsErr}
use Rattle.html_tokens.specs.Sink.{◌>>=◌, IsIdle, IsReplyTo}
use Rattle.html_tokens.specs.declared.token.Token.{Token}
use Rattle.html_tokens.specs.declared.token.Token.TheVariants.{CharacterTokens}
use Rattle.html_rules.specs.Shape.{is_fit}
use Rattle.html_rules.specs.State.{State}
use Rattle.html_rules.specs.Step.{is_quiet, step}
use Rattle.html_rules_laws.specs.Ready.{are_formatting, fits_head}

-- what text asks of a state: before and in the head nothing else is open, and only formatting elements are listed
pub record TextSound (s : State) : Type 0 where
  pub in_head : fits_head s.mode s.open_elems ≡ true
  pub listed : are_formatting s.active_formatting ≡ true

-- all laws of sinks but that sound states lead to sound states
pub record AreTokensTakenLawfully : Type 0 where
  -- in states that take text, text in two pieces is as in one, and its line is of no account
  pub pieces : (s : State) → (s.has_ended ≡ false → is_fit s ≡ true → TextSound s) → (a b : List ℕ) (line : ℕ)
      → (step s (CharacterTokens a) line >>= λ p. step p.0 (CharacterTokens b) line) ≡ step s (CharacterTokens (a ++ b)) line
  pub lines : (s : State) (a : List ℕ) (line other : ℕ) → step s (CharacterTokens a) line ≡ step s (CharacterTokens a) other
  -- empty text and errors change nothing, and are refused only where every token is
  pub idle : (s : State) (t : Token) → IsIdle t → (line : ℕ) → IfOk (step s t line) (λ p. p.0 ≡ s)
  pub idle_refused : (s : State) (t : Token) → IsIdle t → (line : ℕ) → IsErr (step s t line)
      → (any : Token) (other : ℕ) → IsErr (step s any other)
  -- each reply is one that the token may get
  pub replies : (s : State) (t : Token) (line : ℕ) → IfOk (step s t line) (λ p. IsReplyTo t p.1)
  -- text in two pieces is quiet exactly if both are
  pub quiet : (s : State) → (s.has_ended ≡ false → is_fit s ≡ true → TextSound s) → (a b : List ℕ) (line : ℕ)
      → IfOk (step s (CharacterTokens a) line)
      (λ p. is_quiet s (CharacterTokens (a ++ b)) ≡ (is_quiet s (CharacterTokens a) && is_quiet p.0 (CharacterTokens b)))
