-- What a token comes to in a state that refuses none.
use Rattle.std.specs.Prelude.{◌≡◌, ℕ, [], Result, IfOk}
use Rattle.markup.specs.declared.fault.ParseFault.{ParseFault}
use Rattle.html_tokens.specs.Sink.{numbered}
use Rattle.html_tokens.specs.declared.replies.TokenSinkResult.{TokenSinkResult}
use Rattle.html_tokens.specs.declared.token.Token.{Token}
use Rattle.html_tokens.specs.declared.token.Token.TheVariants.{CharacterTokens, ParseError}
use Rattle.html_rules.specs.Rules.{Settled}
use Rattle.html_rules.specs.Stack.{parse_error}
use Rattle.html_rules.specs.State.{State}
use Rattle.html_rules.specs.Step.{taken, untouched}

-- an error is counted, and an empty text changes nothing
abbrev pub came_of : Token → State → Settled
came_of (ParseError message) s = untouched (parse_error s)
came_of (CharacterTokens []) s = untouched s
came_of t s = taken t s

-- an answer with the state that it leaves is what a token comes to, unless memory is wanting
abbrev pub IsTaken : {H : Type 0} → (H → ℕ) → Token → State → State → Result (TokenSinkResult H) ParseFault → Type 0
IsTaken node t s new r = IfOk r (λ reply. (new ≡ (came_of t s).state) × (numbered node reply ≡ (came_of t s).reply))
