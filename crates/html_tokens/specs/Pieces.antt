-- Text that is told in pieces.
use Rattle.std.specs.Prelude.{◌≡◌, ℕ, List, [], ◌∷◌, ◌++◌, Result, Ok, Err}
use Rattle.markup.specs.declared.fault.ParseFault.{ParseFault}
use Rattle.markup.specs.declared.fault.ParseFault.TheVariants.{Memory, TokenInText, Ended, Shape, Failed}
use Rattle.html_tokens.specs.Sink.{◌>>=◌, Step, Reply, Refusal, InText, AfterEnd, Unfit}
use Rattle.html_tokens.specs.declared.replies.TokenSinkResult.TheVariants.{Continue}
use Rattle.html_tokens.specs.declared.token.Token.TheVariants.{CharacterTokens}

-- the pieces as one text; each has a line beside it
abbrev pub joined : List (List ℕ × ℕ) → List ℕ
joined [] = []
joined (piece ∷ rest) = piece.0 ++ joined rest

-- what pieces make of a state, told one after another with their lines
abbrev pub told : {S : Type 0} → Step S → S → List (List ℕ × ℕ) → Result (S × Reply) Refusal
told step s [] = Ok (s, Continue)
told step s (piece ∷ rest) = step s (CharacterTokens piece.0) piece.1 >>= λ p. told step p.0 rest

-- the fault is the refusal that is given, if it is one
abbrev pub Refuses : {A : Type 0} → Result A Refusal → ParseFault → Type 0
Refuses given Memory = Unit {0}
Refuses given TokenInText = given ≡ Err InText
Refuses given Ended = given ≡ Err AfterEnd
Refuses given Shape = given ≡ Err Unfit
Refuses given Failed = Unit {0}
