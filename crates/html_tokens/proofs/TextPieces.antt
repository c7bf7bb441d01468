-- Text in any pieces is as in one.
use Rattle.std.proofs.Common.{◌≡◌, ℕ, ◌<◌, Bool, List, [], ◌∷◌, ◌++◌, length, Result, Ok, Err, refl, sym, ap, ◌∙◌, arith}
use Rattle.std.specs.Prelude.{IsErr, is_err}
use Rattle.std.proofs.lemmas.List.{append-nil}
use Rattle.std.proofs.lemmas.Result.{IfOk-weaker}
use Rattle.markup.specs.declared.fault.ParseFault.{ParseFault}
use Rattle.markup.specs.declared.fault.ParseFault.TheVariants.{Memory, TokenInText, Ended, Shape, Failed}
use Rattle.html_tokens.specs.Sink.{◌>>=◌, Step, Reply, Refusal, SinkLaws, Gives, IsIdle, IsRefusal}
use Rattle.html_tokens.proofs.Readings.{bind_where}
use Rattle.html_tokens.specs.Pieces.{joined, told, Refuses}
use Rattle.html_tokens.specs.declared.replies.TokenSinkResult.TheVariants.{Continue}
use Rattle.html_tokens.specs.declared.token.Token.{Token}
use Rattle.html_tokens.specs.declared.token.Token.TheVariants.{CharacterTokens}

bind-Ok : {A : Type 0} (r : Result A Refusal) → (r >>= Ok) ≡ r
bind-Ok (Ok p) = refl
bind-Ok (Err refusal) = refl

-- the fault of a call is the refusal of its step, if it is one
pub given-refused : {S H : Type 0} (number : H → ℕ) (given : Result (S × Reply) Refusal) (fault : ParseFault)
    (new : S) → Gives number given (Err fault) new → Refuses given fault
given-refused number given Memory new h = tt
given-refused number given TokenInText new h = h
given-refused number given Ended new h = h
given-refused number given Shape new h = h
given-refused number given Failed new h = tt

module _ {S : Type 0} (is_sound : S → Type 0) (step : Step S) (ended : S → S) (is_quiet : S → Token → Bool)
    (laws : SinkLaws is_sound step ended is_quiet) where
  -- one piece or more make of a sound state what their joined text makes of it, told with any line
  pub told-joined : (s : S) → is_sound s → (a : List ℕ) (line other : ℕ) (rest : List (List ℕ × ℕ))
      → told step s ((a, line) ∷ rest) ≡ step s (CharacterTokens (a ++ joined rest)) other
  told-joined s h a line other [] =
      bind_where (step s (CharacterTokens a) line) (λ p. Ok (p.0, Continue)) Ok
      (IfOk-weaker (step s (CharacterTokens a) line) _ _ (λ p e. ap (λ reply. Ok (p.0, reply)) (sym e))
      (laws.replies s h (CharacterTokens a) line))
      ∙ bind-Ok (step s (CharacterTokens a) line)
      ∙ laws.lines s h a line other
      ∙ ap (λ text. step s (CharacterTokens text) other) (sym (append-nil a))
  told-joined s h a line other (b ∷ rest) =
      bind_where (step s (CharacterTokens a) line) (λ p. told step p.0 (b ∷ rest))
      (λ p. step p.0 (CharacterTokens (b.0 ++ joined rest)) line)
      (IfOk-weaker (step s (CharacterTokens a) line) _ _ (λ p k. told-joined p.0 k b.0 b.1 line rest)
      (laws.keeps s h (CharacterTokens a) line))
      ∙ laws.pieces s h a (b.0 ++ joined rest) line
      ∙ laws.lines s h (a ++ (b.0 ++ joined rest)) line other

  -- the same of a list of pieces that is not empty
  pub told-whole : (s : S) → is_sound s → (all : List (List ℕ × ℕ)) → 0 < length all → (line : ℕ)
      → told step s all ≡ step s (CharacterTokens (joined all)) line
  told-whole s h [] some line = absurd (omega (arith, some))
  told-whole s h (piece ∷ rest) some line = told-joined s h piece.0 piece.1 line rest

  -- where all pieces make of s what a piece and the rest make of t, and t refuses that piece, s refuses the whole
  pub told-refused : {H : Type 0} (number : H → ℕ) (s t : S) → is_sound s → (all rest : List (List ℕ × ℕ))
      (a : List ℕ) (own : ℕ) → 0 < length all → told step s all ≡ told step t ((a, own) ∷ rest)
      → (fault : ParseFault) (new : S) → Gives number (step t (CharacterTokens a) own) (Err fault) new → (line : ℕ)
      → Refuses (step s (CharacterTokens (joined all)) line) fault
  told-refused number s t h all rest a own some e Memory new given line = tt
  told-refused number s t h all rest a own some e TokenInText new given line = sym (told-whole s h all some line)
      ∙ e ∙ ap (λ r. r >>= (λ p. told step p.0 rest)) given
  told-refused number s t h all rest a own some e Ended new given line = sym (told-whole s h all some line) ∙ e
      ∙ ap (λ r. r >>= (λ p. told step p.0 rest)) given
  told-refused number s t h all rest a own some e Shape new given line = sym (told-whole s h all some line) ∙ e
      ∙ ap (λ r. r >>= (λ p. told step p.0 rest)) given
  told-refused number s t h all rest a own some e Failed new given line = tt

  -- a sink that refuses an error refuses every token
  pub error-refused : {H : Type 0} (number : H → ℕ) (s : S) → is_sound s → (t : Token) → IsIdle t
      → (own : ℕ) (fault : ParseFault) (new : S) → Gives number (step s t own) (Err fault) new → IsRefusal fault
      → (any : Token) (line : ℕ) → IsErr (step s any line)
  error-refused number s h t idle own Memory new given refusal any line = absurd refusal
  error-refused number s h t idle own TokenInText new given refusal any line = laws.idle_refused s h t idle own (ap is_err given) any line
  error-refused number s h t idle own Ended new given refusal any line = laws.idle_refused s h t idle own (ap is_err given) any line
  error-refused number s h t idle own Shape new given refusal any line = laws.idle_refused s h t idle own (ap is_err given) any line
  error-refused number s h t idle own Failed new given refusal any line = absurd refusal
