-- Every sink takes text in pieces as in one.
use Rattle.std.proofs.Common.{Bool, ◌++◌, ◌∙◌}
use Rattle.std.proofs.lemmas.Result.{IfOk-weaker}
use Rattle.html_tokens.specs.declared.token.Token.{Token}
use Rattle.html_tokens.specs.declared.token.Token.TheVariants.{CharacterTokens}
use Rattle.html_tokens.specs.Laws.{JoinsText}
use Rattle.html_tokens.specs.Sink.{Step, SinkLaws}
use Rattle.html_tokens.proofs.Readings.{bind_where}

pub joins-from_laws : {S : Type 0} (is_sound : S → Type 0) (step : Step S) (ended : S → S)
    (is_quiet : S → Token → Bool) → SinkLaws is_sound step ended is_quiet → JoinsText is_sound step
joins-from_laws is_sound step ended is_quiet laws = record {
  keeps = λ s h a k. laws.keeps s h (CharacterTokens a) k;
  pieces = λ s h a b k l m.
      bind_where (step s (CharacterTokens a) k) _ _
      (IfOk-weaker (step s (CharacterTokens a) k) _ _ (λ p q. laws.lines p.0 q b l k) (laws.keeps s h (CharacterTokens a) k))
      ∙ (laws.pieces s h a b k ∙ laws.lines s h (a ++ b) k m);
  goes_on = λ s h a k. laws.replies s h (CharacterTokens a) k;
}
