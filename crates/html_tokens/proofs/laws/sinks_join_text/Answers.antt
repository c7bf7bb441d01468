use Rattle.html_tokens.proofs.SinkTexts.{joins-from_laws}
use Rattle.html_tokens.proofs.laws.sinks_join_text.Goals as goal

pub returns : goal.returns
returns g c = let T = g.S.TokenSink in joins-from_laws T.is_sound T.step T.ended T.is_quiet g.met.S.TokenSink.laws
