use Rattle.html_parser.proofs.NoRefusal.{no-refusal}
use Rattle.html_parser.proofs.laws.no_text_is_refused.Goals as goal

pub returns : goal.returns
returns g c = no-refusal g.Sink.TreeSink
