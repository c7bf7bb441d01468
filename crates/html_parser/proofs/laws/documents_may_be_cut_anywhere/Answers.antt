use Rattle.html_parser.proofs.Alike.{cut-anywhere}
use Rattle.html_parser.proofs.laws.documents_may_be_cut_anywhere.Goals as goal

pub returns : goal.returns
returns g c = cut-anywhere g.Sink.TreeSink
