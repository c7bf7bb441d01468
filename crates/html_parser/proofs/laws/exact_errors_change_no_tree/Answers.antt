use Rattle.html_parser.proofs.Alike.{errors-aside}
use Rattle.html_parser.proofs.laws.exact_errors_change_no_tree.Goals as goal

pub returns : goal.returns
returns g c = errors-aside g.Sink.TreeSink
