use Rattle.std.proofs.Common.{rules}
use Rattle.html_forest.proofs.forest.ForestTreeSink.finish.Goals as goal

pub returns : goal.returns
returns c = search rules
