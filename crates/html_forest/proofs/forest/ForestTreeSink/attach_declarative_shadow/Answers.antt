use Rattle.std.proofs.Common.{rules}
use Rattle.html_forest.proofs.forest.ForestTreeSink.attach_declarative_shadow.Goals as goal

pub returns-clause-attached : goal.returns-clause-attached
returns-clause-attached c = search rules

pub returns-clause-same : goal.returns-clause-same
returns-clause-same c = search rules
