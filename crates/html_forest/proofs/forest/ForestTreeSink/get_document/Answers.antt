use Rattle.std.proofs.Common.{rules}
use Rattle.html_forest.proofs.forest.ForestTreeSink.get_document.Goals as goal

pub returns-clause-document : goal.returns-clause-document
returns-clause-document c = search rules

pub returns-clause-same : goal.returns-clause-same
returns-clause-same c = search rules

pub returns-clause-is_forest : goal.returns-clause-is_forest
returns-clause-is_forest c = search rules

pub returns-clause-contents : goal.returns-clause-contents
returns-clause-contents c = search rules
