use Rattle.std.proofs.Common.{rules}
use Rattle.html_forest.proofs.nodes.link_between.Goals as goal

pub returns-clause-entries : goal.returns-clause-entries
returns-clause-entries c = search rules

pub returns-clause-links : goal.returns-clause-links
returns-clause-links c = search rules

pub returns-clause-len : goal.returns-clause-len
returns-clause-len c = search rules
