use Rattle.html_walks.proofs.Entering.{nodes-entered}
use Rattle.html_walks.proofs.laws.nodes_are_entered.Goals as goal

pub returns : goal.returns
returns c f n = nodes-entered f n
