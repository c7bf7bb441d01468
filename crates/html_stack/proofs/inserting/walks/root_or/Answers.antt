use Rattle.std.proofs.Common.{arith}
use Rattle.html_stack.proofs.Points.{root-at}
use Rattle.html_stack.proofs.inserting.walks.root_or.Goals as goal

pub returns-else-count-eq0 : goal.returns-else-count-eq0
returns-else-count-eq0 g c node h = root-at node c.args.elements.now c.index-elements-0.result (omega arith)
