use Rattle.std.proofs.Common.{arith}
use Rattle.html_stack.specs.Stacks.{open_of}
use Rattle.html_stack.proofs.Points.{opened-IsNode, opened-at}
use Rattle.html_stack.proofs.inserting.roots.second_body.Goals as goal

pub returns-then-is_in-clause-is_node : goal.returns-then-is_in-clause-is_node
returns-then-is_in-clause-is_node g c node f h =
    let at = opened-at f node c.args.elements.now 2 1 c.index-elements-1.result h (omega arith) (omega arith) c.index-elements-1.is in
    opened-IsNode f (open_of node c.index-elements-1.result) at.0
