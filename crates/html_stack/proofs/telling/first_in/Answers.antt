use Rattle.std.proofs.Common.{suc, refl, arith}
use Rattle.html_stack.specs.Stacks.{open_of}
use Rattle.html_stack.proofs.Points.{opened-IsNode, opened-at}
use Rattle.html_stack.proofs.telling.first_in.Goals as goal

pub returns-then-is_in : goal.returns-then-is_in
returns-then-is_in g c node f h =
    let at = opened-at f node c.args.elements.now (suc c.loop-place.place) c.loop-place.place
    c.index-elements-place.result h refl (omega arith) c.index-elements-place.is in
    opened-IsNode f (open_of node c.index-elements-place.result) at.0
