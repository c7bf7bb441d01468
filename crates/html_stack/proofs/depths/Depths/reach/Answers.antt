use Rattle.std.proofs.Common.{◌≡◌, length, arith}
use Rattle.html_stack.specs.Noted.{NoneNoted, bears}
use Rattle.html_stack.proofs.Noted.{none-either, none-passes}
use Rattle.html_stack.proofs.depths.Depths.reach.Goals as goal

pub returns-then-len-count-clause-beyond : goal.returns-then-len-count-clause-beyond
returns-then-len-count-clause-beyond c xs all is =
    let d = c.args.self.now in
    let count : length d.notes.items ≡ length xs = omega (arith, c.if-len-count.true, c.len.ensures, all) in
    let one : NoneNoted c.args.one d.notes.items c.reach.result = rw c.as_slice.ensures.value at c.reach.ensures.one in
    let other : NoneNoted c.args.other d.notes.items c.reach.result = rw c.as_slice.ensures.value at c.reach.ensures.other in
    none-either (bears c.args.one) (bears c.args.other) xs c.reach.result c.reach.result c.reach.result
    (omega arith) (omega arith) (none-passes xs d c.args.one c.reach.result count is one)
    (none-passes xs d c.args.other c.reach.result count is other)
