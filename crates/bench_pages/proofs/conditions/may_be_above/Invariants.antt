use Rattle.markup.specs.Forest.{Above}
use Rattle.bench_pages.proofs.conditions.may_be_above.Given as goal

abbrev pub invariant-loop-i : goal.invariant-loop-i
invariant-loop-i l = Above l.forest l.a l.fn.node → Above l.forest l.a l.at
