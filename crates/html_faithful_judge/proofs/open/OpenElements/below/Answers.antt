use Rattle.std.proofs.Common.{ap, arith, length}
use Rattle.html_stack.specs.Stacks.{Stacked}
use Rattle.html_faithful_judge.specs.Contexts.{number_of}
use Rattle.html_faithful_judge.proofs.Contexts.{count-below, count-opens}
use Rattle.html_faithful_judge.proofs.open.OpenElements.below.Goals as goal

pub returns : goal.returns
returns c = omega (
  arith,
  c.saturating_sub.ensures,
  count-opens number_of c.open_elems.result.now,
  ap length c.open_elems.ensures,
  ap (λ (s : Stacked). length s.open_elems) c.self.view_is,
  count-below c.args.self.now.open_elems,
)
