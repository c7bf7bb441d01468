use Rattle.std.proofs.Common.{ap, sym}
use Rattle.html_stack.specs.Stacks.{Stacked}
use Rattle.html_faithful.specs.Spots.{hollow}
use Rattle.html_faithful_judge.specs.Spots.{spot_of}
use Rattle.html_faithful_judge.proofs.spot.Spot.ends_in_html.Goals as goal

pub returns : goal.returns
returns c =
    c.ends_in_html.ensures (hollow (spot_of c.args.self.now)) (ap (λ (s : Stacked). s.open_elems) (sym c.as_stack.ensures))
