use Rattle.std.proofs.Common.{ap, sym}
use Rattle.std.specs.Prelude.{Some}
use Rattle.html_rules.specs.Reset.{reset_insertion_mode}
use Rattle.html_faithful.specs.Spots.{Spot}
use Rattle.html_faithful_judge.specs.Mades.{made_as}
use Rattle.html_faithful_judge.proofs.made.Made.reset_mode.Goals as goal

pub returns : goal.returns
unfolding reset_insertion_mode
returns c t = ap (λ (p : Spot). Some (record (made_as c.args.self.now) { spot = p })) (sym c.reset_mode.ensures)
