use Rattle.std.proofs.Common.{refl}
use Rattle.html_modes.proofs.modes.in_body.blocks.Goals as goal

pub returns : goal.returns
returns c = refl
