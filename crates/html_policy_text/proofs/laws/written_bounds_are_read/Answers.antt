use Rattle.html_policy_text.proofs.BoundsBack.{bounded-read}
use Rattle.html_policy_text.proofs.laws.written_bounds_are_read.Goals as goal

pub returns : goal.returns
returns c = bounded-read
