use Rattle.std.proofs.Common.{refl}
use Rattle.std.specs.Str.{chars}
use Rattle.html_policy_text.proofs.rows.policy_rows.Goals as goal

pub returns : goal.returns
unfolding chars
returns c = refl
