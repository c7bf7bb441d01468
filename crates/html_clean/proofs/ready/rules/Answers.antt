use Rattle.std.proofs.Common.{refl}
use Rattle.std.specs.Str.{chars}
use Rattle.html_clean.proofs.ready.rules.Goals as goal

pub returns-clause-ok : goal.returns-clause-ok
unfolding chars
returns-clause-ok c = rw c.in_ok-push_rules.ensures.ok (rw c.in_ok-push_plain.ensures.ok (rw c.new-rules.ensures.items refl))
