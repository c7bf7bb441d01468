use Rattle.std.proofs.Common.{◌≡◌, ◌++◌, drop}
use Rattle.html_policy_text.specs.Written.{spaced}
use Rattle.html_policy_text.proofs.writing.push_names.Given as goal

abbrev pub invariant-loop-name : goal.invariant-loop-name
invariant-loop-name l = l.text ++ spaced (drop l.name-index l.names) ≡ l.fn.text ++ spaced l.names
