use Rattle.std.proofs.Common.{◌≡◌, ◌++◌, drop, map}
use Rattle.html_policy_text.specs.Written.{marked, spaced}
use Rattle.html_policy_text.proofs.writing.push_beginnings.Given as goal

abbrev pub invariant-loop-beginning : goal.invariant-loop-beginning
invariant-loop-beginning l =
    l.text ++ spaced (map marked (drop l.beginning-index l.beginnings)) ≡ l.fn.text ++ spaced (map marked l.beginnings)
