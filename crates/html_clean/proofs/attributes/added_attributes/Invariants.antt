use Rattle.std.proofs.Common.{◌≡◌, drop}
use Rattle.html_clean.specs.Policies.{added_attributes, with_additions}
use Rattle.html_clean.proofs.attributes.added_attributes.Given as goal

abbrev pub invariant-loop-addition : goal.invariant-loop-addition
invariant-loop-addition l =
    with_additions l.policy l.element l.added (drop l.addition-index l.policy.added.items) ≡ added_attributes l.policy l.element
