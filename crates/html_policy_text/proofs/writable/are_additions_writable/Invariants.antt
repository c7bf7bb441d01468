use Rattle.std.proofs.Common.{◌≡◌, drop, map}
use Rattle.std.specs.List.{list_all}
use Rattle.html_clean.specs.Ready.{addition_parts}
use Rattle.html_policy_text.specs.Written.{is_addition_writable}
use Rattle.html_policy_text.proofs.writable.are_additions_writable.Given as goal

abbrev pub invariant-loop-addition : goal.invariant-loop-addition
invariant-loop-addition l =
    list_all is_addition_writable (map addition_parts (drop l.addition-index l.added))
    ≡ list_all is_addition_writable (map addition_parts l.added)
