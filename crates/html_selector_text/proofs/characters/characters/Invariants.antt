use Rattle.std.proofs.Common.{◌≡◌}
use Rattle.html_selector_text.proofs.characters.characters.Given as goal

abbrev pub invariant-loop-c : goal.invariant-loop-c
invariant-loop-c l = l.made.items ≡ l.yielded
