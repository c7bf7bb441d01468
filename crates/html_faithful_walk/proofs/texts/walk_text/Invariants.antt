use Rattle.std.proofs.Common.{◌≡◌, ◌++◌, ℕ, List}
use Rattle.std.specs.Prelude.{None}
use Rattle.html_rules.specs.Choice.{choose}
use Rattle.html_faithful.specs.Walk.{text_walked}
use Rattle.html_faithful_judge.specs.Spots.{spot_of}
use Rattle.html_faithful_walk.proofs.texts.walk_text.Given as goal

abbrev pub invariant-loop-c : goal.invariant-loop-c
invariant-loop-c l = (cs : List ℕ) → text_walked (l.yielded ++ cs) (spot_of l.fn.made.spot)
    ≡ choose l.goes_on (λ _. text_walked cs (spot_of l.made.spot)) (λ _. None)
