use Rattle.std.proofs.Common.{◌≡◌}
use Rattle.html_places.specs.Fronts.{passed_all}
use Rattle.html_places.proofs.place.Front.pass_all.Given as goal

abbrev pub invariant-loop-c : goal.invariant-loop-c
invariant-loop-c l = l.self ≡ passed_all l.fn.self l.yielded
