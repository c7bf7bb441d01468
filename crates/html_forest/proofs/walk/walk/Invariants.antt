use Rattle.std.proofs.Common.{◌≡◌}
use Rattle.markup.specs.Calls.{calls_of}
use Rattle.markup.specs.Trees.{inner_of, trees_of}
use Rattle.html_forest.specs.Walk.{IsAhead, IsSpot, calls_left, size_left}
use Rattle.html_forest.proofs.walk.walk.Given as goal

abbrev pub invariant-turns : goal.invariant-turns
invariant-turns g l = record {
  spot : IsSpot l.forest l.root l.spot;
  ahead : IsAhead g.S.Serializer.step (g.S.Serializer.view l.fn.serializer)
      (calls_of (trees_of l.forest (inner_of l.forest l.root))) (calls_left l.forest l.root l.spot) (g.S.Serializer.view l.serializer);
  same_references : g.S.Serializer.references l.serializer ≡ g.S.Serializer.references l.fn.serializer;
}

abbrev pub decreases-turns : goal.decreases-turns
decreases-turns g l = size_left l.forest l.root l.spot
