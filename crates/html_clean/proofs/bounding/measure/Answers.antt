use Rattle.std.proofs.Common.{[], None}
use Rattle.std.specs.Prelude.{true}
use Rattle.markup.specs.declared.serializer.TraversalScope.TheVariants.{ChildrenOnly}
use Rattle.html_clean.specs.Bounds.{nothing_measured}
use Rattle.html_clean.specs.Calls.{filtered}
use Rattle.html_clean.proofs.Within.{ran-measured}
use Rattle.html_clean.proofs.bounding.measure.Goals as goal

pub returns-in-Ok : goal.returns-in-Ok
returns-in-Ok g c = record {
  ok = ran-measured (filtered c.args.policy.now [] true (g.T.Serialize.calls c.args.node.now (ChildrenOnly None))) nothing_measured
      c.serialize_clean.new.serializer c.in-Ok.ensures.walks;
}
