use Rattle.std.proofs.Common.{◌∙◌, ap, arith, length, sym}
use Rattle.html_rules.specs.Places.{place_for}
use Rattle.html_rules.specs.Templates.{intended_parent_at}
use Rattle.html_stack.specs.Stacks.{opens_of}
use Rattle.html_stack.proofs.Points.{current-at, opened-at}
use Rattle.html_stack.proofs.inserting.places.current_point.Goals as goal

pub returns-clause-is_point : goal.returns-clause-is_point
returns-clause-is_point g c f tree h =
    let at = opened-at f g.Sink.TreeSink.node c.args.elements.now (length c.args.elements.now) _
    c.index-elements-count.result h (omega arith) (omega arith) c.index-elements-count.is in
    c.point_for.ensures.is_point f tree h at.0

pub returns-clause-place : goal.returns-clause-place
returns-clause-place g c f =
    let node = g.Sink.TreeSink.node in
    c.point_for.ensures.place f ∙ ap (place_for c.args.foster f (opens_of node c.args.elements.now))
    (sym (current-at node c.args.elements.now _ c.index-elements-count.result (omega arith) c.index-elements-count.is))

pub returns-clause-asked : goal.returns-clause-asked
returns-clause-asked g c =
    let node = g.Sink.TreeSink.node in
    c.point_for.ensures.asked ∙ ap (intended_parent_at c.args.foster (opens_of node c.args.elements.now))
    (sym (current-at node c.args.elements.now _ c.index-elements-count.result (omega arith) c.index-elements-count.is))
