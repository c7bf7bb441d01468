use Rattle.std.proofs.Common.{◌∙◌, sym}
use Rattle.html_stack.specs.Stacks.{open_of, opens_of}
use Rattle.html_stack.proofs.Points.{place-fostered}
use Rattle.html_stack.proofs.inserting.places.point_for.Goals as goal

pub returns-then-is_in-clause-place : goal.returns-then-is_in-clause-place
returns-then-is_in-clause-place g c f =
    let node = g.Sink.TreeSink.node in
    c.foster_point.ensures.place f
    ∙ sym (place-fostered c.args.foster f (opens_of node c.args.elements.now) (open_of node c.args.target.now)
    c.if-foster.true (sym c.if-is_in.ensures))
