use Rattle.html_stack.proofs.ShadowRoots.{asked-IsNode}
use Rattle.html_stack.proofs.stack.Stack.may_be_shadow_root.Goals as goal

pub allow_declarative_shadow_roots-requires : goal.allow_declarative_shadow_roots-requires
allow_declarative_shadow_roots-requires g c =
    let node = g.Sink.TreeSink.node in
    let f = g.Sink.TreeSink.forest c.current_place-point.new.sink in
    rw (c.asked.ensures node)
    (asked-IsNode node f c.current_place-point.result c.current_place-point.ensures.tree
    (c.current_place-point.ensures.is_point f c.current_place-point.ensures.tree (rw c.current_place-point.ensures.same c.requires)))
