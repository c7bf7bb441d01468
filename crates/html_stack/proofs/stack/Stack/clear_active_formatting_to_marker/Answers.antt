use Rattle.std.proofs.Common.{refl}
use Rattle.html_stack.proofs.stack.Stack.clear_active_formatting_to_marker.Goals as goal

pub returns : goal.returns
returns g c =
    let left = rw c.as_slice.ensures.value at (c.count_to_marker-left.ensures.left g.Sink.TreeSink.node) in
    rw (← c.self.view_is, c.truncate.ensures.items, left) refl
