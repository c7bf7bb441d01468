use Rattle.std.proofs.Common.{◌≡◌, ◌∙◌, true, sym, ap}
use Rattle.html_rules.specs.Stack.{is_open}
use Rattle.html_stack.specs.Stacks.{Stacked}
use Rattle.html_stack.proofs.StackEdits.{open-node}
use Rattle.html_stack.proofs.stack.Stack.remove_named.Goals as goal

pub pop-requires : goal.pop-requires
pop-requires g c =
    let there : is_open (g.Sink.TreeSink.node c.args.element.now) c.args.self.now.open_elems ≡ true =
    ap (λ (v : Stacked). is_open (g.Sink.TreeSink.node c.args.element.now) v.open_elems) (sym c.self.view_is)
    ∙ sym c.if-unstack.ensures.found in
    open-node (g.Sink.TreeSink.forest c.args.sink.now) (g.Sink.TreeSink.node c.args.element.now) c.args.self.now.open_elems c.requires.opened there
