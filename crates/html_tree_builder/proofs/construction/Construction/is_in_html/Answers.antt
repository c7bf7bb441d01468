use Rattle.std.proofs.Common.{sym}
use Rattle.html_stack.specs.Stacks.{open_of}
use Rattle.html_tree_builder.specs.States.{state_of}
use Rattle.html_tree_builder.proofs.RowsAtHand.{in-html}
use Rattle.html_tree_builder.proofs.construction.Construction.is_in_html.Goals as goal

pub returns-in-Some : goal.returns-in-Some
returns-in-Some g c is a f t = in-html (state_of a c.args.self.now f) t (open_of g.Sink.TreeSink.node c.in-Some.element.now)
    c.in-Some.ensures (sym (rw is at c.is_html.ensures))
