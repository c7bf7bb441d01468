use Rattle.std.proofs.Common.{ap}
use Rattle.html_tree_builder.proofs.RefusedTexts.{refused-at}
use Rattle.html_tree_builder.proofs.construction.Construction.refuses_text.Goals as goal

pub returns-in-Some : goal.returns-in-Some
returns-in-Some g c a f = refused-at _ _ _ _ _ (ap (λ b. b.mode) c.self.view_is) c.if-not-is_of_framesets.ensures
    c.in-Some.ensures (c.takes_text.ensures g.Sink.TreeSink.node)
