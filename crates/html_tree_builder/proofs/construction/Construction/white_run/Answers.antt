use Rattle.std.proofs.Common.{◌∙◌, ap, sym}
use Rattle.html_tree_builder.proofs.WhiteRuns.{other-found, white-found}
use Rattle.html_tree_builder.proofs.construction.Construction.white_run.Goals as goal

pub returns-in-Some : goal.returns-in-Some
returns-in-Some g c a f =
    let same = ap (λ b. b.foster_parenting) c.self.view_is in
    white-found _ _ _ _ _ _ (sym same ∙ c.if-self.false) c.in-Some.ensures
    (c.if-takes_text.ensures g.Sink.TreeSink.node) (ap (λ b. b.mode) c.self.view_is) c.white_in.ensures

pub returns-in-Some-2 : goal.returns-in-Some-2
returns-in-Some-2 g c a f =
    let same = ap (λ b. b.foster_parenting) c.self.view_is in
    other-found _ _ _ _ (sym same ∙ c.if-self.false) c.in-Some.ensures (c.if-takes_text.ensures g.Sink.TreeSink.node)
