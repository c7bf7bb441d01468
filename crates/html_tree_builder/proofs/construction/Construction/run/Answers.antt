use Rattle.std.proofs.Common.{◌∙◌, ap, sym}
use Rattle.html_tree_builder.proofs.RunsFound.{run-found}
use Rattle.html_tree_builder.proofs.construction.Construction.run.Goals as goal

pub returns : goal.returns
returns g c a f =
    let same = ap (λ b. b.foster_parenting) c.self.view_is in
    run-found a c.args.self.now f _ _ c.run_at.result (sym same ∙ c.if-self.false) c.in_ok-element.ensures
    (ap (λ b. b.mode) c.self.view_is) (c.run_at.ensures g.Sink.TreeSink.node)
