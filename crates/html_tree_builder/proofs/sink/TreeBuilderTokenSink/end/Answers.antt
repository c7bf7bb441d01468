use Rattle.std.proofs.Common.{◌∙◌, ap}
use Rattle.html_rules.specs.State.{hushed}
use Rattle.html_rules.specs.Step.{ended}
use Rattle.html_rules_laws.proofs.Progress.UsableTokens.{usable-unhushed}
use Rattle.html_tree_builder.specs.States.{built}
use Rattle.html_tree_builder.proofs.sink.TreeBuilderTokenSink.end.Goals as goal

pub end-requires : goal.end-requires
end-requires g c =
    let s = built g.Sink.TreeSink c.args.self.now.construction (g.Sink.TreeSink.forest c.args.self.now.sink) in
    let usable = usable-unhushed s (c.requires c.if-self.false) in
    usable.steady.upright.standing.opened

pub returns-then-self-clause-ends : goal.returns-then-self-clause-ends
unfolding ended
returns-then-self-clause-ends g c =
    ap (λ b. hushed (built g.Sink.TreeSink b (g.Sink.TreeSink.forest c.args.self.now.sink))) c.end_untold.ensures

pub returns-else-self-clause-ends : goal.returns-else-self-clause-ends
unfolding ended
returns-else-self-clause-ends g c =
    ap (λ b. hushed (built g.Sink.TreeSink b (g.Sink.TreeSink.forest c.end.new.sink))) c.end.ensures.left
    ∙ ap (λ f. ended (hushed (built g.Sink.TreeSink c.args.self.now.construction f))) c.end.ensures.same
