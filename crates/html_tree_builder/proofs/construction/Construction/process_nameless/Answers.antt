use Rattle.std.proofs.Common.{◌≡◌, ◌+◌, false, subst}
use Rattle.std.specs.Prelude.{IfOk, OnOk}
use Rattle.html_rules.specs.Actions.{set_ignore_lf}
use Rattle.html_rules.specs.Rules.{settle}
use Rattle.html_tokens.specs.Sink.{numbered}
use Rattle.html_tree_builder.specs.States.{built}
use Rattle.html_tree_builder.proofs.construction.Construction.process_nameless.Goals as goal

pub returns-clause-state : goal.returns-clause-state
returns-clause-state g c =
    subst (λ t. OnOk c.process_named.result
    (built g.Sink.TreeSink c.process_named.new.self (g.Sink.TreeSink.forest c.process_named.new.sink) ≡
    (settle t (set_ignore_lf false (built g.Sink.TreeSink c.args.self.now (g.Sink.TreeSink.forest c.args.sink.now)))).state))
    c.of.ensures.content c.process_named.ensures.state

pub returns-clause-reply : goal.returns-clause-reply
returns-clause-reply g c =
    subst (λ t. IfOk c.process_named.result
    (λ reply. numbered g.Sink.TreeSink.node reply ≡
    (settle t (set_ignore_lf false (built g.Sink.TreeSink c.args.self.now (g.Sink.TreeSink.forest c.args.sink.now)))).reply))
    c.of.ensures.content c.process_named.ensures.reply

pub returns-clause-counted : goal.returns-clause-counted
returns-clause-counted g c =
    subst (λ t. OnOk c.process_named.result
    (c.process_named.new.turns.count ≡ c.args.turns.now.count +
    (settle t (set_ignore_lf false (built g.Sink.TreeSink c.args.self.now (g.Sink.TreeSink.forest c.args.sink.now)))).turns))
    c.of.ensures.content c.process_named.ensures.counted
