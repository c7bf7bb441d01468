use Rattle.std.proofs.Common.{rules, subst, sym}
use Rattle.html_rules_laws.specs.Usable.{Usable}
use Rattle.html_rules_laws.proofs.Progress.UsableTokens.{usable-unhushed}
use Rattle.html_tree_builder.specs.States.{built}
use Rattle.html_tree_builder.proofs.builder.TreeBuilder.process_or_fail.Goals as goal

pub process-requires-clause-usable : goal.process-requires-clause-usable
process-requires-clause-usable g c =
    let s = built g.Sink.TreeSink c.args.self.now.construction (g.Sink.TreeSink.forest c.args.self.now.sink) in
    subst Usable (sym c.report_line.ensures.same) (usable-unhushed s c.requires.usable)

pub returns-in-Err-clause-failed : goal.returns-in-Err-clause-failed
returns-in-Err-clause-failed g c = search rules

pub returns-in-Ok-clause-counted : goal.returns-in-Ok-clause-counted
returns-in-Ok-clause-counted g c = search rules
