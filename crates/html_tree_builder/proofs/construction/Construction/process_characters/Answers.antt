use Rattle.std.proofs.Common.{◌∙◌, ap, sym}
use Rattle.html_tokens.specs.declared.token.Token.TheVariants.{CharacterTokens}
use Rattle.html_rules.specs.Actions.{act}
use Rattle.html_names.proofs.FirstBytes.{is-empty}
use Rattle.html_stack.proofs.Results.{ok-on}
use Rattle.html_tree_builder.specs.Running.{run_action}
use Rattle.html_tree_builder.specs.States.{built}
use Rattle.html_tree_builder.proofs.Acted.{its_answers}
use Rattle.html_tree_builder.proofs.TextsTaken.{no-text-taken, own-run-taken, usable-stands}
use Rattle.html_tree_builder.proofs.construction.Construction.process_characters.Goals as goal

pub returns-then-is_empty-clause-ok : goal.returns-then-is_empty-clause-ok
returns-then-is_empty-clause-ok g c = no-text-taken c.args.text.now
    (built g.Sink.TreeSink c.args.self.now (g.Sink.TreeSink.forest c.args.sink.now)) (is-empty _ _ c.is_empty.ensures c.if-is_empty.true)

pub returns-in-Some-clause-ok : goal.returns-in-Some-clause-ok
returns-in-Some-clause-ok g c =
    let a = its_answers g.Sink.TreeSink in
    let f = g.Sink.TreeSink.forest c.args.sink.now in
    let s = built g.Sink.TreeSink c.args.self.now f in
    let r = built g.Sink.TreeSink c.process_run.new.self (g.Sink.TreeSink.forest c.process_run.new.sink) in
    ok-on c.process_run.result
    (λ acted. own-run-taken c.args.text.now c.in-Some.run' s r (sym c.is_empty.ensures ∙ c.if-is_empty.false)
    (ap (λ b. b.ignore_lf) (sym c.self.view_is) ∙ c.if-self.false) (c.in-Some.ensures a f) c.requires.usable
    (acted a ∙ ap (λ text. act (run_action c.in-Some.run') (CharacterTokens text) s) c.take.ensures.taken))
    c.process_run.ensures.ok

pub process_run-requires : goal.process_run-requires
process_run-requires g c = record {
  stands = usable-stands (its_answers g.Sink.TreeSink) c.args.self.now
      (g.Sink.TreeSink.forest c.args.sink.now) c.requires.usable c.requires.going;
}
