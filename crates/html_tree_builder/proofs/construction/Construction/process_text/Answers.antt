use Rattle.std.proofs.Common.{◌∙◌, ap, refl}
use Rattle.html_tokens.specs.declared.token.Token.TheVariants.{CharacterTokens}
use Rattle.html_rules.specs.Actions.{act}
use Rattle.html_tree_builder.specs.Running.{run_action}
use Rattle.html_tree_builder.specs.States.{built}
use Rattle.html_tree_builder.proofs.Acted.{its_answers}
use Rattle.html_tree_builder.proofs.TextsTaken.{run-taken, usable-stands}
use Rattle.html_tree_builder.proofs.construction.Construction.process_text.Goals as goal

pub returns-in-Some-run-clause-ok : goal.returns-in-Some-run-clause-ok
returns-in-Some-run-clause-ok g c =
    let a = its_answers g.Sink.TreeSink in
    let f = g.Sink.TreeSink.forest c.loop-character.sink in
    let s = built g.Sink.TreeSink c.loop-character.self f in
    let r = built g.Sink.TreeSink c.process_run.new.self (g.Sink.TreeSink.forest c.process_run.new.sink) in
    run-taken c.loop-character.rest.now c.in-Some.character.now c.in-Some.behind.now c.in-Some-run.run' s r
    c.in-Some.ensures (c.in-Some-run.ensures a f) c.loop-character.invariant.usable
    (c.in_ok-process_run.ensures.ok a ∙ ap (λ text. act (run_action c.in-Some-run.run') (CharacterTokens text) s)
    c.in_ok-run_text.ensures.ok)
    ∙ c.loop-character.invariant.same

pub loop-character-preserved : goal.loop-character-preserved
loop-character-preserved g c =
    let left = c.in_ok-rest.ensures.ok in
    record { text = left.text; usable = left.usable; going = left.going; same = left.same ∙ c.loop-character.invariant.same }

pub loop-character-init : goal.loop-character-init
loop-character-init g c = record { text = c.utf8.text; usable = c.requires.usable; going = c.requires.going; same = refl }

pub loop-character-smaller : goal.loop-character-smaller
loop-character-smaller g c = c.in_ok-rest.ensures.ok.shorter

pub process_run-requires : goal.process_run-requires
process_run-requires g c =
    let a = its_answers g.Sink.TreeSink in
    record {
      stands = usable-stands a c.loop-character.self (g.Sink.TreeSink.forest c.loop-character.sink)
          c.loop-character.invariant.usable c.loop-character.invariant.going;
    }

pub process_front-requires-clause-usable : goal.process_front-requires-clause-usable
process_front-requires-clause-usable g c = c.loop-character.invariant.usable

pub process_front-requires-clause-going : goal.process_front-requires-clause-going
process_front-requires-clause-going g c = c.loop-character.invariant.going
