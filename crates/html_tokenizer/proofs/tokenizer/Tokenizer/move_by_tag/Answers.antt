use Rattle.std.proofs.Common.{◌<◌, ◌∙◌, ap, length, refl, subst, sym}
use Rattle.html_tokenizer.specs.Fronts.{TakesFront}
use Rattle.html_tokens.specs.declared.states.State.TheVariants as state
use Rattle.html_tokenizer.proofs.Fronts.Moves.{heeding, moved-front, not-fronted, skip-cut}
use Rattle.html_tokenizer.proofs.tokenizer.Tokenizer.move_by_tag.Goals as goal

pub skip-requires : goal.skip-requires
skip-requires g c =
    let m = g.Sink.TokenSink in
    skip-cut m (heeding m c.args.self.now) c.consume_opening.new.self c.as_str-text.result.now _
    c.in_ok-rest.rest.now _ c.as_str-text.utf8 c.as_str-text.ensures refl
    (subst (λ u. TakesFront m (heeding m c.args.self.now) c.consume_opening.new.self u c.in_ok-rest.rest.now)
    (sym c.in-Some.ensures.0) c.in_ok-rest.ensures.ok)

pub move_to_end-requires-clause-sound : goal.move_to_end-requires-clause-sound
move_to_end-requires-clause-sound g c = c.in_ok-rest.ensures.ok.took.sound

pub move_to_end-requires-clause-unmarked : goal.move_to_end-requires-clause-unmarked
move_to_end-requires-clause-unmarked g c = ap (λ s. s.discard_bom) c.in_ok-rest.ensures.ok.took.stream ∙ c.requires.tags.unmarked

pub move_to_end-requires-clause-heeds : goal.move_to_end-requires-clause-heeds
move_to_end-requires-clause-heeds g c = ap (λ s. s.ignore_lf) c.in_ok-rest.ensures.ok.took.stream

pub returns : goal.returns
returns g c =
    let m = g.Sink.TokenSink in
    c.move_to_end.ensures c.args.self.now c.args.input.now
    (moved-front m state.Data c.args.self.now c.consume_opening.new.self c.args.input.now c.skip.new.self
    c.as_str-text.result.now _ c.in_ok-rest.rest.now _ c.requires.tags c.as_str-text.ensures refl
    (subst (λ u. length c.in_ok-rest.rest.now < length u) (sym c.in-Some.ensures.0) c.in_ok-rest.ensures.shorter)
    (subst (λ u. TakesFront m (heeding m c.args.self.now) c.consume_opening.new.self u c.in_ok-rest.rest.now)
    (sym c.in-Some.ensures.0) c.in_ok-rest.ensures.ok)
    c.skip.ensures)

pub returns-in_err-rest : goal.returns-in_err-rest
returns-in_err-rest g c =
    let m = g.Sink.TokenSink in
    not-fronted m c.args.self.now c.consume_opening.new.self c.args.input.now _ c.args.answer.now _
    c.consume_opening.ensures.sink c.in_err-rest.ensures.fault c.requires.ready c.from_residual.ensures.1
