use Rattle.std.proofs.Common.{refl}
use Rattle.html_tokens.specs.declared.states.State.TheVariants as state
use Rattle.html_tokenizer.proofs.Fronts.Moves.{goes-on_by, heeding, moved-front}
use Rattle.html_tokenizer.proofs.Fronts.References.{reference-cut, reference-shorter, reference-spells, reference-stuck, reference-taken}
use Rattle.html_tokenizer.proofs.tokenizer.Tokenizer.move_in_value.Goals as goal

pub skip-requires : goal.skip-requires
skip-requires g c =
    let m = g.Sink.TokenSink in
    reference-cut m c.in-Some.name.now c.in-Some.rest.now c.as_str-text.result.now _ _ _ c.as_str-text.utf8 c.as_str-text.ensures refl
    (reference-spells m c.in-Some.name.now c.in-Some.rest.now c.as_str-text.result.now c.in-Some.ensures)

pub returns : goal.returns
returns g c =
    let m = g.Sink.TokenSink in
    let whole = c.in-Some-whole_name.ensures in
    goes-on_by m c.args.self.now c.consume_whole_name.new.self c.args.input.now c.skip.new.self c.args.answer.now c.requires.goes_on
    (moved-front m (state.AttributeValue c.args.kind) c.args.self.now c.consume_whole_name.new.self c.args.input.now
    c.skip.new.self c.as_str-text.result.now _ c.in-Some.rest.now _ c.requires.value c.as_str-text.ensures refl
    (reference-shorter m c.in-Some.name.now c.in-Some.rest.now c.as_str-text.result.now c.in-Some.ensures)
    (reference-taken m (heeding m c.args.self.now) c.consume_whole_name.new.self c.in-Some.name.now
    c.in-Some.rest.now c.as_str-text.result.now _
    (reference-spells m c.in-Some.name.now c.in-Some.rest.now c.as_str-text.result.now c.in-Some.ensures)
    whole.name.held (c.in_ok-consume_whole_name.ensures.keeps _ whole))
    c.skip.ensures)

pub returns-in_err-consume_whole_name : goal.returns-in_err-consume_whole_name
returns-in_err-consume_whole_name g c =
    let m = g.Sink.TokenSink in
    let whole = c.in-Some-whole_name.ensures in
    reference-stuck m (state.AttributeValue c.args.kind) c.args.self.now c.consume_whole_name.new.self
    c.args.input.now c.skip.new.self c.in-Some.name.now c.in-Some.rest.now c.as_str-text.result.now _ _ _ _
    c.args.answer.now c.from_residual.result c.requires.value c.as_str-text.ensures refl
    (reference-spells m c.in-Some.name.now c.in-Some.rest.now c.as_str-text.result.now c.in-Some.ensures)
    whole.name.held c.skip.ensures (c.in_err-consume_whole_name.ensures.keeps _ whole) c.from_residual.ensures.1
