use Rattle.std.proofs.Common.{refl}
use Rattle.html_tokenizer.proofs.Fronts.Lines.{lines-cut, lines-made, lines-stuck, moved-lines}
use Rattle.html_tokenizer.proofs.Fronts.Moves.{goes-on_by}
use Rattle.html_tokenizer.proofs.tokenizer.Tokenizer.move_by_lines.Goals as goal

pub range-requires-clause-end_boundary : goal.range-requires-clause-end_boundary
range-requires-clause-end_boundary g c = lines-cut c.as_str-text.result.now _ c.after_lines-breaks.result.0.now _ _
    _ c.as_str-text.utf8 refl refl c.after_lines-breaks.ensures

pub skip-requires : goal.skip-requires
skip-requires g c = lines-cut c.as_str-text.result.now _ c.after_lines-breaks.result.0.now _ _ _ c.as_str-text.utf8
    c.as_str-text.ensures refl c.after_lines-breaks.ensures

pub emit_lines-requires-clause-filled : goal.emit_lines-requires-clause-filled
emit_lines-requires-clause-filled g c =
    (lines-made c.as_str-text.result.now _ c.after_lines-breaks.result.0.now c.range.result.now c.in_ok-lines.lines
    _ _ _ c.args.input.now c.skip.new.self c.as_str-text.ensures refl c.range.ensures.value
    c.in_ok-lines.ensures.ok c.if-width-eq0.false c.after_lines-breaks.ensures c.skip.ensures).0

pub returns-in_err-emit_lines : goal.returns-in_err-emit_lines
returns-in_err-emit_lines g c =
    let m = g.Sink.TokenSink in
    let made = lines-made c.as_str-text.result.now _ c.after_lines-breaks.result.0.now c.range.result.now
    c.in_ok-lines.lines _ _ _ c.args.input.now c.skip.new.self c.as_str-text.ensures refl c.range.ensures.value
    c.in_ok-lines.ensures.ok c.if-width-eq0.false c.after_lines-breaks.ensures c.skip.ensures in
    lines-stuck m c.args.self.now c.emit_lines.new.self c.in_ok-lines.lines c.args.input.now c.skip.new.self _
    c.args.answer.now c.from_residual-in_err-emit_lines.result c.requires.tags c.if-self.false made.1 made.2
    c.in_err-emit_lines.ensures c.from_residual-in_err-emit_lines.ensures.1

pub returns : goal.returns
returns g c =
    let m = g.Sink.TokenSink in
    let made = lines-made c.as_str-text.result.now _ c.after_lines-breaks.result.0.now c.range.result.now
    c.in_ok-lines.lines _ _ _ c.args.input.now c.skip.new.self c.as_str-text.ensures refl c.range.ensures.value
    c.in_ok-lines.ensures.ok c.if-width-eq0.false c.after_lines-breaks.ensures c.skip.ensures in
    goes-on_by m c.args.self.now c.emit_lines.new.self c.args.input.now c.skip.new.self c.args.answer.now
    c.requires.goes_on (moved-lines m c.args.self.now c.emit_lines.new.self c.in_ok-lines.lines c.args.input.now
    c.skip.new.self c.requires.tags c.if-self.false made.0 made.1 made.2 c.in_ok-emit_lines.ensures)
