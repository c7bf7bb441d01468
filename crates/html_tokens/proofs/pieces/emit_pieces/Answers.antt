-- What the sink made of the pieces so far and what the whole text makes of the first state are one, by the sink's laws.
use Rattle.std.proofs.Common.{◌≡◌, ◌<◌, length, ap, sym, ◌∙◌, arith, rules}
use Rattle.std.proofs.lemmas.List.{nil_from_length}
use Rattle.html_tokens.specs.Pieces.{told}
use Rattle.html_tokens.proofs.TextPieces.{told-whole, told-refused}
use Rattle.html_tokens.proofs.pieces.emit_pieces.Goals as goal

pub returns-in-Err-clause-refused : goal.returns-in-Err-clause-refused
returns-in-Err-clause-refused g c line =
    let T = g.S.TokenSink in
    let some : 0 < length c.args.pieces.items = omega (arith, c.requires.some, c.args.pieces.ok) in
    let left = c.loop-text.invariant.0 ∙ ap (told T.step (T.view c.loop-text.sink)) c.in-Some.ensures.steps.0 in
    (told-refused T.is_sound T.step T.ended T.is_quiet g.met.S.TokenSink.laws T.number (T.view c.args.sink.now)
    (T.view c.loop-text.sink) c.requires.sound c.args.pieces.items
    c.next.new.self.rest.items c.in-Some.text c.in-Some.line some left c.in-Err.fault
    (T.view c.process_token.new.self) c.in-Err.ensures.gives line)

pub returns-clause-whole : goal.returns-clause-whole
returns-clause-whole g c line =
    let T = g.S.TokenSink in
    let some : 0 < length c.args.pieces.items = omega (arith, c.requires.some, c.args.pieces.ok) in
    let none : length c.loop-text.text-iterator.rest.items ≡ 0 =
    omega (arith, c.in-None.ensures.steps, c.loop-text.text-iterator.rest.ok) in
    sym (told-whole T.is_sound T.step T.ended T.is_quiet g.met.S.TokenSink.laws (T.view c.args.sink.now)
    c.requires.sound c.args.pieces.items some line)
    ∙ c.loop-text.invariant.0
    ∙ ap (told T.step (T.view c.loop-text.sink)) (nil_from_length c.loop-text.text-iterator.rest.items none)

pub returns-in-Err-clause-failed_before : goal.returns-in-Err-clause-failed_before
returns-in-Err-clause-failed_before g c = search rules

pub returns-in-Err-clause-failed_after : goal.returns-in-Err-clause-failed_after
returns-in-Err-clause-failed_after g c = search rules

pub returns-in-Err-clause-whole : goal.returns-in-Err-clause-whole
returns-in-Err-clause-whole g c line = tt
