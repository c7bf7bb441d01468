use Rattle.std.proofs.Common.{◌≡◌, Option, Some, None, false, refl}
use Rattle.std.specs.Prelude.{is_some}
use Rattle.html_encodings.specs.declared.names.Encoding.{Encoding}
use Rattle.std.proofs.lemmas.Result.{err_from_is_err_and}
use Rattle.html_decoded_pages.proofs.Reading.{reaches-end, reaches-fault, reaches-first, reaches-on}
use Rattle.html_decoded_pages.proofs.pauses.read_on.Goals as goal

none-of : (named : Option Encoding) → is_some named ≡ false → named ≡ None
none-of None is = refl
none-of (Some encoding) is = absurd cc

pub loop-init : goal.loop-init
loop-init g c = reaches-first g.S.TokenSink c.args.tokenizer.now c.args.input.now c.requires.free

pub returns-in_err-next_encoding-clause-err : goal.returns-in_err-next_encoding-clause-err
returns-in_err-next_encoding-clause-err g c =
    let p = err_from_is_err_and c.from_residual.result c.from_residual.ensures.1 in
    rw (p.1, p.2) (reaches-fault g.S.TokenSink c.args.tokenizer.now c.loop.tokenizer c.args.input.now c.loop.input _
    c.loop.invariant c.in_err-next_encoding.ensures.err)

pub returns-then-is_none-clause-ok : goal.returns-then-is_none-clause-ok
returns-then-is_none-clause-ok g c =
    let met = c.in_ok-next_encoding.ensures.ok in
    let none = none-of c.in_ok-next_encoding.field-0 c.if-is_none.ensures in
    reaches-end g.S.TokenSink c.args.tokenizer.now c.next_encoding.new.tokenizer c.args.input.now c.next_encoding.new.input
    (reaches-on g.S.TokenSink c.args.tokenizer.now c.loop.tokenizer c.next_encoding.new.tokenizer c.args.input.now c.loop.input
    c.next_encoding.new.input _ c.loop.invariant met.goes) (rw none at met.stands)

pub loop-preserved : goal.loop-preserved
loop-preserved g c = reaches-on g.S.TokenSink c.args.tokenizer.now c.loop.tokenizer c.next_encoding.new.tokenizer c.args.input.now
    c.loop.input c.next_encoding.new.input _ c.loop.invariant c.in_ok-next_encoding.ensures.ok.goes
