use Rattle.std.proofs.Common.{ap, sym}
use Rattle.std.proofs.lemmas.Result.{err_from_is_err_and}
use Rattle.std.specs.Str.{chars}
use Rattle.html_pages.proofs.Takings.{memory-fails, piece-failed, piece-free, piece-read}
use Rattle.html_pages.proofs.pieces.take_piece.Goals as goal

pub returns-in_err-text-clause-err : goal.returns-in_err-text-clause-err
returns-in_err-text-clause-err g c =
    let p = err_from_is_err_and c.from_residual.result c.from_residual.ensures.1 in
    rw (p.1, p.2) (memory-fails g.Sink.TreeSink c.args.parser.now)

pub returns-clause-ok : goal.returns-clause-ok
returns-clause-ok g c = rw (sym (ap chars c.in_ok-text.ensures.ok)) (piece-read g.Sink.TreeSink c.args.parser.now c.process.new.self _
    c.process.result c.requires.free
    c.process.ensures.gives)

pub returns-clause-free : goal.returns-clause-free
returns-clause-free g c = piece-free g.Sink.TreeSink c.args.parser.now c.process.new.self _ c.process.result c.requires.free
    c.process.ensures.gives c.process.ensures.ready

pub returns-clause-err : goal.returns-clause-err
returns-clause-err g c = piece-failed g.Sink.TreeSink c.args.parser.now c.process.new.self _ c.process.result c.requires.free
    c.process.ensures.gives
