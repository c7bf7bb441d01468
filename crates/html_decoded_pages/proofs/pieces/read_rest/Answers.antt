use Rattle.std.proofs.lemmas.Result.{err_from_is_err_and}
use Rattle.std.specs.Str.{chars}
use Rattle.html_decoded_pages.proofs.Reading.{memory-fails, rest-failed, rest-read}
use Rattle.html_decoded_pages.proofs.pieces.read_rest.Goals as goal

pub returns-in_err-note-clause-err : goal.returns-in_err-note-clause-err
returns-in_err-note-clause-err g c =
    let p = err_from_is_err_and c.from_residual-in_err-note.result c.from_residual-in_err-note.ensures.1 in
    rw (p.1, p.2) (memory-fails g.S.TokenSink c.args.tokenizer.now)

pub returns-clause-ok : goal.returns-clause-ok
returns-clause-ok g c = rest-read g.S.TokenSink c.args.tokenizer.now c.read_on.new.tokenizer c.read_pieces.new.tokenizer
    c.args.input.now.characters c.in_ok-read_on.ensures.ok (chars c.args.pieces.now.rest.now) c.read_pieces.result
    (rw c.note.ensures.rest at c.read_pieces.ensures.ok)

pub returns-clause-err : goal.returns-clause-err
returns-clause-err g c = rest-failed g.S.TokenSink c.args.tokenizer.now c.read_on.new.tokenizer c.read_pieces.new.tokenizer
    c.args.input.now.characters c.in_ok-read_on.ensures.ok c.read_pieces.result c.read_pieces.ensures.err
