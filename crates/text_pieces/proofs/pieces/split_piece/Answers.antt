use Rattle.std.proofs.Common.{sym}
use Rattle.std.specs.Str.{chars}
use Rattle.std.proofs.lemmas.List.{append-nil}
use Rattle.std.proofs.lemmas.Str.{IsUtf8-take, chars-nil}
use Rattle.text_pieces.proofs.Cuts.{chars-cut}
use Rattle.text_pieces.proofs.pieces.split_piece.Goals as goal

pub returns-then-end-eq0-clause-whole : goal.returns-then-end-eq0-clause-whole
returns-then-end-eq0-clause-whole c = rw chars-nil (sym (append-nil (chars c.args.text.now)))

pub returns-clause-whole : goal.returns-clause-whole
returns-clause-whole c =
    let end = c.floor_char_boundary-end in
    rw (c.split_at.ensures.front, c.split_at.ensures.back)
    (chars-cut c.args.text.now end.result (IsUtf8-take _ _ c.utf8.text end.ensures.boundary))
