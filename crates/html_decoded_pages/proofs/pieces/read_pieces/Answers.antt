use Rattle.std.proofs.Common.{◌∙◌, refl}
use Rattle.std.proofs.lemmas.Result.{err_from_is_err_and}
use Rattle.std.specs.Str.{chars}
use Rattle.html_decoded_pages.proofs.Reading.{chars-none, chars-split, memory-fails, on-fault}
use Rattle.html_decoded_pages.proofs.Reading.{reached-all, reached-fault, reached-more, reached-none}
use Rattle.html_decoded_pages.proofs.pieces.read_pieces.Goals as goal

pub loop-piece-init : goal.loop-piece-init
loop-piece-init g c = record {
  reached = reached-none g.S.TokenSink c.args.tokenizer.now (chars c.args.pieces.now.rest.now) c.requires.free;
  taken = c.requires.taken;
  text = refl;
}

pub loop-piece-preserved : goal.loop-piece-preserved
loop-piece-preserved g c = record {
  reached = rw c.note.ensures.rest (reached-more g.S.TokenSink c.args.tokenizer.now c.loop-piece.tokenizer c.read_on.new.tokenizer
      (chars c.args.pieces.now.rest.now) (chars c.loop-piece.pieces.rest.now) (chars c.in-Some.piece.now) (chars
      c.next_piece.new.self.rest.now)
      c.loop-piece.invariant.reached
      (chars-split c.loop-piece.pieces.rest.now c.in-Some.piece.now c.next_piece.new.self.rest.now c.in-Some.ensures.piece.0
      c.in-Some.ensures.piece.2)
      (rw c.in_ok-input.ensures.ok at c.in_ok-read_on.ensures.ok));
  taken = c.note.ensures.taken;
  text = c.note.ensures.text ∙ (c.next_piece.ensures.text ∙ c.loop-piece.invariant.text);
}

pub loop-piece-preserved-in_ok-note : goal.loop-piece-preserved-in_ok-note
loop-piece-preserved-in_ok-note g c = record {
  reached = rw c.note.ensures.rest (reached-more g.S.TokenSink c.args.tokenizer.now c.loop-piece.tokenizer c.read_on.new.tokenizer
      (chars c.args.pieces.now.rest.now) (chars c.loop-piece.pieces.rest.now) (chars c.in-Some.piece.now) (chars
      c.next_piece.new.self.rest.now)
      c.loop-piece.invariant.reached
      (chars-split c.loop-piece.pieces.rest.now c.in-Some.piece.now c.next_piece.new.self.rest.now c.in-Some.ensures.piece.0
      c.in-Some.ensures.piece.2)
      (rw c.in_ok-input.ensures.ok at c.in_ok-read_on.ensures.ok));
  taken = c.note.ensures.taken;
  text = c.note.ensures.text ∙ (c.next_piece.ensures.text ∙ c.loop-piece.invariant.text);
}

pub returns-in_err-input-clause-err : goal.returns-in_err-input-clause-err
returns-in_err-input-clause-err g c =
    let p = err_from_is_err_and c.from_residual.result c.from_residual.ensures.1 in
    rw (p.1, p.2) (on-fault g.S.TokenSink c.args.tokenizer.now _ c.in_err-input.ensures.fault)

pub returns-in_err-read_on-clause-err : goal.returns-in_err-read_on-clause-err
returns-in_err-read_on-clause-err g c =
    let p = err_from_is_err_and c.from_residual-in_err-read_on.result c.from_residual-in_err-read_on.ensures.1 in
    rw (p.1, p.2) (reached-fault g.S.TokenSink c.args.tokenizer.now c.loop-piece.tokenizer _ _ _ c.loop-piece.invariant.reached
    c.in_err-read_on.ensures.err)

pub returns-in_err-note-clause-err : goal.returns-in_err-note-clause-err
returns-in_err-note-clause-err g c =
    let p = err_from_is_err_and c.from_residual-in_err-note.result c.from_residual-in_err-note.ensures.1 in
    rw (p.1, p.2) (memory-fails g.S.TokenSink c.args.tokenizer.now)

pub returns-clause-ok : goal.returns-clause-ok
returns-clause-ok g c = reached-all g.S.TokenSink c.args.tokenizer.now c.loop-piece.tokenizer (chars c.args.pieces.now.rest.now) _
    c.loop-piece.invariant.reached (chars-none c.loop-piece.pieces.rest.now c.in_default.ensures.piece.0)
