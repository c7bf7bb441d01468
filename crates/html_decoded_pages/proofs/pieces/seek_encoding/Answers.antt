use Rattle.std.proofs.Common.{◌∙◌, refl}
use Rattle.std.proofs.lemmas.Result.{err_from_is_err_and}
use Rattle.std.specs.Str.{chars}
use Rattle.html_decoded_pages.proofs.Going.{meets-end, meets-within, seeks-fault, seeks-first, seeks-past}
use Rattle.html_decoded_pages.proofs.Reading.{chars-none, chars-split, memory-fails, on-fault}
use Rattle.html_decoded_pages.proofs.pieces.seek_encoding.Goals as goal

pub loop-piece-init : goal.loop-piece-init
loop-piece-init g c = record {
  seeks = seeks-first g.S.TokenSink c.args.tokenizer.now (chars c.args.pieces.now.rest.now) c.requires.free;
  empty = c.requires.empty;
  taken = c.requires.taken;
  text = refl;
}

pub returns-in_err-input-clause-err : goal.returns-in_err-input-clause-err
returns-in_err-input-clause-err g c =
    let p = err_from_is_err_and c.from_residual.result c.from_residual.ensures.1 in
    rw (p.1, p.2) (on-fault g.S.TokenSink c.args.tokenizer.now _ c.in_err-input.ensures.fault)

pub returns-in_err-encoding-clause-err : goal.returns-in_err-encoding-clause-err
returns-in_err-encoding-clause-err g c =
    let p = err_from_is_err_and c.from_residual-in_err-encoding.result c.from_residual-in_err-encoding.ensures.1 in
    rw (p.1, p.2) (seeks-fault g.S.TokenSink c.args.tokenizer.now c.loop-piece.tokenizer _ _ _ c.loop-piece.invariant.seeks
    c.in_err-encoding.ensures.err)

pub returns-in_err-note-clause-err : goal.returns-in_err-note-clause-err
returns-in_err-note-clause-err g c =
    let p = err_from_is_err_and c.from_residual-in_err-note.result c.from_residual-in_err-note.ensures.1 in
    rw (p.1, p.2) (memory-fails g.S.TokenSink c.args.tokenizer.now)

pub loop-piece-preserved : goal.loop-piece-preserved
loop-piece-preserved g c =
    let met = rw (c.in_ok-input.ensures.ok, c.in_default-2.is) at c.in_ok-encoding.ensures.ok in
    record {
      seeks = rw c.note.ensures.rest (seeks-past g.S.TokenSink c.args.tokenizer.now c.loop-piece.tokenizer c.next_encoding.new.tokenizer
          (chars c.args.pieces.now.rest.now) (chars c.loop-piece.pieces.rest.now) (chars c.in-Some.piece.now)
          (chars c.next_piece.new.self.rest.now) c.next_encoding.new.input.characters c.loop-piece.invariant.seeks
          (chars-split c.loop-piece.pieces.rest.now c.in-Some.piece.now c.next_piece.new.self.rest.now c.in-Some.ensures.piece.0
          c.in-Some.ensures.piece.2) met);
      empty = met.stands;
      taken = c.note.ensures.taken;
      text = c.note.ensures.text ∙ (c.next_piece.ensures.text ∙ c.loop-piece.invariant.text);
    }

pub returns-in-Some-2-clause-ok : goal.returns-in-Some-2-clause-ok
returns-in-Some-2-clause-ok g c =
    let met = rw (c.in_ok-input.ensures.ok, c.in-Some-2.is) at c.in_ok-encoding.ensures.ok in
    meets-within g.S.TokenSink c.args.tokenizer.now c.loop-piece.tokenizer c.next_encoding.new.tokenizer
    (chars c.args.pieces.now.rest.now) (chars c.loop-piece.pieces.rest.now) (chars c.in-Some.piece.now)
    (chars c.next_piece.new.self.rest.now) c.next_encoding.new.input.characters c.in-Some-2.encoding c.loop-piece.invariant.seeks
    (chars-split c.loop-piece.pieces.rest.now c.in-Some.piece.now c.next_piece.new.self.rest.now c.in-Some.ensures.piece.0
    c.in-Some.ensures.piece.2) met

pub returns-clause-ok : goal.returns-clause-ok
returns-clause-ok g c = meets-end g.S.TokenSink c.args.tokenizer.now c.loop-piece.tokenizer (chars c.args.pieces.now.rest.now)
    c.loop-piece.input.characters (chars c.next_piece.new.self.rest.now)
    (rw (c.in_default.ensures.piece.0, ← c.in_default.ensures.piece.1) at c.loop-piece.invariant.seeks)
    (chars-none c.next_piece.new.self.rest.now c.in_default.ensures.piece.1) c.loop-piece.invariant.empty
