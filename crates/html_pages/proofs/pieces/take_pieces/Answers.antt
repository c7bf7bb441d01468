use Rattle.std.proofs.Common.{◌∙◌, IsUtf8, [], refl, rules}
use Rattle.std.proofs.lemmas.Result.{err_from_is_err_and}
use Rattle.html_pages.proofs.Takings.{goes-failed, goes-first, goes-on, goes-whole, memory-fails}
use Rattle.html_pages.proofs.pieces.take_pieces.Goals as goal

pub loop-piece-init : goal.loop-piece-init
loop-piece-init g c =
    let empty : IsUtf8 [] = search rules in
    record {
      goes = goes-first g.Sink.TreeSink c.args.parser.now c.args.pieces.now.rest.now empty c.requires.free;
      taken = c.requires.taken;
      text = refl;
    }

pub loop-piece-preserved : goal.loop-piece-preserved
loop-piece-preserved g c = record {
  goes = rw c.note.ensures.rest (goes-on g.Sink.TreeSink c.args.parser.now c.loop-piece.parser c.take_piece.new.parser
      c.args.pieces.now.rest.now c.in-Some.piece.now c.loop-piece.pieces.rest.now c.next_piece.new.self.rest.now
      c.loop-piece.invariant.goes c.in-Some.ensures.piece.0 c.in-Some.ensures.piece.2 c.in_ok-take_piece.ensures.ok
      c.in_ok-take_piece.ensures.free);
  taken = c.note.ensures.taken;
  text = c.note.ensures.text ∙ (c.next_piece.ensures.text ∙ c.loop-piece.invariant.text);
}

pub returns-in_err-take_piece-clause-err : goal.returns-in_err-take_piece-clause-err
returns-in_err-take_piece-clause-err g c =
    let p = err_from_is_err_and c.from_residual.result c.from_residual.ensures.1 in
    rw (p.1, p.2) (goes-failed g.Sink.TreeSink c.args.parser.now c.loop-piece.parser _ _ _ c.loop-piece.invariant.goes
    c.in_err-take_piece.ensures.err)

pub returns-in_err-note-clause-err : goal.returns-in_err-note-clause-err
returns-in_err-note-clause-err g c =
    let p = err_from_is_err_and c.from_residual-in_err-note.result c.from_residual-in_err-note.ensures.1 in
    rw (p.1, p.2) (memory-fails g.Sink.TreeSink c.args.parser.now)

pub returns-clause-ok : goal.returns-clause-ok
returns-clause-ok g c = goes-whole g.Sink.TreeSink c.args.parser.now c.loop-piece.parser _ _ c.loop-piece.invariant.goes
    c.in_default.ensures.piece.0
