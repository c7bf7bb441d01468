use Rattle.std.proofs.Common.{◌≡◌, length}
use Rattle.html_places.specs.Pieces.{IsTaken}
use Rattle.html_pages.proofs.Takings.{Goes}
use Rattle.html_pages.proofs.pieces.take_pieces.Given as goal

abbrev pub invariant-loop-piece : goal.invariant-loop-piece
invariant-loop-piece g l = record {
  goes : Goes g.Sink.TreeSink l.fn.parser l.parser l.fn.pieces.rest.now l.pieces.rest.now;
  taken : IsTaken l.pieces;
  text : l.pieces.text.now ≡ l.fn.pieces.text.now;
}

abbrev pub decreases-loop-piece : goal.decreases-loop-piece
decreases-loop-piece g l = length l.pieces.rest.now
