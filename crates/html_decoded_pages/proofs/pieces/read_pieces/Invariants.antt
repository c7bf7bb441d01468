use Rattle.std.proofs.Common.{◌≡◌, length}
use Rattle.std.specs.Str.{chars}
use Rattle.html_places.specs.Pieces.{IsTaken}
use Rattle.html_decoded_pages.proofs.Reading.{HasReached}
use Rattle.html_decoded_pages.proofs.pieces.read_pieces.Given as goal

abbrev pub invariant-loop-piece : goal.invariant-loop-piece
invariant-loop-piece g l = record {
  reached : HasReached g.S.TokenSink l.fn.tokenizer l.tokenizer (chars l.fn.pieces.rest.now) (chars l.pieces.rest.now);
  taken : IsTaken l.pieces;
  text : l.pieces.text.now ≡ l.fn.pieces.text.now;
}

abbrev pub decreases-loop-piece : goal.decreases-loop-piece
decreases-loop-piece g l = length l.pieces.rest.now
