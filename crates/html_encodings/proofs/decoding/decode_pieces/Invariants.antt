use Rattle.std.proofs.Common.{drop}
use Rattle.std.specs.Prelude.{flat_map}
use Rattle.std.specs.String.{string_bytes}
use Rattle.html_encodings.proofs.Readings.{IsLeft, nothing}
use Rattle.html_encodings.proofs.decoding.decode_pieces.Given as goal

abbrev pub invariant-loop-piece : goal.invariant-loop-piece
invariant-loop-piece g l = IsLeft g.H.Handler.step l.fn.handler (flat_map (λ piece. piece.now) l.pieces) nothing
    l.decoder.handler (flat_map (λ piece. piece.now) (drop l.piece-index l.pieces))
    (record { text = string_bytes l.text; errors = l.decoder.errors })
