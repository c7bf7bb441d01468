use Rattle.std.proofs.Common.{◌≡◌, ℕ, List, [], ap, drop, Bor}
use Rattle.std.proofs.Math.ListN.{drop_of_length-le}
use Rattle.std.specs.Prelude.{flat_map}
use Rattle.html_encodings.proofs.Readings.{left_piece, left_whole, whole_text, pieces_left}
use Rattle.html_encodings.proofs.decoding.decode_pieces.Goals as goal

pub loop-piece-preserved : goal.loop-piece-preserved
loop-piece-preserved g c =
    let past_end : Bor (List ℕ) = record { ref_ptr = (0, 0); now = [] } in
    let next = pieces_left (λ piece. piece.now) c.args.pieces.now c.loop-piece.piece-index past_end c.loop-piece-test.true in
    left_piece _ _ _ _ _ _ _ _ _ _ (rw next at c.loop-piece.invariant) c.in_ok-feed.ensures.output c.in_ok-feed.ensures.state

pub returns : goal.returns
returns g c =
    let none : flat_map (λ piece. piece.now) (drop c.loop-piece.piece-index c.args.pieces.now) ≡ [] =
    ap (flat_map (λ piece. piece.now)) (drop_of_length-le c.args.pieces.now c.loop-piece-test.false) in
    let whole = left_whole _ g.H.Handler.end _ _ _ _ _ (rw none at c.loop-piece.invariant) c.in_ok-errors.ensures.ok in
    let both = whole_text _ _ _ whole in
    record { text = both.0; errors = both.1 }
