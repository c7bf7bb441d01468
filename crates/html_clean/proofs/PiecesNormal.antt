-- Written pieces have no carriage return.
use Rattle.std.proofs.Common.{◌≡◌, ℕ, Bool, true, ◌&&◌, List, [], ◌∷◌, ◌++◌, refl}
use Rattle.std.specs.Prelude.{not, nat_eq}
use Rattle.std.proofs.lemmas.Bool.{and_parts}
use Rattle.html_tokens.specs.Laws.{has_no_null}
use Rattle.html_round_trip.specs.Slices.Forms.{has_no_return, is_no_text, is_tag_name}
use Rattle.html_round_trip.proofs.Slices.Returns.{end-no_return, start-no_return, text-no_return}
use Rattle.html_clean.specs.PieceLaws.{ArePiecesNormal}
use Rattle.html_clean.specs.Pieces.{End, Piece, Start, Text, are_read_pieces, is_read_piece, written_piece, written_pieces}
use Rattle.html_clean.proofs.PiecesRead.{start-parts}

joined : (a b : List ℕ) → has_no_return a ≡ true → has_no_return b ≡ true → has_no_return (a ++ b) ≡ true
joined [] b h k = k
joined (c ∷ a) b h k = let p = and_parts (not (nat_eq c 13)) (has_no_return a) h in rw p.0 (joined a b p.1 k)

piece-normal : (named : List ℕ → Bool) (piece : Piece) → is_read_piece named piece ≡ true → has_no_return (written_piece piece) ≡ true
piece-normal named (Start name attributes) h = let p = start-parts named name attributes h in
    start-no_return name attributes p.tag p.read.each p.normal
piece-normal named (Text text) h = text-no_return text (and_parts (not (is_no_text text) && has_no_null text) (has_no_return text) h).1
piece-normal named (End name) h = end-no_return name (and_parts (is_tag_name name) (named name) h).0

pub pieces-normal : ArePiecesNormal
pieces-normal named [] h = refl
pieces-normal named (piece ∷ rest) h =
    let p = and_parts (is_read_piece named piece) (are_read_pieces named rest) h in
    joined (written_piece piece) (written_pieces rest) (piece-normal named piece p.0) (pieces-normal named rest p.1)
