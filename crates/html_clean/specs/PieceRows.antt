-- Worked rows.
use Rattle.std.specs.Prelude.{[], ◌∷◌, codes, false}
use Rattle.html_tokens.specs.RowForms.{Rows, AreRead, row_of, text, at, start, end, raw_text, data_stand, five}
use Rattle.html_clean.specs.Pieces.{Start, Text, End, written_pieces}

abbrev pub piece_rows : Rows
piece_rows =
    row_of (written_pieces (Start (codes "img") (at "alt" "\"><script>" ∷ []) ∷ [])) (start "img" (at "alt" "\"><script>" ∷ []) ∷ [])
    ∷ row_of (written_pieces (Start (codes "blockquote") [] ∷ Text (codes "<script>&lt;") ∷
    End (codes "blockquote") ∷ [])) (start "blockquote" [] ∷ text "<script>&lt;" ∷ end "blockquote" [] ∷ [])
    ∷ []

abbrev pub ArePieceRowsRead : Type 0
ArePieceRowsRead = AreRead five raw_text false data_stand piece_rows
