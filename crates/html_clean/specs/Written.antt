-- What is written of what is left of trees.
use Rattle.std.specs.Prelude.{◌≡◌, true, List, [], Result, IfOk, encode_utf8_all}
use Rattle.markup.specs.Trees.{Trees}
use Rattle.markup.specs.declared.serializer.SerializeFault.{SerializeFault}
use Rattle.html_clean.specs.Pieces.{Piece, written_pieces}
use Rattle.html_serialize.specs.Puts.{WriterView}
use Rattle.html_serialize.specs.Serializing.{Writes}
use Rattle.html_clean.specs.Cleaned.{are_kept_pieces, cleaned, is_balanced, pieces_of}
use Rattle.html_clean.specs.Counts.{counts_of}
use Rattle.html_clean.specs.declared.counts.Cleaned.{Cleaned}
use Rattle.html_clean.specs.declared.policy.Policy.{Policy}

-- These tags and texts are what is left of the trees. The policy keeps each, and they are balanced.
pub record IsLeft (policy : Policy) (trees : Trees) (pieces : List Piece) : Type 0 where
  pub are : pieces ≡ pieces_of (cleaned policy trees)
  pub kept : are_kept_pieces policy pieces ≡ true
  pub balanced : is_balanced pieces [] ≡ true

-- They were written, and what was taken away is counted; or a beginning of them, and then a write failed or memory was wanted.
pub record WritesClean (policy : Policy) (trees : Trees) (old : WriterView) (result : Result Cleaned SerializeFault)
    (new : WriterView) : Type 0 where
  pub pieces : List Piece
  pub left : IsLeft policy trees pieces
  pub writes : Writes (encode_utf8_all (written_pieces pieces)) old result new
  pub counts : IfOk result (λ counts. counts ≡ counts_of policy trees)
