use Rattle.markup.proofs.TextPieces.{put_text-append}
use Rattle.markup.proofs.tree_laws.texts_are_joined.Goals as goal

pub returns : goal.returns
returns c = put_text-append
