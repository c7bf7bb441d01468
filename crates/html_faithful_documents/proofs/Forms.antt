-- All written forms are read as their tokens.
use Rattle.std.proofs.Common.{refl}
use Rattle.std.specs.Prelude.{codes}
use Rattle.html_faithful_documents.specs.Forms.{AreAllFormsTold}
use Rattle.html_faithful_documents.specs.Slices.{Last}
use Rattle.html_faithful_documents.proofs.Comments.{comment-told}
use Rattle.html_faithful_documents.proofs.StartTags.{end-told, fitting_end-told, start-told}

pub forms-told : AreAllFormsTold
forms-told rows reads = record {
  doctype = λ last asked t. Last 60 (codes "!DOCTYPE html>") (record { gives = refl; takes = refl; leaves = refl });
  start = start-told rows reads;
  end = end-told rows;
  fitting_end = fitting_end-told rows;
  comment = comment-told rows;
}
