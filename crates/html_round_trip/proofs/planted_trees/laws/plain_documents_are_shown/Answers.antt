use Rattle.std.proofs.Common.{ap}
use Rattle.html_plain.specs.Laws.{text_of}
use Rattle.html_round_trip.proofs.Planting.PlainTrees.{document-walked, plain-judged}
use Rattle.html_round_trip.proofs.planted_trees.laws.plain_documents_are_shown.Goals as goal

pub returns : goal.returns
returns c = record {
  walked = document-walked;
  written = λ trees plain scripting. ap (text_of scripting) (document-walked trees plain);
  judged = plain-judged;
}
