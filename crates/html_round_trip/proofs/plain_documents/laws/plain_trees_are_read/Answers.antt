use Rattle.html_round_trip.proofs.ReadBack.Trees.{law}
use Rattle.html_round_trip.proofs.plain_documents.laws.plain_trees_are_read.Goals as goal

pub returns : goal.returns
returns c rows reads sc o head trees place after_text plain = law rows reads sc o head trees place after_text plain
