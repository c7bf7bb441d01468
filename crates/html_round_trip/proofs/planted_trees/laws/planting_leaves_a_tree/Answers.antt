use Rattle.html_round_trip.proofs.Planting.Planting.{planted-errors, planted-keeps}
use Rattle.html_round_trip.proofs.planted_trees.laws.planting_leaves_a_tree.Goals as goal

pub returns : goal.returns
returns c = record {
  tree = λ trees p f after_text tree at ok. (planted-keeps trees p f after_text tree at ok).tree;
  parents = λ trees p q f after_text tree at ok other. (planted-keeps trees p f after_text tree at ok).parents q other;
  errors = planted-errors;
}
