use Rattle.std.proofs.Common.{◌+◌, ◌*◌}
use Rattle.html_tree_builder.proofs.construction.Construction.+chain.Given as goal

abbrev pub decreases-go_on : goal.decreases-go_on
decreases-go_on g l = 3 * l.left + 1

abbrev pub decreases-apply_row : goal.decreases-apply_row
decreases-apply_row g l = 3 * l.left + 2

abbrev pub decreases-use_rules_for : goal.decreases-use_rules_for
decreases-use_rules_for g l = 3 * l.left
