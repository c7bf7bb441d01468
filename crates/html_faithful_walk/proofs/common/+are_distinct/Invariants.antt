use Rattle.std.proofs.Common.{length}
use Rattle.html_faithful_walk.proofs.common.+are_distinct.Given as goal

abbrev pub decreases-are_distinct : goal.decreases-are_distinct
decreases-are_distinct l = length l.attributes.now
