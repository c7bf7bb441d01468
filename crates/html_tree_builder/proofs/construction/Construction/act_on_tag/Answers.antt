use Rattle.std.proofs.Common.{refl}
use Rattle.html_tree_builder.proofs.construction.Construction.act_on_tag.Goals as goal

pub loop-rest-init : goal.loop-rest-init
loop-rest-init g c = record { tag = refl; stands = c.requires.stands; may = c.requires.may; same = refl }
