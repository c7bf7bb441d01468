use Rattle.std.proofs.Common.{ap, sym}
use Rattle.std.proofs.lemmas.Bool.{ltb-false}
use Rattle.markup.specs.Forest.{is_contents}
use Rattle.markup.proofs.Parents.{data_of-past}
use Rattle.html_forest_tests.proofs.conditions.is_contents_node.Goals as goal

pub returns-in-None : goal.returns-in-None
returns-in-None c = ap is_contents (sym (data_of-past c.args.forest.now c.args.id (ltb-false _ _ (sym c.in-None.ensures.there))))
