use Rattle.markup.specs.Calls.{calls_of}
use Rattle.markup.specs.declared.serializer.TraversalScope.TheVariants.{IncludeNode}
use Rattle.html_forest.specs.Walk.{walked}
use Rattle.html_extracts.proofs.Listing.{walk-writes}
use Rattle.html_extracts.proofs.tree.write_walk.Goals as goal

pub returns-clause-writes : goal.returns-clause-writes
returns-clause-writes g c = walk-writes _ _ (calls_of (walked c.args.forest.now c.args.id IncludeNode))
    c.serialize.result c.clear.ensures.items c.serialize.ensures.walks
