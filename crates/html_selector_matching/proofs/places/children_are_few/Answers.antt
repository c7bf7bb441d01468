use Rattle.std.proofs.Common.{arith}
use Rattle.html_selector_matching.proofs.Lines.{children-few}
use Rattle.html_selector_matching.proofs.places.children_are_few.Goals as goal

pub returns : goal.returns
returns c =
    let few = children-few c.args.forest.now c.keeps.ensures.is_forest c.args.parent in
    let count = c.keeps.ensures.count in
    omega (arith, few, count)
