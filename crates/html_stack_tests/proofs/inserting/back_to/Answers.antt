use Rattle.html_rules.specs.State.{is_in}
use Rattle.html_rules_laws.proofs.TreePreserved.Standing.{fewer-Standing, part-from}
use Rattle.html_stack_tests.proofs.inserting.back_to.Goals as goal

pub returns : goal.returns
returns c = rw c.pop_until_current.ensures
    (fewer-Standing c.args._forest.now c.args.stack.now.active_formatting c.args.stack.now.open_elems _
    (part-from (is_in c.args.set) c.args.stack.now.open_elems) c.requires)
