use Rattle.std.proofs.Common.{◌∙◌, ◌++◌, ap, sym}
use Rattle.figpliers_program.specs.Checking.{path, slashed}
use Rattle.figpliers_program.proofs.Paths.{path-last}
use Rattle.figpliers_program.proofs.checking.path_of.Goals as goal

pub returns : goal.returns
returns c =
    let f = c.args.forest.now in
    let left = c.pop.new.self.items in
    c.in_ok-push_slashed.ensures ∙ (ap (λ text. text ++ slashed f left) (c.in_ok-path.ensures.ok ∙ c.local_of.ensures)
    ∙ (sym (path-last f left c.in-Some.outermost) ∙ ap (path f) (sym c.in-Some.ensures.items)))
