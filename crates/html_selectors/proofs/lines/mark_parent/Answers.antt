use Rattle.std.proofs.Common.{◌≡◌, ◌∙◌, Some, arith, sym}
use Rattle.markup.specs.Forest.{parent_of}
use Rattle.markup.proofs.Forests.{IsParent-from_child}
use Rattle.html_selectors.specs.Columns.{at}
use Rattle.html_selectors.proofs.Steps.{parent-marked, parent-none}
use Rattle.html_selectors.proofs.lines.mark_parent.Goals as goal

pub index_mut-requires : goal.index_mut-requires
index_mut-requires c =
    let f = c.args.forest.now in
    let up : parent_of f c.args.id ≡ Some c.in-Some.parent = sym c.parent.ensures ∙ c.in-Some.is in
    let there = (IsParent-from_child f c.args.id c.in-Some.parent c.keeps.ensures.is_forest up).there in
    omega (arith, there, c.requires, c.number.ensures)

pub returns-in-Some-clause-marked : goal.returns-in-Some-clause-marked
returns-in-Some-clause-marked c =
    let f = c.args.forest.now in
    let up : parent_of f c.args.id ≡ Some c.in-Some.parent = sym c.parent.ensures ∙ c.in-Some.is in
    let there = (IsParent-from_child f c.args.id c.in-Some.parent c.keeps.ensures.is_forest up).there in
    λ n. rw c.number.ensures (parent-marked f c.keeps.ensures.is_forest c.args.column.now.items c.args.id c.in-Some.parent up
    (omega (arith, there, c.requires)) n)

pub returns-in_default-clause-marked : goal.returns-in_default-clause-marked
returns-in_default-clause-marked c = λ n.
    parent-none c.args.forest.now c.keeps.ensures.is_forest c.args.id n (at c.args.column.now.items n) (sym c.parent.ensures ∙ c.in_default.is)
