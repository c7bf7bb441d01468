use Rattle.std.proofs.Common.{◌∙◌, sym}
use Rattle.html_inner_text.specs.Items.{cell_follows, is_cell}
use Rattle.html_inner_text.proofs.Following.{any-first, any-later, fewer, none-behind}
use Rattle.html_inner_text.proofs.siblings.cell_follows.Goals as goal

pub returns-then-is_cell : goal.returns-then-is_cell
unfolding cell_follows
returns-then-is_cell c =
    sym (any-first c.args.forest.now c.keeps.ensures.is_forest (is_cell c.args.forest.now) c.loop-next.at c.in-Some.next
    (sym c.next_sibling.ensures ∙ c.in-Some.is) (sym c.is_cell.ensures ∙ c.if-is_cell.true))
    ∙ c.loop-next.invariant

pub loop-next-smaller : goal.loop-next-smaller
loop-next-smaller c =
    fewer c.args.forest.now c.keeps.ensures.is_forest c.loop-next.at c.in-Some.next (sym c.next_sibling.ensures ∙ c.in-Some.is)

pub loop-next-preserved : goal.loop-next-preserved
loop-next-preserved c =
    sym (any-later c.args.forest.now c.keeps.ensures.is_forest (is_cell c.args.forest.now) c.loop-next.at c.in-Some.next
    (sym c.next_sibling.ensures ∙ c.in-Some.is) (sym c.is_cell.ensures ∙ c.if-is_cell.false))
    ∙ c.loop-next.invariant

pub returns : goal.returns
unfolding cell_follows
returns c =
    sym (none-behind c.args.forest.now (is_cell c.args.forest.now) c.loop-next.at (sym c.next_sibling.ensures ∙ c.in_default.is))
    ∙ c.loop-next.invariant
