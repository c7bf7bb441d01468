use Rattle.std.proofs.Common.{◌∙◌, sym}
use Rattle.html_inner_text.specs.Items.{has_row}
use Rattle.html_inner_text.proofs.Following.{any-first, any-later, fewer, none-behind}
use Rattle.html_inner_text.proofs.siblings.row_is_behind.Goals as goal

pub returns-then-has_row : goal.returns-then-has_row
returns-then-has_row c =
    sym (any-first c.args.forest.now c.keeps.ensures.is_forest (has_row c.args.forest.now) c.loop-next.at c.in-Some.next
    (sym c.next_sibling.ensures ∙ c.in-Some.is) (sym c.has_row.ensures ∙ c.if-has_row.true))
    ∙ c.loop-next.invariant

pub loop-next-smaller : goal.loop-next-smaller
loop-next-smaller c =
    fewer c.args.forest.now c.keeps.ensures.is_forest c.loop-next.at c.in-Some.next (sym c.next_sibling.ensures ∙ c.in-Some.is)

pub loop-next-preserved : goal.loop-next-preserved
loop-next-preserved c =
    sym (any-later c.args.forest.now c.keeps.ensures.is_forest (has_row c.args.forest.now) c.loop-next.at c.in-Some.next
    (sym c.next_sibling.ensures ∙ c.in-Some.is) (sym c.has_row.ensures ∙ c.if-has_row.false))
    ∙ c.loop-next.invariant

pub returns : goal.returns
returns c =
    sym (none-behind c.args.forest.now (has_row c.args.forest.now) c.loop-next.at (sym c.next_sibling.ensures ∙ c.in_default.is))
    ∙ c.loop-next.invariant
