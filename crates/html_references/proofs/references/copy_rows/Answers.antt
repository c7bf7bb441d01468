use Rattle.std.proofs.Common.{◌∙◌, ap, sym, take, [], ◌∷◌, ◌++◌}
use Rattle.std.proofs.lemmas.List.{take_all, take_more}
use Rattle.html_references.proofs.references.copy_rows.Goals as goal

pub loop-row-preserved : goal.loop-row-preserved
loop-row-preserved c =
    c.in_ok-push.ensures.items ∙ ap (λ rs. rs ++ c.in_ok-copy.field-0 ∷ []) c.loop-row.invariant
    ∙ ap (λ r. take c.loop-row.row-index c.args.rows.now ++ r ∷ []) (c.in_ok-copy.ensures.ok ∙ c.row-item.is)
    ∙ sym (take_more c.args.rows.now c.loop-row.row-index c.row-item.result c.loop-row-test.true)

pub returns : goal.returns
returns c = record { ok = c.loop-row.invariant ∙ take_all c.loop-row.row-index c.args.rows.now c.loop-row-test.false; fault = tt }
