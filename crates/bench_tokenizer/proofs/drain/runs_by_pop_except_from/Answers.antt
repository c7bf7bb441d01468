use Rattle.std.proofs.Common.{◌∙◌, sym}
use Rattle.bench_tokenizer.proofs.Runs.{count-one, count-ends, pop-counts, none-left, pop-whole}
use Rattle.bench_tokenizer.proofs.drain.runs_by_pop_except_from.Goals as goal

pub loop-count-preserved : goal.loop-count-preserved
loop-count-preserved c =
    let pop = c.in_ok-pop_except_from.ensures.ok in
    let one = pop-counts _ _ _ _ pop (sym c.is_some.ensures ∙ c.if-is_some.true) in
    (pop-whole _ _ _ _ pop ∙ c.loop-count.invariant.0, count-one _ _ _ _ _ c.loop-count.invariant.1 one c.saturating_add-count.ensures)

pub returns-clause-number : goal.returns-clause-number
returns-clause-number c =
    let none = none-left _ _ _ _ c.in_ok-pop_except_from.ensures.ok (sym c.is_some.ensures ∙ c.if-is_some.false) in
    count-ends _ _ _ c.loop-count.invariant.1 none
