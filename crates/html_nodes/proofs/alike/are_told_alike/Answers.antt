use Rattle.std.proofs.Common.{◌∙◌}
use Rattle.html_nodes.proofs.Keeping.{calls_by_value}
use Rattle.html_nodes.proofs.alike.are_told_alike.Goals as goal

pub returns-clause-ok : goal.returns-clause-ok
returns-clause-ok c = calls_by_value _ _ c.as_slice.result.now c.as_slice-2.result.now c.eq.result
    (c.as_slice.ensures.value ∙ c.in_ok-first.ensures.ok) (c.as_slice-2.ensures.value ∙ c.in_ok-second.ensures.ok) c.eq.ensures
