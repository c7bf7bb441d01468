use Rattle.std.proofs.Common.{◌∙◌, sym}
use Rattle.html_selector_text.proofs.Steps.{token_goes}
use Rattle.html_selector_text.proofs.scanning.tokens_before_end.Goals as goal

pub loop-preserved : goal.loop-preserved
loop-preserved c = c.loop.invariant ∙ token_goes _ _ _ _ _ _ _ c.loop-test.true (sym c.is_empty.ensures ∙ c.if-is_empty.false)
    c.in_ok-rest.ensures.ok c.in_ok-rest.ensures.rest
