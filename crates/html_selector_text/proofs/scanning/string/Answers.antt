use Rattle.std.proofs.Common.{◌∙◌, sym, arith}
use Rattle.html_selector_text.proofs.Steps.{string_goes}
use Rattle.html_selector_text.proofs.scanning.string.Goals as goal

pub loop-preserved : goal.loop-preserved
loop-preserved c = c.loop.invariant ∙ string_goes _ _ _ _ _ _ _ c.loop-test.true (sym c.is_empty.ensures ∙ c.if-is_empty.false)
    (grind arith) (grind arith) c.in_ok-rest.ensures.ok c.in_ok-rest.ensures.rest
