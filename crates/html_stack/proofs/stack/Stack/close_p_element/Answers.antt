use Rattle.std.proofs.Common.{◌∙◌, refl}
use Rattle.html_rules.specs.Stack.{close_p_element, generate_implied_end_except}
use Rattle.html_stack.proofs.stack.Stack.close_p_element.Goals as goal

pub returns : goal.returns
unfolding close_p_element generate_implied_end_except
returns g c s = c.close_wanted.ensures s ∙ rw (c.close_implied.ensures.left, c.close_implied.ensures.same) refl
