use Rattle.std.proofs.Common.{◌∙◌}
use Rattle.html_stack.proofs.ModesAsked.{html-with, html-without}
use Rattle.html_stack.proofs.resetting.mode_of_html.Goals as goal

pub returns-then-has_head : goal.returns-then-has_head
returns-then-has_head c s h = html-with s.head_elem (h ∙ c.if-has_head.true)

pub returns-else-has_head : goal.returns-else-has_head
returns-else-has_head c s h = html-without s.head_elem (h ∙ c.if-has_head.false)
