use Rattle.html_rules_rows.proofs.ComputedTrace.{page_is_traced}
use Rattle.html_rules_rows.proofs.trace.traced_page.Goals as goal

pub returns : goal.returns
returns c = page_is_traced
