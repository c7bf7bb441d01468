use Rattle.std.proofs.Common.{rules}
use Rattle.html_names.proofs.element_name.ElementName.is_html.Goals as goal

pub returns : goal.returns
returns c = search rules
