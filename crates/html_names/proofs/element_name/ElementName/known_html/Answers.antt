use Rattle.std.proofs.Common.{rules}
use Rattle.html_names.proofs.element_name.ElementName.known_html.Goals as goal

pub returns-in-Html-Known-clause-found : goal.returns-in-Html-Known-clause-found
returns-in-Html-Known-clause-found c = search rules

pub returns-in-Html-Known-clause-missing : goal.returns-in-Html-Known-clause-missing
returns-in-Html-Known-clause-missing c = search rules

pub returns-in_default-clause-found : goal.returns-in_default-clause-found
returns-in_default-clause-found c = search rules

pub returns-in_default-clause-missing : goal.returns-in_default-clause-missing
returns-in_default-clause-missing c = search rules

pub returns-in_default-2 : goal.returns-in_default-2
returns-in_default-2 c = search rules
