use Rattle.std.proofs.Common.{rules}
use Rattle.markup.specs.Names.{html_namespace}
use Rattle.markup.specs.Namespaces.{name_of}
use Rattle.markup.proofs.html_names.is_html_name.Goals as goal

pub returns-then-is_known : goal.returns-then-is_known
unfolding html_namespace name_of
returns-then-is_known c = search rules

pub returns-else-is_known : goal.returns-else-is_known
unfolding html_namespace name_of
returns-else-is_known c = search rules
