use Rattle.std.proofs.Common.{refl}
use Rattle.markup.specs.Names.{html_namespace}
use Rattle.markup.specs.Namespaces.{known_namespace, name_of}
use Rattle.html_rules.specs.ForeignContent.{is_foreign}
use Rattle.html_rules.specs.Rules.{rows}
use Rattle.html_rules.specs.Sets.{names_of}
use Rattle.html_faithful.specs.Harmless.{by_rows, made_of}
use Rattle.html_faithful_plain.specs.Template.{checked}
use Rattle.html_faithful_plain.proofs.rows.templates_are_checked.Goals as goal

pub returns : goal.returns
unfolding html_namespace known_namespace name_of is_foreign rows names_of by_rows made_of checked
returns c = (refl, refl)
