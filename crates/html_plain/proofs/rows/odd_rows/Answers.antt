use Rattle.std.proofs.Common.{refl}
use Rattle.markup.specs.Names.{html_namespace}
use Rattle.markup.specs.Namespaces.{name_of}
use Rattle.html_plain.specs.Elements.{local_element}
use Rattle.html_plain.specs.Grammar.{is_plain}
use Rattle.html_plain.proofs.rows.odd_rows.Goals as goal

pub returns : goal.returns
unfolding is_plain local_element html_namespace name_of
returns c = (refl, refl)
