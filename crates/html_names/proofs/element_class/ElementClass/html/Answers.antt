use Rattle.std.proofs.Common.{refl}
use Rattle.html_rules.specs.Names.{Html}
use Rattle.html_names.proofs.element_class.ElementClass.html.Goals as goal

pub returns : goal.returns
returns c = c.of.ensures Html refl
