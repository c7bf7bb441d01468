use Rattle.std.proofs.Common.{sym}
use Rattle.html_plain.proofs.Names.{unknown}
use Rattle.html_plain.proofs.elements.local_element.Goals as goal

pub returns-in-None : goal.returns-in-None
returns-in-None c = sym (unknown c.args.name.now c.in-None.ensures.missing)
