use Rattle.html_faithful_plain.proofs.Template.{templates-filled}
use Rattle.html_faithful_plain.proofs.laws.templates_are_filled.Goals as goal

pub returns : goal.returns
returns c = templates-filled
