use Rattle.html_markdown.proofs.Fencing.{longer}
use Rattle.html_markdown.proofs.laws.fences_are_longer.Goals as goal

pub returns : goal.returns
returns c before after count = longer before after count
