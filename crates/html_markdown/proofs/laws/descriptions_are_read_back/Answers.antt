use Rattle.html_markdown.proofs.Describing.{read-back}
use Rattle.html_markdown.proofs.laws.descriptions_are_read_back.Goals as goal

pub returns : goal.returns
returns c text = read-back text
