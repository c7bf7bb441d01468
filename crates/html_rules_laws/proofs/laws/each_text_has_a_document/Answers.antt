use Rattle.html_rules_laws.proofs.Progress.Texts.{each-text}
use Rattle.html_rules_laws.proofs.laws.each_text_has_a_document.Goals as goal

pub returns : goal.returns
returns c = each-text
