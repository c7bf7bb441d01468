use Rattle.html_selector_text.proofs.ReadBack.Identifiers.{identifier_read}
use Rattle.html_selector_text.proofs.laws.identifiers_are_read.Goals as goal

pub returns : goal.returns
returns c = identifier_read
