use Rattle.html_selector_text.proofs.ReadBack.Decimals.{decimal_read}
use Rattle.html_selector_text.proofs.laws.numbers_are_read.Goals as goal

pub returns : goal.returns
returns c = decimal_read
