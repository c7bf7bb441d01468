use Rattle.html_selector_text.proofs.ReadBack.Strings.{string_read}
use Rattle.html_selector_text.proofs.laws.strings_are_read.Goals as goal

pub returns : goal.returns
returns c = string_read
