use Rattle.html_plain.proofs.Agreement.{computed-cases, cases-computed}
use Rattle.html_plain.proofs.laws.grammar_is_computed.Goals as goal

pub returns : goal.returns
returns c place after_text trees = (computed-cases place after_text trees, cases-computed place after_text trees)
