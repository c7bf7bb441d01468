use Rattle.html_rules_laws.proofs.Progress.Texts.{joint-states}
use Rattle.html_rules_laws.proofs.laws.text_mode_comes_with_raw_text.Goals as goal

pub returns : goal.returns
returns c = joint-states
