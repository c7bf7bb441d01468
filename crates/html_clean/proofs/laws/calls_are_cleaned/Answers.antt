use Rattle.html_clean.proofs.Calls.{all-filtered}
use Rattle.html_clean.proofs.laws.calls_are_cleaned.Goals as goal

pub returns : goal.returns
returns c = all-filtered
