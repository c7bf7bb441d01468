use Rattle.html_policy_text.proofs.PoliciesBack.{written-read}
use Rattle.html_policy_text.proofs.laws.written_policies_are_read.Goals as goal

pub returns : goal.returns
returns c = written-read
