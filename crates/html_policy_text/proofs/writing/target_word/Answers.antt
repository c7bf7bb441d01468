use Rattle.std.proofs.Common.{ap, sym}
use Rattle.std.specs.Str.{chars}
use Rattle.html_policy_text.specs.Written.{target_word}
use Rattle.html_policy_text.proofs.writing.target_word.Goals as goal

pub returns-in-None : goal.returns-in-None
unfolding chars
returns-in-None c = sym (ap target_word c.in-None.is)
