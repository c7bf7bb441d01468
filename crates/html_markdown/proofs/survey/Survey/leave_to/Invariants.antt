use Rattle.std.proofs.Common.{vec_len}
use Rattle.html_markdown.proofs.survey.Survey.leave_to.Given as goal

abbrev pub decreases-loop-open : goal.decreases-loop-open
decreases-loop-open l = vec_len l.opens
