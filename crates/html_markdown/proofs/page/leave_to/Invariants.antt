use Rattle.std.proofs.Common.{vec_len}
use Rattle.html_markdown.proofs.page.leave_to.Given as goal

abbrev pub decreases-loop-frame : goal.decreases-loop-frame
decreases-loop-frame l = vec_len l.frames
