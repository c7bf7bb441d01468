use Rattle.std.proofs.Common.{rules}
use Rattle.html_stack.proofs.stack.Stack.report_cut_off_script.Goals as goal

pub returns-in-Some : goal.returns-in-Some
returns-in-Some g c = search rules
