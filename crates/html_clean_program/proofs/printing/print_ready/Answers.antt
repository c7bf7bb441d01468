use Rattle.std.proofs.Common.{ap, false, true}
use Rattle.std.specs.Prelude.{is_err}
use Rattle.html_clean_program.specs.Printing.{ready_bytes}
use Rattle.html_clean_program.proofs.Printed.{bytes-are, put-so}
use Rattle.html_clean_program.proofs.printing.print_ready.Goals as goal

pub returns-in-Ok : goal.returns-in-Ok
returns-in-Ok g c =
    put-so c.put.result false c.as_str.result.now (ready_bytes c.args.ready) _ _ (ap is_err c.in-Ok.is)
    (bytes-are c.args.ready c.as_str.result.now c.in_ok-text.text c.as_str.utf8 c.as_str.ensures c.in_ok-text.ensures.ok) c.put.ensures.put

pub returns : goal.returns
returns g c =
    put-so c.put.result true c.as_str.result.now (ready_bytes c.args.ready) _ _ (ap is_err c.in-Err.is)
    (bytes-are c.args.ready c.as_str.result.now c.in_ok-text.text c.as_str.utf8 c.as_str.ensures c.in_ok-text.ensures.ok) c.put.ensures.put
