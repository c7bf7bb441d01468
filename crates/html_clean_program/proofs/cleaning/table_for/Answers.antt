use Rattle.html_normal_program.specs.Program.{named}
use Rattle.html_clean_program.proofs.Requests.{no-table}
use Rattle.html_clean_program.proofs.cleaning.table_for.Goals as goal

pub returns-in-Err-clause-err : goal.returns-in-Err-clause-err
returns-in-Err-clause-err g c =
    rw c.table_fault.ensures
    (no-table (g.Opens.Opener.files c.args.opener.now) (named c.args.name) c.in-Err.fault c.in-Err.ensures.err)
