use Rattle.std.proofs.Common.{Some, ap}
use Rattle.html_ffi.proofs.Making.{table-failed, table-made}
use Rattle.html_ffi.proofs.table.table_of.Goals as goal

pub returns-in-Ok-clause-ok : goal.returns-in-Ok-clause-ok
returns-in-Ok-clause-ok c = table-made _ _ _ (c.in-Ok.ensures.ok c.args.file.now (ap Some c.new.ensures))

pub returns-in-Err-clause-err : goal.returns-in-Err-clause-err
returns-in-Err-clause-err c page = table-failed c.args.file.now page _ _ c.in-Err.fault c.from.result c.new.ensures
    c.from.ensures c.in-Err.ensures.err
