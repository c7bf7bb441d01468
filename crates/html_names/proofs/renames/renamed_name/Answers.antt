use Rattle.std.proofs.Common.{sym}
use Rattle.html_names.proofs.Renamed.{table-unknown}
use Rattle.html_names.proofs.renames.renamed_name.Goals as goal

pub returns-in-None-clause-ok : goal.returns-in-None-clause-ok
returns-in-None-clause-ok c = sym (table-unknown c.args.renames c.args.name c.in-None.ensures.missing)
