use Rattle.std.proofs.lemmas.Result.{err_from_is_err_and}
use Rattle.html_clean.specs.Checks.{never_kept}
use Rattle.html_ffi.proofs.Policies.{fails-to-clean}
use Rattle.html_ffi.proofs.clean.document_kept_by.Goals as goal

pub returns-in_err-policy-clause-err : goal.returns-in_err-policy-clause-err
returns-in_err-policy-clause-err c =
    let p = err_from_is_err_and c.from_residual.result c.from_residual.ensures.1 in
    rw (p.1, p.2) (c.in_err-policy.ensures.err c.args.file.now c.args.page.now)

pub returns-in_err-table-clause-err : goal.returns-in_err-table-clause-err
returns-in_err-table-clause-err c =
    let p = err_from_is_err_and c.from_residual-in_err-table.result c.from_residual-in_err-table.ensures.1 in
    rw (p.1, p.2) (fails-to-clean never_kept c.args.file.now c.args.policy.now c.args.page.now _ _
    (c.in_err-table.ensures.err c.args.page.now))

pub returns-in_err-made-clause-err : goal.returns-in_err-made-clause-err
returns-in_err-made-clause-err c =
    let p = err_from_is_err_and c.from_residual-in_err-made.result c.from_residual-in_err-made.ensures.1 in
    rw (p.1, p.2) (fails-to-clean never_kept c.args.file.now c.args.policy.now c.args.page.now _ _
    (c.in_err-made.ensures.err c.args.file.now))

pub returns-clause-ok : goal.returns-clause-ok
returns-clause-ok c = record {
  rows = c.in_ok-table.table;
  table = c.in_ok-table.ensures.ok;
  by = c.in_ok-policy.policy;
  is_policy = c.in_ok-policy.ensures.ok;
  cleaned = c.in_ok-made.ensures.ok;
}
