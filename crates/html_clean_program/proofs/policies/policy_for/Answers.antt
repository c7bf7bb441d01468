use Rattle.std.proofs.Common.{map}
use Rattle.std.proofs.lemmas.Result.{err_from_is_err_and}
use Rattle.html_normal_program.specs.Program.{named}
use Rattle.html_clean_program.specs.Words.{extra_of}
use Rattle.html_clean_program.proofs.Requests.{no-policy, no-start}
use Rattle.html_clean_program.proofs.policies.policy_for.Goals as goal

pub returns-in_err-policy-clause-err : goal.returns-in_err-policy-clause-err
returns-in_err-policy-clause-err g c =
    let p = err_from_is_err_and c.from_residual.result c.from_residual.ensures.1 in
    let asked = c.args.asked.now in
    rw (p.1, p.2)
    (no-start (g.Opens.Opener.files c.args.opener.now) (named asked.policy) (map extra_of asked.extras.items) asked.is_document
    c.in_err-policy.field-0.0 c.in_err-policy.ensures.err)

pub returns-in_err-check-clause-err : goal.returns-in_err-check-clause-err
returns-in_err-check-clause-err g c =
    let p = err_from_is_err_and c.from_residual-in_err-check.result c.from_residual-in_err-check.ensures.1 in
    let asked = c.args.asked.now in
    rw (p.1, p.2)
    (no-policy (g.Opens.Opener.files c.args.opener.now) (named asked.policy) (map extra_of asked.extras.items) asked.is_document
    c.in_ok-policy.policy c.in_err-check.field-0.0 c.in_ok-policy.ensures.ok c.in_err-check.ensures.err)
