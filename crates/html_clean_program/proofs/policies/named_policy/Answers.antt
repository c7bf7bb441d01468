use Rattle.html_clean_program.proofs.Requests.{no-file}
use Rattle.html_clean_program.proofs.policies.named_policy.Goals as goal

pub returns-in-Err-clause-err : goal.returns-in-Err-clause-err
returns-in-Err-clause-err g c =
    no-file (g.Opens.Opener.files c.args.opener.now) c.args.name.now c.in-Err.fault c.policy_fault.result c.in-Err.ensures.err
    c.policy_fault.ensures
