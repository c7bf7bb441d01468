use Rattle.std.proofs.Common.{◌∙◌, ℕ, List, ap, subst, sym}
use Rattle.std.proofs.lemmas.Result.{err_from_is_err_and}
use Rattle.std.specs.Str.{chars}
use Rattle.html_policy_text.specs.PolicyText.{AreLinesRefused, policy_rules}
use Rattle.html_ffi.proofs.Policies.{line-fails, text-fails}
use Rattle.html_ffi.proofs.policy.read.Goals as goal

pub returns-in_err-text-clause-err : goal.returns-in_err-text-clause-err
returns-in_err-text-clause-err c =
    let p = err_from_is_err_and c.from_residual.result c.from_residual.ensures.1 in
    rw (p.1, p.2) (λ first file page.
    text-fails first file c.args.bytes.now page _ _ c.in_err-text.ensures.answer c.in_err-text.ensures.at)

pub returns-in-Ok-clause-ok : goal.returns-in-Ok-clause-ok
returns-in-Ok-clause-ok c = record {
  utf8 = c.in_ok-text.ensures.utf8;
  rules = ap (λ (t : List ℕ). policy_rules (chars t)) (sym c.in_ok-text.ensures.ok) ∙ c.in-Ok.ensures.ok;
}

pub returns-in-Err-clause-err : goal.returns-in-Err-clause-err
returns-in-Err-clause-err c first file page =
    line-fails first file c.args.bytes.now page c.in-Err.fault c.from.result c.from.ensures c.in_ok-text.ensures.utf8
    (subst (λ (t : List ℕ). AreLinesRefused (policy_rules (chars t)) c.in-Err.fault) c.in_ok-text.ensures.ok c.in-Err.ensures.err)
