use Rattle.std.proofs.Common.{◌∙◌, refl, sym}
use Rattle.std.specs.Str.{chars}
use Rattle.html_clean.specs.Checks.{never_kept}
use Rattle.html_ffi.proofs.Policies.{some-refused}
use Rattle.html_ffi.proofs.policy.policy_for_documents.Goals as goal

pub returns-then-is_err-clause-err : goal.returns-then-is_err-clause-err
returns-then-is_err-clause-err c file page =
    let found = some-refused (never_kept c.in_ok-policy.policy) (λ word. chars word.now) c.checked.result
    (sym c.is_err.ensures.value ∙ c.if-is_err.true) c.checked.ensures.err in
    (refl, record { policy = c.in_ok-policy.policy; says = c.in_ok-policy.ensures.ok; word = found.0; is = found.1 })
