use Rattle.std.proofs.Common.{◌∙◌, refl, sym}
use Rattle.std.specs.Str.{chars}
use Rattle.html_clean.specs.Checks.{never_kept_in_fragment}
use Rattle.html_ffi.proofs.Policies.{some-refused}
use Rattle.html_ffi.proofs.policy.policy_for_fragments.Goals as goal

pub returns-then-is_err-clause-err : goal.returns-then-is_err-clause-err
returns-then-is_err-clause-err c file page =
    let found = some-refused (never_kept_in_fragment c.in_ok-policy.policy) (λ word. chars word.now) c.checked_for_fragments.result
    (sym c.is_err.ensures.value ∙ c.if-is_err.true) c.checked_for_fragments.ensures.err in
    (refl, record { policy = c.in_ok-policy.policy; says = c.in_ok-policy.ensures.ok; word = found.0; is = found.1 })
