use Rattle.std.proofs.Common.{◌∙◌, ℕ, List, ◌∷◌, ◌++◌, ap, arith}
use Rattle.html_policy_text.proofs.Numbers.{digits-chars}
use Rattle.html_policy_text.proofs.Writes.{on-ok}
use Rattle.html_policy_text.proofs.writing.push_number.Goals as goal

pub returns-clause-ok : goal.returns-clause-ok
returns-clause-ok c =
    on-ok c.push_spaced.result _ _ c.push_spaced.ensures.ok (λ ok. ok ∙ ap (λ (word : List ℕ). c.args.text.now ++ 32 ∷ word)
    (digits-chars c.args.n c.as_str.result.now (omega (arith, c.ranges.n.fits)) (c.as_str.ensures.value ∙ c.in_ok-digits.ensures.ok)))
