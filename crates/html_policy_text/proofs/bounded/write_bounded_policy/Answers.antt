use Rattle.std.proofs.Common.{◌∙◌, ◌++◌, List, ℕ, ap, sym}
use Rattle.html_policy_text.specs.Bounded.{bounded_of, bounded_rules, bounds_text}
use Rattle.html_policy_text.specs.PolicyText.{policy_rules}
use Rattle.html_policy_text.proofs.BoundsBack.{bounded-back}
use Rattle.html_policy_text.proofs.bounded.write_bounded_policy.Goals as goal

pub returns-in-Ok-write_bounds-clause-ok : goal.returns-in-Ok-write_bounds-clause-ok
returns-in-Ok-write_bounds-clause-ok c =
    let b = bounded_of c.args.bounded.now in
    c.in-Ok-write_bounds.ensures.ok ∙ ap (λ (rules : List ℕ). bounds_text b.bounds ++ rules) c.in-Ok.ensures.ok

pub returns-in-Ok-write_bounds-clause-read : goal.returns-in-Ok-write_bounds-clause-read
returns-in-Ok-write_bounds-clause-read c =
    let b = bounded_of c.args.bounded.now in
    ap bounded_rules
    (c.in-Ok-write_bounds.ensures.ok ∙ ap (λ (rules : List ℕ). bounds_text b.bounds ++ rules) c.in-Ok.ensures.ok)
    ∙ bounded-back b c.in-Ok-write_bounds.ensures.range (ap policy_rules (sym c.in-Ok.ensures.ok) ∙ c.in-Ok.ensures.read)
