use Rattle.std.proofs.Common.{List, ℕ, [], refl}
use Rattle.std.specs.Prelude.{codes}
use Rattle.std.specs.Str.{chars}
use Rattle.html_policy_text.specs.Bounded.{bound_text, bounds_text}
use Rattle.html_policy_text.proofs.Writes.{piece-more}
use Rattle.html_policy_text.proofs.bounded.write_bounds.Goals as goal

pub returns-clause-ok : goal.returns-clause-ok
unfolding chars
returns-clause-ok c =
    let bounds = c.args.bounds.now in
    let t1 = piece-more (bound_text (codes "max-depth")) c.empty-text.result [] c.write_bound.new.text bounds.depth bounds.depth
    c.in_ok-write_bound.ensures.ok c.empty-text.ensures refl in
    let t2 = piece-more (bound_text (codes "max-elements")) c.write_bound.new.text _ c.write_bound-2.new.text bounds.elements
    bounds.elements c.in_ok-write_bound-2.ensures.ok t1 refl in
    let t3 = piece-more (bound_text (codes "max-bytes")) c.write_bound-2.new.text _ c.write_bound-3.new.text bounds.bytes bounds.bytes
    c.in_ok-write_bound-3.ensures.ok t2 refl in
    piece-more (λ (t : List ℕ). t) c.write_bound-3.new.text (bounds_text bounds) c.push_str.new.self (chars c.as_str.result.now)
    c.args.after.now c.in_ok-push_str.ensures.ok t3 c.as_str.ensures
