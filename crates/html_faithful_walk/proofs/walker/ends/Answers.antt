use Rattle.std.proofs.Common.{◌∙◌, ap, sym}
use Rattle.std.specs.Prelude.{◌&&◌}
use Rattle.html_faithful.specs.Walk.{is_at_end, is_end_mode}
use Rattle.html_faithful_judge.specs.Spots.{spot_of}
use Rattle.html_faithful_walk.specs.Steps.{spot_if}
use Rattle.html_faithful_walk.proofs.Inside.{ends-by}
use Rattle.html_faithful_walk.proofs.Points.{may-end}
use Rattle.html_faithful_walk.proofs.walker.ends.Goals as goal

pub returns-then-branch-clause-ok : goal.returns-then-branch-clause-ok
returns-then-branch-clause-ok c scripting =
    ap is_at_end (ends-by scripting c.args.judge.now.stand _ _ c.in_ok-may_end.ensures.ok
    ∙ ap (λ b. spot_if b (spot_of c.args.judge.now.made.spot)) c.if-branch.true) ∙ sym c.is_end_mode.ensures

pub returns-else-branch-clause-ok : goal.returns-else-branch-clause-ok
returns-else-branch-clause-ok c scripting =
    ap is_at_end (ends-by scripting c.args.judge.now.stand _ _ c.in_ok-may_end.ensures.ok
    ∙ ap (λ b. spot_if b (spot_of c.args.judge.now.made.spot)) c.if-branch.false) ∙ sym c.if-branch.false

pub returns-then-branch-clause-point : goal.returns-then-branch-clause-point
returns-then-branch-clause-point c =
    ap (λ b. b && is_end_mode c.args.judge.now.made.spot.mode)
    (may-end c.args.judge.now.stand.inside ∙ (sym c.in_ok-may_end.ensures.ok ∙ c.if-branch.true)) ∙ sym c.is_end_mode.ensures

pub returns-else-branch-clause-point : goal.returns-else-branch-clause-point
returns-else-branch-clause-point c =
    ap (λ b. b && is_end_mode c.args.judge.now.made.spot.mode)
    (may-end c.args.judge.now.stand.inside ∙ (sym c.in_ok-may_end.ensures.ok ∙ c.if-branch.false)) ∙ sym c.if-branch.false
