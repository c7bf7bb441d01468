use Rattle.std.proofs.Common.{sym, ap₂}
use Rattle.std.specs.Prelude.{◌&&◌}
use Rattle.html_faithful_walk.proofs.Checked.{closes-by}
use Rattle.html_faithful_walk.proofs.checks.Closing.is_so.Goals as goal

pub returns-then-lists : goal.returns-then-lists
returns-then-lists c path e =
    closes-by c.args.self path _ _ c.points.result c.lists.result c.points.result e c.lists.ensures c.points.ensures
    (sym (ap₂ (λ t l. t && (l && c.points.result)) c.if-self.true c.if-lists.true))
