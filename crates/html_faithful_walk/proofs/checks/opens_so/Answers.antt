use Rattle.html_faithful_walk.proofs.Checked.{opens-by, opens-not}
use Rattle.html_faithful_walk.proofs.checks.opens_so.Goals as goal

pub returns-then-lists_opened : goal.returns-then-lists_opened
returns-then-lists_opened c =
    opens-by c.args.name.now c.args.spot.now.stack.open_elems _ _ c.is_any_open.result c.current_is.result c.lists_opened.result
    c.points_opened.result c.is_any_open.ensures c.if-is_any_open.true c.current_is.ensures c.if-not-current_is.true c.lists_opened.ensures
    c.if-lists_opened.true c.points_opened.ensures

pub returns-else-lists_opened : goal.returns-else-lists_opened
returns-else-lists_opened c =
    opens-not c.args.name.now c.args.spot.now.stack.open_elems _ _ c.is_any_open.result c.current_is.result c.lists_opened.result
    c.is_any_open.ensures c.if-is_any_open.true c.current_is.ensures c.if-not-current_is.true c.lists_opened.ensures c.if-lists_opened.false
