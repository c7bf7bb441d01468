use Rattle.std.proofs.Common.{◌∙◌, sym}
use Rattle.html_stack.proofs.Noted.{none-named}
use Rattle.html_stack.proofs.depths.Depths.reach_html.Goals as goal

pub returns-in-Ok : goal.returns-in-Ok
returns-in-Ok c xs all count is = rw (c.get.ensures, c.in-Ok.ensures.ok, c.as_str.ensures)
    (none-named xs c.args.self.now c.args.name.now (count ∙ sym all) is)
