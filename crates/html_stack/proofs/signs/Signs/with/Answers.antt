use Rattle.html_stack.proofs.Noted.{has-with}
use Rattle.html_stack.proofs.signs.Signs.with.Goals as goal

pub returns : goal.returns
returns c sign = rw (c.either.ensures, c.either-2.ensures, c.either-3.ensures, c.either-4.ensures) (has-with c.args.self c.args.other sign)
