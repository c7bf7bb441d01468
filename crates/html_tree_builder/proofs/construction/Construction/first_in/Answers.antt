use Rattle.std.proofs.Common.{[], append-nil, sym}
use Rattle.html_tree_builder.proofs.construction.Construction.first_in.Goals as goal

pub returns-in-Some : goal.returns-in-Some
returns-in-Some g c a f = sym (rw append-nil at (c.in-Some.ensures a f []))

pub returns-in-None : goal.returns-in-None
returns-in-None g c a f = sym (rw append-nil at (c.in-None.ensures a f []))
