use Rattle.std.proofs.Common.{ap, sym}
use Rattle.html_tree_builder.specs.States.{state_of}
use Rattle.html_tree_builder.proofs.construction.Construction.ends_in_html.Goals as goal

pub returns : goal.returns
returns g c a f = c.ends_in_html.ensures (state_of a c.args.self.now f) (ap (λ b. b.stack.open_elems) (sym c.self.view_is))
