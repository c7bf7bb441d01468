use Rattle.std.proofs.Common.{◌≡◌, length, arith}
use Rattle.html_rules.specs.State.{named_in}
use Rattle.html_stack.proofs.Noted.{none-within}
use Rattle.html_stack.proofs.depths.Depths.reach_html_named.Goals as goal

pub returns-clause-beyond : goal.returns-clause-beyond
returns-clause-beyond c xs all is =
    let d = c.args.self.now in
    let count : length d.notes.items ≡ c.args.count = omega (arith, c.if-len-count.false, c.len.ensures) in
    rw c.min.ensures
    (none-within (λ x. named_in x.namespace x.name c.args.name.now) xs _ c.args.count all (c.reach_html.ensures xs all count is))
