use Rattle.std.proofs.Common.{◌≡◌, ◌∙◌, length, sym, arith}
use Rattle.std.specs.Prelude.{◌||◌}
use Rattle.html_rules.specs.State.{named_in}
use Rattle.html_stack.specs.Noted.{NoneNoted, bears}
use Rattle.html_stack.proofs.Noted.{none-either, none-passes, none-within}
use Rattle.html_stack.proofs.depths.Depths.reach_named.Goals as goal

pub returns-clause-beyond : goal.returns-clause-beyond
returns-clause-beyond c xs all is =
    let d = c.args.self.now in
    let count : length d.notes.items ≡ c.args.count = omega (arith, c.if-len-count.false, c.len.ensures) in
    let none : NoneNoted c.args.sign d.notes.items c.reach-marked.result = rw c.as_slice.ensures.value at c.reach-marked.ensures.one in
    rw (c.min.ensures, c.max.ensures)
    (none-within (λ x. bears c.args.sign x || named_in x.namespace x.name c.args.name.now) xs _ c.args.count all
    (none-either (bears c.args.sign) (λ x. named_in x.namespace x.name c.args.name.now) xs c.reach-marked.result
    c.reach_html-named.result _ (omega arith) (omega arith)
    (none-passes xs d c.args.sign c.reach-marked.result (count ∙ sym all) is none) (c.reach_html-named.ensures xs all count is)))
