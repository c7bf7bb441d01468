use Rattle.std.proofs.Common.{◌≡◌, ◌∙◌, length, sym, arith}
use Rattle.std.specs.Prelude.{◌||◌}
use Rattle.html_rules.specs.Names.{is_html}
use Rattle.html_stack.specs.Noted.{NoneNoted, named_any_case}
use Rattle.html_stack.specs.declared.signs.Sign.TheVariants.{Html}
use Rattle.html_stack.proofs.Noted.{none-ended, none-passes, none-within}
use Rattle.html_stack.proofs.depths.Depths.reach_foreign_end.Goals as goal

pub returns-clause-beyond : goal.returns-clause-beyond
returns-clause-beyond c xs all is =
    let d = c.args.self.now in
    let count : length d.notes.items ≡ c.args.count = omega (arith, c.if-len-count.false, c.len.ensures) in
    let none : NoneNoted Html d.notes.items c.reach-html.result = rw c.as_slice.ensures.value at c.reach-html.ensures.one in
    rw (c.min.ensures, c.max.ensures)
    (none-within (λ x. is_html x.namespace || named_any_case c.args.name.now x) xs _ c.args.count all
    (none-ended xs c.args.name.now c.reach-html.result c.reach_foreign-named.result _ (omega arith) (omega arith)
    (none-passes xs d Html c.reach-html.result (count ∙ sym all) is none) (c.reach_foreign-named.ensures xs all count is)))
