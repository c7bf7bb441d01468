use Rattle.std.proofs.Common.{◌∙◌, refl, sym}
use Rattle.html_rules.specs.Stack.{close_item, generate_implied_end_except}
use Rattle.html_stack.proofs.Noted.{item-beyond}
use Rattle.html_stack.proofs.stack.Stack.close_item.Goals as goal

pub returns-in-Some : goal.returns-in-Some
unfolding close_item generate_implied_end_except
returns-in-Some g c s =
    let found = c.in-Some.ensures g.Sink.TreeSink.node in
    let item = sym (item-beyond c.args.items _ _ c.reached.ensures) ∙ found.1 in
    c.close_wanted.ensures s ∙ rw (c.close_implied.ensures.left, c.close_implied.ensures.same, item) refl

pub returns-in_default : goal.returns-in_default
unfolding close_item generate_implied_end_except
returns-in_default g c s =
    let none = sym (item-beyond c.args.items _ _ c.reached.ensures) ∙ c.in_default.ensures g.Sink.TreeSink.node in
    rw none refl
