use Rattle.std.proofs.Common.{◌∙◌, sym, refl, arith}
use Rattle.html_rules.specs.Stack.{item_name}
use Rattle.html_stack.specs.Stacks.{open_of}
use Rattle.html_stack.proofs.Items.{item-known}
use Rattle.html_stack.proofs.WalksBack.{walk-at}
use Rattle.html_stack.proofs.walks.item.Goals as goal

pub returns-then-is_in : goal.returns-then-is_in
returns-then-is_in g c node =
    item-known c.args.items (open_of node c.index-elements-i.result) _ c.known_html.result
    c.known_html.ensures.found c.known_html.ensures.missing c.requires (sym c.if-is_in.ensures)
    (walk-at open_of (item_name c.args.items) c.args.elements.now c.loop-i.i _ c.index-elements-i.result
    c.loop-i.invariant (omega arith) c.index-elements-i.is node
    ∙ rw (← c.if-is_in.ensures) refl)
