use Rattle.std.proofs.Common.{◌∙◌, sym, refl, arith, ap, is_some}
use Rattle.html_rules.specs.Stack.{item_name}
use Rattle.html_stack.specs.Stacks.{open_of}
use Rattle.html_stack.proofs.WalksBack.{IsWalked-end, walk-at, walk-none, walk-on}
use Rattle.html_faithful_judge.proofs.spot.has_item.Goals as goal

pub loop-i-init : goal.loop-i-init
loop-i-init c = IsWalked-end open_of (item_name c.args.items) c.args.elements.now

pub returns-then-is_in : goal.returns-then-is_in
returns-then-is_in c node =
    sym (ap is_some (walk-at open_of (item_name c.args.items) c.args.elements.now c.loop-i.i _
    c.index-elements-i.result c.loop-i.invariant (omega arith) c.index-elements-i.is node)
    ∙ rw (← c.if-is_in.ensures) refl)

pub returns-then-bars_items : goal.returns-then-bars_items
returns-then-bars_items c node =
    sym (ap is_some (walk-at open_of (item_name c.args.items) c.args.elements.now c.loop-i.i _
    c.index-elements-i.result c.loop-i.invariant (omega arith) c.index-elements-i.is node)
    ∙ rw (← c.if-is_in.ensures, ← c.if-bars_items.ensures node) refl)

pub loop-i-preserved : goal.loop-i-preserved
loop-i-preserved c =
    walk-on open_of (item_name c.args.items) c.args.elements.now c.loop-i.i _ c.index-elements-i.result c.loop-i.invariant (omega arith)
    c.index-elements-i.is (λ node. rw (← c.if-is_in.ensures, ← c.if-bars_items.ensures node) refl)

pub returns : goal.returns
returns c node = sym (ap is_some (walk-none open_of (item_name c.args.items) c.args.elements.now c.loop-i.i c.loop-i.invariant
    (omega arith) node))
