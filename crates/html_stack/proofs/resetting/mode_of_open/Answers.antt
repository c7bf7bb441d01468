use Rattle.std.proofs.Common.{◌-◌, ◌∙◌, sym, take, arith}
use Rattle.html_rules.specs.Reset.{mode_of_open}
use Rattle.html_stack.specs.Stacks.{open_of, opens_of}
use Rattle.html_stack.proofs.ModesAsked.{open-cell, open-head, open-html, open-other}
use Rattle.html_stack.proofs.WalksBack.{IsWalked-end, walk-at, walk-none, walk-on}
use Rattle.html_stack.proofs.resetting.mode_of_open.Goals as goal

pub loop-i-init : goal.loop-i-init
loop-i-init g c = record { within = omega arith; walked = λ s k. IsWalked-end open_of (mode_of_open s) c.args.elements.now }

pub returns-then-is_in : goal.returns-then-is_in
returns-then-is_in g c node s k is =
    walk-at open_of (mode_of_open s) c.args.elements.now c.loop-i.i _ c.index-elements-i.result
    (c.loop-i.invariant.walked s k) (omega arith) c.index-elements-i.is node
    ∙ open-cell s (open_of node c.index-elements-i.result)
    (opens_of node (take (c.loop-i.i - 1) c.args.elements.now)) (sym c.if-is_in.ensures)

pub returns-then-is_in-2 : goal.returns-then-is_in-2
returns-then-is_in-2 g c node s k is =
    walk-at open_of (mode_of_open s) c.args.elements.now c.loop-i.i _ c.index-elements-i.result
    (c.loop-i.invariant.walked s k) (omega arith) c.index-elements-i.is node
    ∙ open-head s (open_of node c.index-elements-i.result)
    (opens_of node (take (c.loop-i.i - 1) c.args.elements.now)) (sym c.if-is_in.ensures) (sym c.if-is_in-2.ensures)

pub returns-then-is_in-3 : goal.returns-then-is_in-3
returns-then-is_in-3 g c node s k is =
    walk-at open_of (mode_of_open s) c.args.elements.now c.loop-i.i _ c.index-elements-i.result
    (c.loop-i.invariant.walked s k) (omega arith) c.index-elements-i.is node
    ∙ open-html s (open_of node c.index-elements-i.result)
    (opens_of node (take (c.loop-i.i - 1) c.args.elements.now)) (sym c.if-is_in.ensures)
    (sym c.if-is_in-2.ensures) (sym c.if-is_in-3.ensures)
    ∙ c.mode_of_context.ensures s k is

pub returns-in-Some : goal.returns-in-Some
returns-in-Some g c node s k is =
    walk-at open_of (mode_of_open s) c.args.elements.now c.loop-i.i _ c.index-elements-i.result
    (c.loop-i.invariant.walked s k) (omega arith) c.index-elements-i.is node
    ∙ open-other s (open_of node c.index-elements-i.result)
    (opens_of node (take (c.loop-i.i - 1) c.args.elements.now)) (sym c.if-is_in.ensures)
    (sym c.if-is_in-2.ensures) (sym c.if-is_in-3.ensures)
    ∙ c.in-Some.ensures s (node c.index-elements-i.result.handle) k
    (λ _. mode_of_open s (opens_of node (take (c.loop-i.i - 1) c.args.elements.now)))

pub loop-i-preserved : goal.loop-i-preserved
loop-i-preserved g c = record {
  within = omega (arith, c.loop-i.invariant.within);
  walked = λ s k.
      walk-on open_of (mode_of_open s) c.args.elements.now c.loop-i.i _ c.index-elements-i.result
      (c.loop-i.invariant.walked s k) (omega arith) c.index-elements-i.is
      (λ node.
      open-other s (open_of node c.index-elements-i.result)
      (opens_of node (take (c.loop-i.i - 1) c.args.elements.now)) (sym c.if-is_in.ensures)
      (sym c.if-is_in-2.ensures) (sym c.if-is_in-3.ensures)
      ∙ c.in_default.ensures s (node c.index-elements-i.result.handle) k
      (λ _. mode_of_open s (opens_of node (take (c.loop-i.i - 1) c.args.elements.now))));
}

pub returns : goal.returns
returns g c node s k is = walk-none open_of (mode_of_open s) c.args.elements.now c.loop-i.i
    (c.loop-i.invariant.walked s k) (omega arith) node
