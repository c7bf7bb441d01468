use Rattle.std.proofs.Common.{◌∙◌, sym, refl, arith}
use Rattle.html_rules.specs.Stack.{in_scope}
use Rattle.html_stack.specs.Stacks.{open_of}
use Rattle.html_stack.specs.Wanted.{passes}
use Rattle.html_stack.proofs.WalksBack.{IsWalked-end, walk-at, walk-none, walk-on}
use Rattle.html_stack.proofs.walks.is_in_scope.Goals as goal

pub loop-i-init : goal.loop-i-init
loop-i-init g c = IsWalked-end open_of (in_scope c.args.scope (passes c.args.wanted)) c.args.elements.now

pub returns-then-is_wanted : goal.returns-then-is_wanted
returns-then-is_wanted g c node =
    sym (walk-at open_of (in_scope c.args.scope (passes c.args.wanted)) c.args.elements.now c.loop-i.i _
    c.index-elements-i.result c.loop-i.invariant (omega arith) c.index-elements-i.is node
    ∙ rw (← c.if-is_wanted.ensures node) refl)

pub returns-then-is_in : goal.returns-then-is_in
returns-then-is_in g c node =
    sym (walk-at open_of (in_scope c.args.scope (passes c.args.wanted)) c.args.elements.now c.loop-i.i _
    c.index-elements-i.result c.loop-i.invariant (omega arith) c.index-elements-i.is node
    ∙ rw (← c.if-is_wanted.ensures node, ← c.if-is_in.ensures) refl)

pub loop-i-preserved : goal.loop-i-preserved
loop-i-preserved g c =
    walk-on open_of (in_scope c.args.scope (passes c.args.wanted)) c.args.elements.now c.loop-i.i _
    c.index-elements-i.result c.loop-i.invariant (omega arith) c.index-elements-i.is
    (λ node. rw (← c.if-is_wanted.ensures node, ← c.if-is_in.ensures) refl)

pub returns : goal.returns
returns g c node = sym (walk-none open_of (in_scope c.args.scope (passes c.args.wanted)) c.args.elements.now
    c.loop-i.i c.loop-i.invariant (omega arith) node)
