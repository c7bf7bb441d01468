use Rattle.std.proofs.Common.{◌∙◌, sym, arith}
use Rattle.html_rules.specs.Formatting.{after_marker}
use Rattle.html_stack.specs.Stacks.{entry_of}
use Rattle.html_stack.proofs.Marks.{behind-element, behind-mark}
use Rattle.html_stack.proofs.WalksBack.{IsWalked-end, walk-at, walk-none, walk-on}
use Rattle.html_stack.proofs.walks.count_to_marker.Goals as goal

pub loop-i-init : goal.loop-i-init
loop-i-init g c = IsWalked-end entry_of after_marker c.args.entries.now

pub returns-then-is_marker-clause-left : goal.returns-then-is_marker-clause-left
returns-then-is_marker-clause-left g c node =
    sym (walk-at entry_of after_marker c.args.entries.now c.loop-i.i _ c.index-entries-i.result c.loop-i.invariant
    (omega arith) c.index-entries-i.is node
    ∙ behind-mark (entry_of node c.index-entries-i.result) _ (c.if-is_marker.ensures node))

pub loop-i-preserved : goal.loop-i-preserved
loop-i-preserved g c =
    walk-on entry_of after_marker c.args.entries.now c.loop-i.i _ c.index-entries-i.result c.loop-i.invariant
    (omega arith) c.index-entries-i.is
    (λ node. behind-element (entry_of node c.index-entries-i.result) _ (c.if-is_marker.ensures node))

pub returns-clause-left : goal.returns-clause-left
returns-clause-left g c node = sym (walk-none entry_of after_marker c.args.entries.now c.loop-i.i c.loop-i.invariant (omega arith) node)
