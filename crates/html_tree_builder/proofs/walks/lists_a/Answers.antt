use Rattle.std.proofs.Common.{◌∙◌, sym, ap, arith, is_some, codes}
use Rattle.html_rules.specs.Formatting.{last_named}
use Rattle.html_stack.specs.Found.{listed_of}
use Rattle.html_stack.specs.Stacks.{entry_of}
use Rattle.html_stack.proofs.ListEdits.{named-here, named-marker, named-other}
use Rattle.html_stack.proofs.WalksBack.{IsWalked-end, walk-at, walk-none, walk-on}
use Rattle.html_tree_builder.proofs.walks.lists_a.Goals as goal

pub loop-i-init : goal.loop-i-init
loop-i-init g c = IsWalked-end entry_of (last_named (codes "a")) c.args.entries.now

pub returns-in-Marker : goal.returns-in-Marker
returns-in-Marker g c node =
    sym (ap is_some (walk-at entry_of (last_named (codes "a")) c.args.entries.now c.loop-i.i _
    c.index-entries-i.result c.loop-i.invariant (omega arith) c.index-entries-i.is node
    ∙ named-marker node (codes "a") c.index-entries-i.result _ c.in-Marker.is))

pub returns-then-is : goal.returns-then-is
returns-then-is g c node =
    sym (ap is_some (walk-at entry_of (last_named (codes "a")) c.args.entries.now c.loop-i.i _
    c.index-entries-i.result c.loop-i.invariant (omega arith) c.index-entries-i.is node
    ∙ named-here node (codes "a") c.index-entries-i.result c.in-Element.field-0 c.in-Element.tag _ c.in-Element.is (sym c.if-is.ensures))
    ∙ ap (λ e. is_some (listed_of node e)) c.in-Element.is)

pub loop-i-preserved : goal.loop-i-preserved
loop-i-preserved g c =
    walk-on entry_of (last_named (codes "a")) c.args.entries.now c.loop-i.i _ c.index-entries-i.result
    c.loop-i.invariant (omega arith) c.index-entries-i.is
    (λ node. named-other node (codes "a") c.index-entries-i.result c.in-Element.field-0 c.in-Element.tag _
    c.in-Element.is (sym c.if-is.ensures))

pub returns : goal.returns
returns g c node = sym (ap is_some (walk-none entry_of (last_named (codes "a")) c.args.entries.now c.loop-i.i
    c.loop-i.invariant (omega arith) node))
