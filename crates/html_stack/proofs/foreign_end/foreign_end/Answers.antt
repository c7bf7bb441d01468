use Rattle.std.proofs.Common.{◌-◌, arith}
use Rattle.html_stack.proofs.EndTags.{IsEndWalked-start, end-html, end-named, end-none, end-skip, end-step}
use Rattle.html_stack.proofs.foreign_end.foreign_end.Goals as goal

pub loop-i-init : goal.loop-i-init
loop-i-init g c = IsEndWalked-start c.args.name.now c.args.elements.now

pub loop-i-preserved : goal.loop-i-preserved
loop-i-preserved g c =
    end-skip c.args.name.now c.args.elements.now (c.loop-i.i - 1) c.args.reach c.min-i.result
    (end-step c.args.name.now c.args.elements.now c.loop-i.is_current c.loop-i.i (c.loop-i.i - 1)
    c.index-elements-i.result c.loop-i.invariant (omega arith) (omega arith) c.index-elements-i.is
    c.if-is_further_html.ensures (λ node. c.if-is_named_any_case.ensures))
    c.min-i.ensures c.requires

pub returns : goal.returns
returns g c node = end-none c.args.name.now c.args.elements.now c.loop-i.is_current c.loop-i.i c.loop-i.invariant (omega arith) node

pub returns-then-is_further_html : goal.returns-then-is_further_html
returns-then-is_further_html g c =
    end-html c.args.name.now c.args.elements.now c.loop-i.is_current c.loop-i.i (c.loop-i.i - 1)
    c.index-elements-i.result c.loop-i.invariant (omega arith) (omega arith) c.index-elements-i.is c.if-is_further_html.ensures

pub returns-then-is_named_any_case : goal.returns-then-is_named_any_case
returns-then-is_named_any_case g c =
    end-named c.args.name.now c.args.elements.now c.loop-i.is_current c.loop-i.i (c.loop-i.i - 1)
    c.index-elements-i.result c.loop-i.invariant (omega arith) (omega arith) c.index-elements-i.is
    c.if-is_further_html.ensures (λ node. c.if-is_named_any_case.ensures)
