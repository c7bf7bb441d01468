use Rattle.std.proofs.Common.{◌∙◌, sym, arith}
use Rattle.html_rules.specs.State.{current_is}
use Rattle.html_stack.specs.Stacks.{open_of}
use Rattle.html_stack.specs.Wanted.{passes}
use Rattle.html_stack.proofs.WalksBack.{IsWalked-end, walk-at, walk-none}
use Rattle.html_stack.proofs.walks.is_last.Goals as goal

pub returns-then-count-eq0 : goal.returns-then-count-eq0
returns-then-count-eq0 g c node = sym (walk-none open_of (current_is (passes c.args.wanted)) c.args.elements.now _
    (IsWalked-end open_of (current_is (passes c.args.wanted)) c.args.elements.now) c.if-count-eq0.true node)

pub returns : goal.returns
returns g c node =
    c.is_wanted.ensures node
    ∙ sym (walk-at open_of (current_is (passes c.args.wanted)) c.args.elements.now _ _ c.index-elements-count.result
    (IsWalked-end open_of (current_is (passes c.args.wanted)) c.args.elements.now) (omega arith) c.index-elements-count.is node)
