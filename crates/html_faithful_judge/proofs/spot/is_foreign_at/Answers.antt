use Rattle.std.proofs.Common.{◌∙◌, sym, arith}
use Rattle.html_rules.specs.State.{current_is}
use Rattle.html_stack.specs.Stacks.{open_of}
use Rattle.html_stack.proofs.WalksBack.{IsWalked-end, walk-at, walk-none}
use Rattle.html_faithful_judge.specs.Spots.{is_foreign_in}
use Rattle.html_faithful_judge.specs.Tokens.{token_of}
use Rattle.html_faithful_judge.proofs.spot.is_foreign_at.Goals as goal

pub returns-then-count-eq0 : goal.returns-then-count-eq0
returns-then-count-eq0 c node =
    let t = token_of c.args.token.now.content in
    sym (walk-none open_of (current_is (is_foreign_in t)) c.args.elements.now _
    (IsWalked-end open_of (current_is (is_foreign_in t)) c.args.elements.now) c.if-count-eq0.true node)

pub returns : goal.returns
returns c node =
    let t = token_of c.args.token.now.content in
    c.is_foreign_in.ensures node
    ∙ sym (walk-at open_of (current_is (is_foreign_in t)) c.args.elements.now _ _ c.index-elements-count.result
    (IsWalked-end open_of (current_is (is_foreign_in t)) c.args.elements.now) (omega arith) c.index-elements-count.is node)
