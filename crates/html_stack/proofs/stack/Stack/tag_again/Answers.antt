use Rattle.std.proofs.Common.{◌≡◌, ◌∙◌, ◌<◌, length, sym, ap, subst, arith, IfOk}
use Rattle.std.proofs.lemmas.Result.{IfOk-weaker}
use Rattle.html_stack.specs.Found.{IsTagAt}
use Rattle.html_stack.specs.Reopening.{IsSaidAt}
use Rattle.html_stack.specs.Stacks.{Stacked, entries_of}
use Rattle.html_stack.proofs.Reopened.{count-entries, said-at}
use Rattle.html_stack.proofs.stack.Stack.tag_again.Goals as goal

pub tag_at-requires : goal.tag_at-requires
tag_at-requires g c =
    let node = g.Sink.TreeSink.node in
    let count : length c.args.self.now.active_formatting ≡ length c.self.inside.active_formatting.items =
    ap (λ (v : Stacked). length v.active_formatting) (sym c.self.view_is) ∙ count-entries node c.self.inside.active_formatting.items in
    rw c.as_slice.ensures.value (omega (arith, c.requires, count))

pub returns-clause-said : goal.returns-clause-said
returns-clause-said g c =
    let node = g.Sink.TreeSink.node in
    let items = c.self.inside.active_formatting.items in
    let count : length c.args.self.now.active_formatting ≡ length items =
    ap (λ (v : Stacked). length v.active_formatting) (sym c.self.view_is) ∙ count-entries node items in
    let less : c.args.place < length items = omega (arith, c.requires, count) in
    let told : IfOk c.tag_at.result (IsTagAt items c.args.place) = rw c.as_slice.ensures.value at c.tag_at.ensures.tag in
    subst (λ (v : Stacked). IfOk c.tag_at.result (IsSaidAt v.active_formatting c.args.place)) c.self.view_is
    (IfOk-weaker c.tag_at.result (IsTagAt items c.args.place) (IsSaidAt (entries_of node items) c.args.place)
    (λ o h. said-at node items c.args.place o less h) told)
