use Rattle.std.proofs.Common.{◌≡◌, ◌∙◌, true, subst}
use Rattle.html_rules.specs.ForeignContent.{foreign_end_from}
use Rattle.html_stack.specs.ForeignEnds.{ends_at}
use Rattle.html_stack.specs.Noted.{named}
use Rattle.html_stack.specs.Stacks.{Stacked}
use Rattle.html_stack.proofs.EndTags.{ends-same}
use Rattle.html_stack.proofs.Noted.{length-named}
use Rattle.html_stack.proofs.stack.Stack.foreign_end.Goals as goal

pub foreign_end-requires : goal.foreign_end-requires
foreign_end-requires g c =
    let items = c.self.inside.open_elems.items in
    rw c.as_slice-open.ensures.value
    (c.reach_foreign_end-reach.ensures.beyond (named items) (rw c.as_slice-open.ensures.value (length-named items)) c.self.invariant)

pub returns : goal.returns
returns g c =
    let node = g.Sink.TreeSink.node in
    let items = c.self.inside.open_elems.items in
    let found = rw c.as_slice-open.ensures.value at (c.foreign_end.ensures node) in
    subst (λ (v : Stacked). foreign_end_from true c.args.name.now v.open_elems ≡ ends_at v.open_elems
    c.foreign_end.result) c.self.view_is (found ∙ ends-same node items c.foreign_end.result)
