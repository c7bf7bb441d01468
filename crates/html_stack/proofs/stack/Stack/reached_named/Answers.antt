use Rattle.std.proofs.Common.{subst, take}
use Rattle.std.specs.Prelude.{◌||◌}
use Rattle.html_rules.specs.State.{named_in}
use Rattle.html_stack.specs.Noted.{IsBeyond, bears, named}
use Rattle.html_stack.specs.Stacks.{Stacked, opens_of}
use Rattle.html_stack.proofs.Noted.{beyond, length-named}
use Rattle.html_stack.proofs.stack.Stack.reached_named.Goals as goal

pub returns : goal.returns
returns g c =
    let node = g.Sink.TreeSink.node in
    let items = c.self.inside.open_elems.items in
    let none = c.reach_named-reach.ensures.beyond (named items) (rw c.as_slice-open.ensures.value (length-named items)) c.self.invariant in
    subst (λ (v : Stacked). IsBeyond (λ x. bears c.args.sign x || named_in x.namespace x.name c.args.name.now)
    (opens_of node (take c.reach_named-reach.result c.as_slice-open.result.now)) v.open_elems) c.self.view_is
    (rw c.as_slice-open.ensures.value
    (beyond node (λ x. bears c.args.sign x || named_in x.namespace x.name c.args.name.now) items c.reach_named-reach.result none))
