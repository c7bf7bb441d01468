use Rattle.std.proofs.Common.{refl, subst, sym}
use Rattle.html_rules_laws.specs.Soundness.{IsStanding}
use Rattle.html_stack.specs.Reopening.{IsDivided, IsSettled}
use Rattle.html_stack.specs.Stacks.{Stacked, entries_of, opens_of}
use Rattle.html_stack.proofs.Reopened.{all-settled, divided}
use Rattle.html_stack.proofs.stack.Stack.settled.Goals as goal

pub returns-then-is_newest_settled : goal.returns-then-is_newest_settled
returns-then-is_newest_settled g c =
    let node = g.Sink.TreeSink.node in
    let here : IsSettled (opens_of node c.self.inside.open_elems.items) (entries_of node c.self.inside.active_formatting.items) =
    rw (c.as_slice.ensures.value, c.as_slice-2.ensures.value) at (c.if-is_newest_settled.ensures refl) in
    let stay : IsSettled c.args.self.now.open_elems c.args.self.now.active_formatting =
    subst (λ (v : Stacked). IsSettled v.open_elems v.active_formatting) c.self.view_is here in
    all-settled c.args.self.now.open_elems c.args.self.now.active_formatting c.listed.result c.listed.ensures stay

pub count_settled-requires-clause-standing : goal.count_settled-requires-clause-standing
count_settled-requires-clause-standing g c =
    let f = g.Sink.TreeSink.forest c.args.sink.now in
    rw (c.as_slice-3.ensures.value, c.as_slice-4.ensures.value)
    (subst (λ (v : Stacked). IsStanding f v.open_elems v.active_formatting) (sym c.self.view_is) c.requires)

pub count_settled-requires-clause-noted : goal.count_settled-requires-clause-noted
count_settled-requires-clause-noted g c = rw c.as_slice-3.ensures.value c.self.invariant

pub returns : goal.returns
returns g c =
    let node = g.Sink.TreeSink.node in
    let within = rw (c.as_slice-4.ensures.value) at c.count_settled.ensures.within in
    let wait = rw (c.as_slice-3.ensures.value, c.as_slice-4.ensures.value) at c.count_settled.ensures.wait in
    let stay = rw (c.as_slice-3.ensures.value, c.as_slice-4.ensures.value) at c.count_settled.ensures.stay in
    subst (λ (v : Stacked). IsDivided v.open_elems v.active_formatting c.count_settled.result) c.self.view_is
    (divided node (opens_of node c.self.inside.open_elems.items) c.self.inside.active_formatting.items
    c.count_settled.result within wait stay)
