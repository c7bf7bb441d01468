use Rattle.std.proofs.Common.{◌∙◌, ◌<◌, sym, ap, arith, eq-zero-or-pos, inl, inr}
use Rattle.html_rules.specs.Places.{place_for}
use Rattle.html_rules.specs.State.{current_node}
use Rattle.html_stack.specs.Stacks.{open_of, opens_of}
use Rattle.html_stack.proofs.Points.{opened-at}
use Rattle.html_stack.proofs.WalksBack.{at}
use Rattle.html_stack.proofs.formatting.placing.place_before.Goals as goal

pub point_for-requires-clause-target : goal.point_for-requires-clause-target
point_for-requires-clause-target g c =
    let some : 0 < c.args.from = elim (eq-zero-or-pos c.args.from) [ inl none ↦ absurd (c.if-from-eq0.false none) | inr more ↦ more ] in
    let within = c.requires.within in
    rw c.get_document-document.ensures.same
    (opened-at (g.Sink.TreeSink.forest c.args.sink.now) g.Sink.TreeSink.node c.args.elements.now c.args.from _
    c.index-elements-from.result c.requires.opened (omega arith) (omega arith) c.index-elements-from.is).0

pub returns-clause-place : goal.returns-clause-place
returns-clause-place g c f =
    let some : 0 < c.args.from = elim (eq-zero-or-pos c.args.from) [ inl none ↦ absurd (c.if-from-eq0.false none) | inr more ↦ more ] in
    let within = c.requires.within in
    c.point_for.ensures.place f
    ∙ sym (ap (λ xs. place_for c.args.foster f (opens_of g.Sink.TreeSink.node c.args.elements.now)
    (current_node xs)) (at (open_of g.Sink.TreeSink.node) c.args.elements.now c.args.from _
    c.index-elements-from.result (omega arith) (omega arith) c.index-elements-from.is))

pub returns-clause-is_point : goal.returns-clause-is_point
returns-clause-is_point g c f tree h =
    let some : 0 < c.args.from = elim (eq-zero-or-pos c.args.from) [ inl none ↦ absurd (c.if-from-eq0.false none) | inr more ↦ more ] in
    let within = c.requires.within in
    c.point_for.ensures.is_point f tree h
    (opened-at f g.Sink.TreeSink.node c.args.elements.now c.args.from _ c.index-elements-from.result h
    (omega arith) (omega arith) c.index-elements-from.is).0
