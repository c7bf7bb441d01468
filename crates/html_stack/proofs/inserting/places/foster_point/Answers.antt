use Rattle.std.proofs.Common.{◌∙◌, sym, refl, arith}
use Rattle.html_rules.specs.Places.{foster_place}
use Rattle.html_rules.specs.Stack.{root_number}
use Rattle.html_rules.specs.Templates.{foster_intended_parent}
use Rattle.markup.proofs.PutTexts.{IsParent-document}
use Rattle.html_rules_laws.proofs.TreePreserved.StandingTrees.{root-Parent, template-Parent}
use Rattle.html_stack.specs.Stacks.{open_of, opens_of}
use Rattle.html_stack.proofs.Points.{current-Parent, opened-IsNode, opened-at, template-named}
use Rattle.html_stack.proofs.WalksBack.{walk-at, walk-none, walk-on}
use Rattle.html_stack.proofs.inserting.places.foster_point.Goals as goal

pub get_template_contents-requires : goal.get_template_contents-requires
get_template_contents-requires g c =
    let at = opened-at (g.Sink.TreeSink.forest c.args.sink.now) g.Sink.TreeSink.node c.args.elements.now c.loop-i.i
    _ c.index-elements-i.result c.requires.opened (omega arith) (omega arith) c.index-elements-i.is in
    template-named (g.Sink.TreeSink.forest c.args.sink.now) (open_of g.Sink.TreeSink.node c.index-elements-i.result)
    at.0 (sym c.if-is_in.ensures)

pub returns-then-is_in-clause-place : goal.returns-then-is_in-clause-place
returns-then-is_in-clause-place g c f =
    let root = root_number (opens_of g.Sink.TreeSink.node c.args.elements.now) in
    rw c.get_template_contents.ensures
    (sym (walk-at open_of (foster_place f root) c.args.elements.now c.loop-i.i _ c.index-elements-i.result
    (c.loop-i.invariant.walked f root) (omega arith) c.index-elements-i.is g.Sink.TreeSink.node
    ∙ rw (← c.if-is_in.ensures) refl))

pub returns-then-is_in-clause-asked : goal.returns-then-is_in-clause-asked
returns-then-is_in-clause-asked g c =
    let root = root_number (opens_of g.Sink.TreeSink.node c.args.elements.now) in
    rw c.get_template_contents.ensures
    (sym (walk-at open_of (foster_intended_parent root) c.args.elements.now c.loop-i.i _ c.index-elements-i.result
    (c.loop-i.invariant.asked root) (omega arith) c.index-elements-i.is g.Sink.TreeSink.node
    ∙ rw (← c.if-is_in.ensures) refl))

pub returns-then-is_in-clause-is_point : goal.returns-then-is_in-clause-is_point
returns-then-is_in-clause-is_point g c f tree h =
    let at = opened-at f g.Sink.TreeSink.node c.args.elements.now c.loop-i.i _ c.index-elements-i.result h
    (omega arith) (omega arith) c.index-elements-i.is in
    rw c.get_template_contents.ensures (template-Parent f (open_of g.Sink.TreeSink.node c.index-elements-i.result)
    tree at.0 (sym c.if-is_in.ensures))

pub returns-then-is_in-2-clause-place : goal.returns-then-is_in-2-clause-place
returns-then-is_in-2-clause-place g c f =
    let root = root_number (opens_of g.Sink.TreeSink.node c.args.elements.now) in
    rw (c.before-then-is_in-2.ensures g.Sink.TreeSink.node c.requires.document)
    (sym (walk-at open_of (foster_place f root) c.args.elements.now c.loop-i.i _ c.index-elements-i.result
    (c.loop-i.invariant.walked f root) (omega arith) c.index-elements-i.is g.Sink.TreeSink.node
    ∙ rw (← c.if-is_in.ensures, ← c.if-is_in-2.ensures) refl))

pub returns-then-is_in-2-clause-asked : goal.returns-then-is_in-2-clause-asked
returns-then-is_in-2-clause-asked g c =
    let root = root_number (opens_of g.Sink.TreeSink.node c.args.elements.now) in
    sym (walk-at open_of (foster_intended_parent root) c.args.elements.now c.loop-i.i _ c.index-elements-i.result
    (c.loop-i.invariant.asked root) (omega arith) c.index-elements-i.is g.Sink.TreeSink.node
    ∙ rw (← c.if-is_in.ensures, ← c.if-is_in-2.ensures) refl)

pub returns-then-is_in-2-clause-is_point : goal.returns-then-is_in-2-clause-is_point
returns-then-is_in-2-clause-is_point g c f tree h =
    let at = opened-at f g.Sink.TreeSink.node c.args.elements.now c.loop-i.i _ c.index-elements-i.result h
    (omega arith) (omega arith) c.index-elements-i.is in (
      opened-IsNode f (open_of g.Sink.TreeSink.node c.index-elements-i.result) at.0,
      rw (c.before-then-is_in-2.ensures g.Sink.TreeSink.node c.requires.document) (current-Parent f _ tree at.1),
    )

pub loop-i-preserved : goal.loop-i-preserved
loop-i-preserved g c = record {
  within = omega arith;
  walked = λ f root.
      walk-on open_of (foster_place f root) c.args.elements.now c.loop-i.i _ c.index-elements-i.result
      (c.loop-i.invariant.walked f root) (omega arith) c.index-elements-i.is
      (λ node. rw (← c.if-is_in.ensures, ← c.if-is_in-2.ensures) refl);
  asked = λ root.
      walk-on open_of (foster_intended_parent root) c.args.elements.now c.loop-i.i _ c.index-elements-i.result
      (c.loop-i.invariant.asked root) (omega arith) c.index-elements-i.is
      (λ node. rw (← c.if-is_in.ensures, ← c.if-is_in-2.ensures) refl);
}

pub returns-clause-place : goal.returns-clause-place
returns-clause-place g c f =
    let root = root_number (opens_of g.Sink.TreeSink.node c.args.elements.now) in
    rw (c.root_or.ensures g.Sink.TreeSink.node c.requires.document)
    (sym (walk-none open_of (foster_place f root) c.args.elements.now c.loop-i.i (c.loop-i.invariant.walked f root)
    (omega arith) g.Sink.TreeSink.node))

pub returns-clause-asked : goal.returns-clause-asked
returns-clause-asked g c =
    let root = root_number (opens_of g.Sink.TreeSink.node c.args.elements.now) in
    rw (c.root_or.ensures g.Sink.TreeSink.node c.requires.document)
    (sym (walk-none open_of (foster_intended_parent root) c.args.elements.now c.loop-i.i
    (c.loop-i.invariant.asked root) (omega arith) g.Sink.TreeSink.node))

pub returns-clause-is_point : goal.returns-clause-is_point
returns-clause-is_point g c f tree h = rw (c.root_or.ensures g.Sink.TreeSink.node c.requires.document)
    (root-Parent f (opens_of g.Sink.TreeSink.node c.args.elements.now) 0 (IsParent-document f tree.forest) h)
