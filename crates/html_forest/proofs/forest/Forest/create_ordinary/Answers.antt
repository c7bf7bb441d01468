use Rattle.html_forest.specs.Views.{entries_of}
use Rattle.html_forest.proofs.Kept.{IsKept-with_node}
use Rattle.html_forest.proofs.Stored.{AreStored-grown, AreStored-pushed, OnErr-always, data-grown, data-pushed, held, held-shown}
use Rattle.html_forest.proofs.forest.Forest.create_ordinary.Goals as goal

pub invariant_of-self-2 : goal.invariant_of-self-2
invariant_of-self-2 c =
    let s = c.self.inside.store in
    let t = c.element.new.self in
    let es = entries_of c.self.inside.nodes.items in
    let h = c.self.invariant in
    let made = c.in_ok-entry.ensures.made in
    rw (c.add_node.ensures.entries, c.add_node.ensures.links, c.in_ok-reserve.ensures.items)
    (held _ t _ _ _ (data-pushed s t es _ _ c.element.ensures.grown h.stored made)
    (IsKept-with_node _ _ _ _ h.kept c.requires) (AreStored-pushed s t es _ _ c.element.ensures.grown h.stored made))

pub returns-clause-ok : goal.returns-clause-ok
returns-clause-ok c =
    let s = c.self.inside.store in
    let t = c.element.new.self in
    let es = entries_of c.self.inside.nodes.items in
    let h = c.self.invariant in
    let made = c.in_ok-entry.ensures.made in
    rw (← c.self.view_is, c.add_node.ensures.entries, c.add_node.ensures.links, c.in_ok-reserve.ensures.items)
    (held-shown _ t _ _ _ (data-pushed s t es _ _ c.element.ensures.grown h.stored made) (IsKept-with_node _ _ _ _ h.kept c.requires))

pub invariant_of-self-in_err-entry : goal.invariant_of-self-in_err-entry
invariant_of-self-in_err-entry c =
    let s = c.self.inside.store in
    let t = c.element.new.self in
    let es = entries_of c.self.inside.nodes.items in
    rw c.in_ok-reserve.ensures.items
    (held _ t es _ _ (data-grown s t es c.element.ensures.grown c.self.invariant.stored) c.self.invariant.kept
    (AreStored-grown s t es c.element.ensures.grown c.self.invariant.stored))

pub returns-in_err-entry-clause-err : goal.returns-in_err-entry-clause-err
returns-in_err-entry-clause-err c =
    let s = c.self.inside.store in
    let t = c.element.new.self in
    let es = entries_of c.self.inside.nodes.items in
    OnErr-always c.from_residual-in_err-entry.result
    (rw (← c.self.view_is, c.in_ok-reserve.ensures.items)
    (held-shown _ t es _ _ (data-grown s t es c.element.ensures.grown c.self.invariant.stored) c.self.invariant.kept))
