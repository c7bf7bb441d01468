use Rattle.std.proofs.Common.{refl}
use Rattle.html_forest.specs.Views.{entries_of}
use Rattle.html_forest.proofs.Kept.{IsKept-with_node}
use Rattle.html_forest.proofs.Stored.{AreStored-pushed, IsGrown-same, data-pushed, held, held-shown}
use Rattle.html_forest.proofs.forest.ForestTreeSink.create_pi.Goals as goal

pub invariant_of-self-2 : goal.invariant_of-self-2
invariant_of-self-2 c =
    let s = c.self.inside.store in
    let t = s in
    let es = entries_of c.self.inside.nodes.items in
    let h = c.self.invariant in
    let made = c.in_ok-entry.ensures.made in
    rw (c.add_node.ensures.entries, c.add_node.ensures.links, c.in_ok-reserve.ensures.items)
    (held _ t _ _ _ (data-pushed s t es _ _ (IsGrown-same s) h.stored made)
    (IsKept-with_node _ _ _ _ h.kept (record { contents = refl; template = refl; name = refl }))
    (AreStored-pushed s t es _ _ (IsGrown-same s) h.stored made))

pub returns-clause-ok : goal.returns-clause-ok
returns-clause-ok c =
    let s = c.self.inside.store in
    let t = s in
    let es = entries_of c.self.inside.nodes.items in
    let h = c.self.invariant in
    let made = c.in_ok-entry.ensures.made in
    rw (← c.self.view_is, c.add_node.ensures.entries, c.add_node.ensures.links, c.in_ok-reserve.ensures.items)
    (held-shown _ t _ _ _ (data-pushed s t es _ _ (IsGrown-same s) h.stored made)
    (IsKept-with_node _ _ _ _ h.kept (record { contents = refl; template = refl; name = refl })))
