use Rattle.std.proofs.Common.{◌≡◌, ◌∙◌, ℕ, Option, Some, ap, arith, subst, sym}
use Rattle.markup.specs.Forest.{parent_of, remove_under}
use Rattle.markup.proofs.Parents.{parent-IsNode}
use Rattle.html_forest.specs.Views.{IsKept, abouts_of, forest_view, links_of}
use Rattle.html_forest.proofs.Answers.{below-count, count-nodes, linked-there}
use Rattle.html_forest.proofs.Kept.{IsKept-removed}
use Rattle.html_forest.proofs.Lists.{length-links_of}
use Rattle.html_forest.proofs.Views.{IsKept-shown, shown}
use Rattle.html_forest.proofs.forest.ForestTreeSink.remove_from_parent.Goals as goal

pub unlink-requires-clause-parent : goal.unlink-requires-clause-parent
unlink-requires-clause-parent c =
    let f = forest_view c.self.inside.store c.self.inside.nodes.items c.self.inside.quirks c.self.inside.errors in
    let stands : parent_of f c.args.target.now ≡ Some c.in-Some.parent = sym (rw (← c.self.view_is) at c.in-Some.ensures) in
    let there = parent-IsNode f c.args.target.now c.in-Some.parent stands in
    omega (arith, count-nodes _ _ c.self.invariant.kept)

pub unlink-requires-clause-previous : goal.unlink-requires-clause-previous
unlink-requires-clause-previous c =
    let f = forest_view c.self.inside.store c.self.inside.nodes.items c.self.inside.quirks c.self.inside.errors in
    rw (c.self.invariant.kept.is_linked c.args.target.now)
    (below-count f c.self.inside.nodes.items _ _ c.self.invariant.kept (omega arith)
    (linked-there f c.self.inside.nodes.items c.args.target.now c.self.invariant.kept).0)

pub unlink-requires-clause-next : goal.unlink-requires-clause-next
unlink-requires-clause-next c =
    let f = forest_view c.self.inside.store c.self.inside.nodes.items c.self.inside.quirks c.self.inside.errors in
    rw (c.self.invariant.kept.is_linked c.args.target.now)
    (below-count f c.self.inside.nodes.items _ _ c.self.invariant.kept (omega arith)
    (linked-there f c.self.inside.nodes.items c.args.target.now c.self.invariant.kept).1)

kept : (c : goal.After-unlink)
    → IsKept (remove_under (forest_view c.self.inside.store c.self.inside.nodes.items c.self.inside.quirks
    c.self.inside.errors) c.args.target.now (Some c.in-Some.parent))
    (abouts_of c.self.inside.store c.self.inside.nodes.items) (links_of c.unlink.new.nodes.items)
kept c =
    let f = forest_view c.self.inside.store c.self.inside.nodes.items c.self.inside.quirks c.self.inside.errors in
    let stands : parent_of f c.args.target.now ≡ Some c.in-Some.parent = sym (rw (← c.self.view_is) at c.in-Some.ensures) in
    subst (λ (o : Option ℕ). IsKept (remove_under f c.args.target.now o)
    (abouts_of c.self.inside.store c.self.inside.nodes.items) (links_of c.unlink.new.nodes.items)) stands
    (IsKept-removed f _ _ _ c.args.target.now c.in-Some.parent c.self.invariant.kept stands
    (omega (arith, length-links_of c.self.inside.nodes.items, length-links_of c.unlink.new.nodes.items, c.unlink.ensures.len))
    c.unlink.ensures.links)

pub invariant_of-self : goal.invariant_of-self
invariant_of-self c = rw c.unlink.ensures.entries (record { kept = IsKept-shown _ _ _ (kept c); stored = c.self.invariant.stored })

pub returns-in-Some : goal.returns-in-Some
returns-in-Some c =
    let f = forest_view c.self.inside.store c.self.inside.nodes.items c.self.inside.quirks c.self.inside.errors in
    let stands : parent_of f c.args.target.now ≡ Some c.in-Some.parent = sym (rw (← c.self.view_is) at c.in-Some.ensures) in
    rw (← c.self.view_is, c.unlink.ensures.entries)
    (shown _ _ _ (kept c) ∙ ap (λ (o : Option ℕ). remove_under f c.args.target.now o) (sym stands))
