use Rattle.std.proofs.Common.{◌∙◌, arith, refl}
use Rattle.markup.proofs.Forests.{IsParent-place}
use Rattle.html_forest.specs.Views.{IsKept, abouts_of, forest_view, links_of, place_view}
use Rattle.markup.specs.Forest.{put}
use Rattle.html_forest.proofs.Answers.{below-count, count-nodes, next-there, previous-there}
use Rattle.html_forest.proofs.Kept.{IsKept-put}
use Rattle.html_forest.proofs.Lists.{length-links_of}
use Rattle.html_forest.proofs.Views.{IsKept-shown, shown}
use Rattle.html_forest.proofs.forest.Forest.put.Goals as goal

pub link_between-requires-clause-parent : goal.link_between-requires-clause-parent
link_between-requires-clause-parent c =
    let place = rw (← c.self.view_is) at c.requires.place in
    let there = (IsParent-place _ _ c.self.invariant.kept.is_forest place).there in
    rw c.around-parent.ensures (omega (arith, count-nodes _ _ c.self.invariant.kept))

pub link_between-requires-clause-previous : goal.link_between-requires-clause-previous
link_between-requires-clause-previous c =
    let f = forest_view c.self.inside.store c.self.inside.nodes.items c.self.inside.quirks c.self.inside.errors in
    rw (c.previous_at-previous.ensures, ← c.self.view_is)
    (below-count f c.self.inside.nodes.items _ _ c.self.invariant.kept (omega arith)
    (previous-there f (place_view c.args.place.now) c.self.invariant.kept.is_forest))

pub link_between-requires-clause-next : goal.link_between-requires-clause-next
link_between-requires-clause-next c =
    let f = forest_view c.self.inside.store c.self.inside.nodes.items c.self.inside.quirks c.self.inside.errors in
    let place = rw (← c.self.view_is) at c.requires.place in
    rw c.around-parent.ensures (below-count f c.self.inside.nodes.items _ _ c.self.invariant.kept (omega arith)
    (next-there f (place_view c.args.place.now) c.self.invariant.kept.is_forest place))

kept : (c : goal.After-link_between)
    → IsKept (put (forest_view c.self.inside.store c.self.inside.nodes.items c.self.inside.quirks
    c.self.inside.errors) (place_view c.args.place.now) c.args.child)
    (abouts_of c.self.inside.store c.self.inside.nodes.items) (links_of c.link_between.new.nodes.items)
kept c =
    let place = rw (← c.self.view_is) at c.requires.place in
    let loose = rw (← c.self.view_is) at c.requires.child in
    IsKept-put _ _ _ _ _ _ c.self.invariant.kept place loose
    (omega (arith, length-links_of c.self.inside.nodes.items, length-links_of c.link_between.new.nodes.items, c.link_between.ensures.len))
    (λ n. c.link_between.ensures.links n ∙ rw (c.around-parent.ensures, c.previous_at-previous.ensures, ← c.self.view_is) refl)

pub invariant_of-self : goal.invariant_of-self
invariant_of-self c = rw c.link_between.ensures.entries (record { kept = IsKept-shown _ _ _ (kept c); stored = c.self.invariant.stored })

pub returns : goal.returns
returns c = rw (← c.self.view_is, c.link_between.ensures.entries) (shown _ _ _ (kept c))
