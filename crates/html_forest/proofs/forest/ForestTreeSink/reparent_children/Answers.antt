use Rattle.std.proofs.Common.{◌≡◌, ◌≢◌, ◌∙◌, ℕ, List, ap, arith, subst, sym}
use Rattle.markup.specs.Forest.{reparent_children}
use Rattle.markup.proofs.Reparented.{reparent_children-same}
use Rattle.html_forest.specs.Links.{link_at, moved_after}
use Rattle.html_forest.specs.Views.{IsKept, abouts_of, forest_view, links_of}
use Rattle.html_forest.proofs.Answers.{below-count, ends-there}
use Rattle.html_forest.proofs.Moved.{IsKept-reparented}
use Rattle.html_forest.proofs.Lists.{length-links_of}
use Rattle.html_forest.proofs.Views.{IsKept-shown, children-shown, follow-children, shown}
use Rattle.html_forest.proofs.forest.ForestTreeSink.reparent_children.Goals as goal

pub move_children-requires-clause-walk : goal.move_children-requires-clause-walk
move_children-requires-clause-walk c = follow-children _ _ _ c.self.invariant.kept c.args.from.now

pub move_children-requires-clause-first : goal.move_children-requires-clause-first
move_children-requires-clause-first c =
    let f = forest_view c.self.inside.store c.self.inside.nodes.items c.self.inside.quirks c.self.inside.errors in
    rw (c.self.invariant.kept.is_linked c.args.from.now)
    (below-count f c.self.inside.nodes.items _ _ c.self.invariant.kept (omega arith)
    (ends-there f c.self.inside.nodes.items c.args.from.now c.self.invariant.kept).0)

pub move_children-requires-clause-tail : goal.move_children-requires-clause-tail
move_children-requires-clause-tail c =
    let f = forest_view c.self.inside.store c.self.inside.nodes.items c.self.inside.quirks c.self.inside.errors in
    rw (c.self.invariant.kept.is_linked c.args.to.now)
    (below-count f c.self.inside.nodes.items _ _ c.self.invariant.kept (omega arith)
    (ends-there f c.self.inside.nodes.items c.args.to.now c.self.invariant.kept).1)

kept : (c : goal.After-move_children)
    → IsKept (reparent_children (forest_view c.self.inside.store c.self.inside.nodes.items c.self.inside.quirks
    c.self.inside.errors) c.args.from.now c.args.to.now)
    (abouts_of c.self.inside.store c.self.inside.nodes.items) (links_of c.move_children.new.nodes.items)
kept c =
    let f = forest_view c.self.inside.store c.self.inside.nodes.items c.self.inside.quirks c.self.inside.errors in
    let ls = links_of c.self.inside.nodes.items in
    let from = rw (← c.self.view_is) at c.requires.from in
    let to = rw (← c.self.view_is) at c.requires.to in
    let apart = rw (← c.self.view_is) at c.requires.apart in
    let other : c.args.from.now ≢ c.args.to.now = λ same. c.if-number.true (c.number.ensures ∙ (same ∙ sym c.number-2.ensures)) in
    IsKept-reparented f _ ls _ c.args.from.now c.args.to.now c.self.invariant.kept from to apart other
    (omega (arith, length-links_of c.self.inside.nodes.items, length-links_of c.move_children.new.nodes.items, c.move_children.ensures.len))
    (λ n. c.move_children.ensures.links n
    ∙ ap (λ (ns : List ℕ). moved_after c.args.from.now c.args.to.now (link_at ls c.args.to.now).last
    (link_at ls c.args.from.now).first (link_at ls c.args.from.now).last ns n (link_at ls n))
    (children-shown f ls c.self.invariant.kept.is_forest c.self.invariant.kept.count_links
    c.self.invariant.kept.is_linked c.args.from.now))

pub invariant_of-self : goal.invariant_of-self
invariant_of-self c = rw c.move_children.ensures.entries (record { kept = IsKept-shown _ _ _ (kept c); stored = c.self.invariant.stored })

pub returns-then-number-clause-ok : goal.returns-then-number-clause-ok
returns-then-number-clause-ok c = rw (← c.self.view_is, c.move_children.ensures.entries) (shown _ _ _ (kept c))

pub returns-else-number-clause-ok : goal.returns-else-number-clause-ok
returns-else-number-clause-ok c =
    let same : c.args.from.now ≡ c.args.to.now = sym c.number.ensures ∙ (c.if-number.false ∙ c.number-2.ensures) in
    subst (λ (n : ℕ). c.args.self.now ≡ reparent_children c.args.self.now c.args.from.now n) same
    (sym (reparent_children-same c.args.self.now c.args.from.now c.requires.from))
