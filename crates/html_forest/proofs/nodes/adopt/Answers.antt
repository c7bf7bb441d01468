use Rattle.std.proofs.Common.{◌≡◌, ◌<◌, ℕ, List, ◌∷◌, Option, length, arith, ap, refl, sym, ◌∙◌}
use Rattle.html_forest.specs.Links.{Links, link_at}
use Rattle.html_forest.specs.Views.{links_of, walk_from}
use Rattle.html_forest.proofs.Lists.{length-links_of, link_at-set}
use Rattle.html_forest.proofs.Walks.{IsStep-walk}
use Rattle.html_forest.proofs.Adopting.{IsAdopting-end, IsAdopting-next, at-IsNode, is-none, next-same}
use Rattle.html_forest.proofs.nodes.adopt.Goals as goal

pub links-changed-requires : goal.links-changed-requires
links-changed-requires c =
    let h = rw c.in-Some.is at c.loop-at.invariant in
    let there = at-IsNode _ _ _ _ c.in-Some.child h in
    omega arith

pub set_links-requires : goal.set_links-requires
set_links-requires c =
    let h = rw c.in-Some.is at c.loop-at.invariant in
    let there = at-IsNode _ _ _ _ c.in-Some.child h in
    omega arith

pub loop-at-smaller : goal.loop-at-smaller
loop-at-smaller c =
    let old = c.args.nodes.now.items in
    let h = rw c.in-Some.is at c.loop-at.invariant in
    let step = IsStep-walk old c.in-Some.child h.walk in
    let here : c.node-at.result ≡ (link_at (links_of old) c.in-Some.child).next = c.node-at.ensures
    ∙ (ap (λ (l : Links). l.next) c.links-changed.ensures ∙ next-same _ _ _ _ _ h c.in-Some.child) in
    let goes : walk_from old c.loop-at.at ≡ c.in-Some.child ∷ walk_from old c.node-at.result =
    ap (walk_from old) c.in-Some.is ∙ (step.goes ∙ ap (λ (o : Option ℕ). c.in-Some.child ∷ walk_from old o) (sym here)) in
    omega (arith, ap length goes)

pub loop-at-preserved : goal.loop-at-preserved
loop-at-preserved c =
    let h = rw c.in-Some.is at c.loop-at.invariant in
    let there = at-IsNode _ _ _ _ c.in-Some.child h in
    let now = c.loop-at.nodes.items in
    let less : c.in-Some.child < length (links_of now) = omega (arith, length-links_of now) in
    IsAdopting-next _ _ _ now _ c.in-Some.child c.node-at.result h
    (c.node-at.ensures ∙ ap (λ (l : Links). l.next) c.links-changed.ensures)
    (λ n. ap (λ (ls : List Links). link_at ls n) c.set_links.ensures.links
    ∙ (link_at-set (links_of now) c.in-Some.child _ n less ∙ rw (c.new-changed.ensures, c.links-changed.ensures) refl))
    c.set_links.ensures.entries
    (omega (arith, c.set_links.ensures.len))

pub returns-clause-links : goal.returns-clause-links
returns-clause-links c =
    let none = is-none c.loop-at.at c.in_default.not-Some in
    IsAdopting-end _ _ _ _ (rw (← none) at c.loop-at.invariant)
