use Rattle.std.proofs.Common.{◌<◌, ◌∙◌, Some, ap, arith, length, sym}
use Rattle.markup.specs.Forest.{element_name}
use Rattle.markup.specs.declared.names.QualName.{QualName}
use Rattle.html_forest.specs.Entries.{data_in}
use Rattle.html_forest.specs.Views.{forest_view}
use Rattle.html_forest.specs.declared.entry.OwnElement.{OwnElement as Own}
use Rattle.html_forest.proofs.Changed.{stored-node}
use Rattle.html_forest.proofs.Answers.{IsNode-element, about-here, count-nodes, no_name}
use Rattle.html_forest.proofs.forest.ForestTreeSink.elem_name.Goals as goal

pub name-requires : goal.name-requires
name-requires c =
    let named = rw (← c.self.view_is) at c.requires in
    let node = IsNode-element (forest_view c.self.inside.store c.self.inside.nodes.items c.self.inside.quirks
    c.self.inside.errors) c.args.target.now named in
    let there : c.args.target.now < length c.self.inside.nodes.items = omega (arith, count-nodes _ _ c.self.invariant.kept) in
    let read = rw c.number.ensures at c.index.ensures in
    let stored = stored-node c.self.inside.store _ _ _ c.self.invariant.stored there read in
    let less = (rw c.in-Element.is at stored).0 in
    omega (arith, less)

pub unreachable-requires : goal.unreachable-requires
unreachable-requires c =
    let named = rw (← c.self.view_is) at c.requires in
    let node = IsNode-element (forest_view c.self.inside.store c.self.inside.nodes.items c.self.inside.quirks
    c.self.inside.errors) c.args.target.now named in
    let there : c.args.target.now < length c.self.inside.nodes.items = omega (arith, count-nodes _ _ c.self.invariant.kept) in
    let read = rw c.number.ensures at c.index.ensures in
    no_name c.self.inside.store c.index.result.now.entry c.in_default.not-Element c.in_default.not-OwnElement
    (rw (← about-here _ c.self.inside.store _ _ _ c.self.invariant.kept there read) at named)

pub returns-in-Element : goal.returns-in-Element
returns-in-Element c =
    let s = c.self.inside.store in
    let named = rw (← c.self.view_is) at c.requires in
    let node = IsNode-element (forest_view s c.self.inside.nodes.items c.self.inside.quirks c.self.inside.errors) c.args.target.now named in
    let there : c.args.target.now < length c.self.inside.nodes.items = omega (arith, count-nodes _ _ c.self.invariant.kept) in
    let read = rw c.number.ensures at c.index.ensures in
    rw (← c.self.view_is) (ap element_name (sym (about-here _ s _ _ _ c.self.invariant.kept there read)
    ∙ ap (data_in s) c.in-Element.is) ∙ ap (λ (n : QualName). Some n) (sym c.name.ensures))

pub returns-in-OwnElement : goal.returns-in-OwnElement
returns-in-OwnElement c =
    let s = c.self.inside.store in
    let named = rw (← c.self.view_is) at c.requires in
    let node = IsNode-element (forest_view s c.self.inside.nodes.items c.self.inside.quirks c.self.inside.errors) c.args.target.now named in
    let there : c.args.target.now < length c.self.inside.nodes.items = omega (arith, count-nodes _ _ c.self.invariant.kept) in
    let read = rw c.number.ensures at c.index.ensures in
    rw (← c.self.view_is) (ap element_name (sym (about-here _ s _ _ _ c.self.invariant.kept there read)
    ∙ ap (data_in s) c.in-OwnElement.is) ∙ ap (λ (own : Own). Some own.name) (sym c.deref.ensures))
