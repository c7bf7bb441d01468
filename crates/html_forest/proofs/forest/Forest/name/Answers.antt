use Rattle.std.proofs.Common.{◌<◌, ◌∙◌, Some, ap, arith, length, sym}
use Rattle.std.proofs.lemmas.Bool.{ltb-true}
use Rattle.markup.specs.Forest.{element_name}
use Rattle.markup.specs.declared.names.QualName.{QualName}
use Rattle.html_forest.specs.Entries.{data_in}
use Rattle.html_forest.specs.declared.entry.OwnElement.{OwnElement as Own}
use Rattle.html_forest.proofs.Changed.{stored-node}
use Rattle.html_forest.proofs.Answers.{about-here, unnamed}
use Rattle.html_forest.proofs.forest.Forest.name.Goals as goal

pub name-requires : goal.name-requires
name-requires c =
    let found = rw (c.deref.ensures.value, c.number.ensures) at c.in-Some.ensures.lookup in
    let there : c.args.id < length c.self.inside.nodes.items = ltb-true _ _ (sym found.0) in
    let stored = stored-node c.self.inside.store _ _ _ c.self.invariant.stored there found.1 in
    let less = (rw c.in-Element.is at stored).0 in
    omega (arith, less)

pub returns-in-Element-clause-named : goal.returns-in-Element-clause-named
returns-in-Element-clause-named c =
    let s = c.self.inside.store in
    let found = rw (c.deref.ensures.value, c.number.ensures) at c.in-Some.ensures.lookup in
    let there : c.args.id < length c.self.inside.nodes.items = ltb-true _ _ (sym found.0) in
    rw (← c.self.view_is) (ap element_name (sym (about-here _ s _ _ _ c.self.invariant.kept there found.1)
    ∙ ap (data_in s) c.in-Element.is) ∙ ap (λ (n : QualName). Some n) (sym c.name.ensures))

pub returns-in-OwnElement-clause-named : goal.returns-in-OwnElement-clause-named
returns-in-OwnElement-clause-named c =
    let s = c.self.inside.store in
    let found = rw (c.deref.ensures.value, c.number.ensures) at c.in-Some.ensures.lookup in
    let there : c.args.id < length c.self.inside.nodes.items = ltb-true _ _ (sym found.0) in
    rw (← c.self.view_is) (ap element_name (sym (about-here _ s _ _ _ c.self.invariant.kept there found.1)
    ∙ ap (data_in s) c.in-OwnElement.is) ∙ ap (λ (own : Own). Some own.name) (sym c.deref-in-OwnElement.ensures))

pub returns-in_default : goal.returns-in_default
returns-in_default c =
    let s = c.self.inside.store in
    let found = rw (c.deref.ensures.value, c.number.ensures) at c.in-Some.ensures.lookup in
    let there : c.args.id < length c.self.inside.nodes.items = ltb-true _ _ (sym found.0) in
    record {
      named = tt;
      unnamed = rw (← c.self.view_is)
          (ap element_name (sym (about-here _ s _ _ _ c.self.invariant.kept there found.1))
          ∙ unnamed s c.in-Some.node.now.entry c.in_default.not-Element c.in_default.not-OwnElement);
    }
