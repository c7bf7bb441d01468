use Rattle.std.proofs.Common.{refl, subst}
use Rattle.html_rules.specs.Adoption.{adoption_agency}
use Rattle.html_rules_laws.proofs.TreePreserved.AdoptionAgency.{agency-Standing}
use Rattle.html_stack.specs.Adopting.{IsCurrentNewest}
use Rattle.html_stack.specs.Stacks.{Stacked, entries_of, opens_of}
use Rattle.html_stack.proofs.Agencies.{agency-current}
use Rattle.html_stack.proofs.KeptSteps.{kept-by}
use Rattle.html_stack.proofs.stack.Stack.adoption_agency.Goals as goal

pub returns-then-is_current_newest-clause-ok : goal.returns-then-is_current_newest-clause-ok
returns-then-is_current_newest-clause-ok g c s on =
    let node = g.Sink.TreeSink.node in
    let f = g.Sink.TreeSink.forest c.args.sink.now in
    let name = c.args.name.now in
    let here : IsCurrentNewest name (opens_of node c.self.inside.open_elems.items) (entries_of node c.self.inside.active_formatting.items) =
    rw (c.as_slice.ensures.value, c.as_slice-2.ensures.value) at (c.if-is_current_newest.ensures refl) in
    let is : IsCurrentNewest name c.args.self.now.open_elems c.args.self.now.active_formatting =
    subst (λ (v : Stacked). IsCurrentNewest name v.open_elems v.active_formatting) c.self.view_is here in
    rw (c.drop_newest.ensures, c.drop_current.ensures) (agency-current name s f c.args.self.now is)

pub returns-then-is_current_newest-clause-kept : goal.returns-then-is_current_newest-clause-kept
returns-then-is_current_newest-clause-kept g c =
    let f = g.Sink.TreeSink.forest c.args.sink.now in
    kept-by (adoption_agency c.args.name.now) (agency-Standing c.args.name.now) c.args.foster c.args.self.now c.drop_newest.new.self
    f f (returns-then-is_current_newest-clause-ok g c) c.requires.standing
