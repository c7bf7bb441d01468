use Rattle.std.proofs.Common.{◌≡◌, ◌∙◌, None, Some, codes, refl, sym, ap, subst}
use Rattle.markup.specs.Forest.{data_of, element_name}
use Rattle.html_rules.specs.Adoption.{handle_misnested_a_tags}
use Rattle.html_rules.specs.Formatting.{Listed, last_named}
use Rattle.html_rules.specs.Names.{Html, element_name_of}
use Rattle.html_rules.specs.Stack.{without_number}
use Rattle.html_rules.specs.State.{State}
use Rattle.html_rules_laws.proofs.TreePreserved.AdoptionAgency.{misnested_a-Standing}
use Rattle.html_rules_laws.specs.Soundness.{Standing}
use Rattle.html_stack.specs.Adopting.{IsFormatting}
use Rattle.html_stack.specs.Stacks.{Stacked, entries_of, joined}
use Rattle.html_stack.proofs.Agencies.{error-stands, misnested-ended, misnested-none}
use Rattle.html_stack.proofs.KeptSteps.{kept-by}
use Rattle.html_stack.proofs.Reached.{agency-named, last-listed}
use Rattle.html_stack.proofs.States.{some_state}
use Rattle.html_stack.proofs.stack.Stack.end_misnested_a.Goals as goal

pub returns-in_default-clause-ok : goal.returns-in_default-clause-ok
returns-in_default-clause-ok g c s on =
    let node = g.Sink.TreeSink.node in
    let called = c.requires.name in
    let none : last_named (codes "a") (entries_of node c.self.inside.active_formatting.items) ≡ None =
    rw (called, c.as_slice.ensures.value) at c.in_default.ensures in
    misnested-none (joined s c.args.self.now (g.Sink.TreeSink.forest c.args.sink.now))
    (subst (λ (v : Stacked). last_named (codes "a") v.active_formatting ≡ None) c.self.view_is none)

pub adoption_agency-requires-clause-standing : goal.adoption_agency-requires-clause-standing
adoption_agency-requires-clause-standing g c =
    rw c.parse_error.ensures (error-stands (g.Sink.TreeSink.forest c.args.sink.now) c.args.self.now.open_elems
    c.args.self.now.active_formatting c.requires.standing)

pub remove_named-requires-clause-name : goal.remove_named-requires-clause-name
remove_named-requires-clause-name g c =
    let node = g.Sink.TreeSink.node in
    let f = g.Sink.TreeSink.forest c.args.sink.now in
    let old = c.args.self.now in
    let a : Listed = record { number = node c.in-Some.misnested.node; tag = c.in-Some.ensures.0 } in
    let is : IsFormatting node c.args.name.now c.self.inside.active_formatting.items c.in-Some.misnested.place
    c.in-Some.misnested.node a.tag = rw c.as_slice.ensures.value at c.in-Some.ensures.1 in
    let found : last_named c.args.name.now old.active_formatting ≡ Some a =
    subst (λ (v : Stacked). last_named c.args.name.now v.active_formatting ≡ Some a) c.self.view_is is.found in
    let s : State = some_state c.args.foster in
    let before : State = joined s old (g.Sink.TreeSink.forest c.parse_error.new.self) in
    let stands : Standing before = rw c.parse_error.ensures (error-stands f old.open_elems old.active_formatting c.requires.standing) in
    let after : State = joined s c.adoption_agency.new.self (g.Sink.TreeSink.forest c.adoption_agency.new.sink) in
    subst (λ (t : State). element_name (data_of t.forest a.number) ≡ Some (element_name_of Html c.args.name.now))
    (sym (c.in_ok-adoption_agency.ensures.ok s refl))
    (agency-named c.args.name.now before stands a.number (element_name_of Html c.args.name.now)
    (rw c.parse_error.ensures (last-listed f c.args.name.now old.active_formatting a c.requires.standing.listed found)))

pub returns-clause-ok : goal.returns-clause-ok
returns-clause-ok g c s on =
    let node = g.Sink.TreeSink.node in
    let called = c.requires.name in
    let old = c.args.self.now in
    let n = node c.in-Some.misnested.node in
    let items = c.self.inside.active_formatting.items in
    let a : Listed = record { number = n; tag = c.in-Some.ensures.0 } in
    let is : IsFormatting node (codes "a") items c.in-Some.misnested.place c.in-Some.misnested.node a.tag =
    rw (called, c.as_slice.ensures.value) at c.in-Some.ensures.1 in
    let found : last_named (codes "a") old.active_formatting ≡ Some a =
    subst (λ (v : Stacked). last_named (codes "a") v.active_formatting ≡ Some a) c.self.view_is is.found in
    let left = c.remove_named.ensures.left
    ∙ ap (λ (v : Stacked). record v { open_elems = without_number n v.open_elems }) c.unlist.ensures in
    rw c.remove_named.ensures.same
    (misnested-ended s old c.adoption_agency.new.self c.remove_named.new.self
    (g.Sink.TreeSink.forest c.args.sink.now) (g.Sink.TreeSink.forest c.parse_error.new.self)
    (g.Sink.TreeSink.forest c.adoption_agency.new.sink) a
    found c.parse_error.ensures (rw called at (c.in_ok-adoption_agency.ensures.ok s on)) left)

pub returns-clause-kept : goal.returns-clause-kept
returns-clause-kept g c =
    let node = g.Sink.TreeSink.node in
    let called = c.requires.name in
    let old = c.args.self.now in
    let n = node c.in-Some.misnested.node in
    let items = c.self.inside.active_formatting.items in
    let a : Listed = record { number = n; tag = c.in-Some.ensures.0 } in
    let is : IsFormatting node (codes "a") items c.in-Some.misnested.place c.in-Some.misnested.node a.tag =
    rw (called, c.as_slice.ensures.value) at c.in-Some.ensures.1 in
    let found : last_named (codes "a") old.active_formatting ≡ Some a =
    subst (λ (v : Stacked). last_named (codes "a") v.active_formatting ≡ Some a) c.self.view_is is.found in
    let left = c.remove_named.ensures.left
    ∙ ap (λ (v : Stacked). record v { open_elems = without_number n v.open_elems }) c.unlist.ensures in
    let ended : (s : State) → s.foster_parenting ≡ c.args.foster → joined s c.remove_named.new.self
    (g.Sink.TreeSink.forest c.adoption_agency.new.sink) ≡ handle_misnested_a_tags
    (joined s old (g.Sink.TreeSink.forest c.args.sink.now)) = λ s on.
    misnested-ended s old c.adoption_agency.new.self c.remove_named.new.self
    (g.Sink.TreeSink.forest c.args.sink.now) (g.Sink.TreeSink.forest c.parse_error.new.self)
    (g.Sink.TreeSink.forest c.adoption_agency.new.sink) a
    found c.parse_error.ensures (rw called at (c.in_ok-adoption_agency.ensures.ok s on)) left in
    rw c.remove_named.ensures.same
    (kept-by handle_misnested_a_tags misnested_a-Standing c.args.foster old c.remove_named.new.self
    (g.Sink.TreeSink.forest c.args.sink.now) (g.Sink.TreeSink.forest c.adoption_agency.new.sink) ended c.requires.standing)
