use Rattle.std.proofs.Common.{◌≡◌, ◌∙◌, None, reverse, refl, sym, ap, subst, arith}
use Rattle.std.proofs.lemmas.Result.{IfOk-weaker}
use Rattle.markup.specs.Forest.{node_count}
use Rattle.html_rules.specs.Adoption.{adoption_turn}
use Rattle.html_rules.specs.Formatting.{Listed, last_named}
use Rattle.html_rules.specs.Stack.{process_end_tag_in_body}
use Rattle.html_rules.specs.State.{State}
use Rattle.html_rules_laws.proofs.TreePreserved.StandingSteps.{generic-Standing}
use Rattle.html_rules_laws.specs.Soundness.{IsStanding}
use Rattle.html_stack.specs.Adopting.{IsFormatting}
use Rattle.html_stack.specs.Stacks.{Stacked, entries_of, joined, opens_of}
use Rattle.html_stack.proofs.Agencies.{count-unnamed, named-newest, turn-named, turn-unnamed, turned-kept}
use Rattle.html_stack.proofs.KeptSteps.{kept-always}
use Rattle.html_stack.proofs.States.{some_state}
use Rattle.html_stack.proofs.stack.Stack.adoption_turn.Goals as goal

pub returns-in_default-clause-ok : goal.returns-in_default-clause-ok
returns-in_default-clause-ok g c s on =
    let node = g.Sink.TreeSink.node in
    let name = c.args.name.now in
    let none : last_named name (entries_of node c.self.inside.active_formatting.items) ≡ None =
    rw c.as_slice.ensures.value at c.in_default.ensures in
    turn-unnamed name s c.args.self.now (g.Sink.TreeSink.forest c.args.sink.now) _
    (subst (λ (v : Stacked). last_named name v.active_formatting ≡ None) c.self.view_is none) (c.process_end_tag_in_body.ensures s)

pub returns-in_default-clause-kept : goal.returns-in_default-clause-kept
returns-in_default-clause-kept g c =
    kept-always (process_end_tag_in_body c.args.name.now) (generic-Standing c.args.name.now) c.args.self.now
    c.process_end_tag_in_body.new.self (g.Sink.TreeSink.forest c.args.sink.now)
    (g.Sink.TreeSink.forest c.process_end_tag_in_body.new.sink)
    c.process_end_tag_in_body.ensures c.requires.standing

pub returns-in_default-clause-grows : goal.returns-in_default-clause-grows
returns-in_default-clause-grows g c =
    let s : State = some_state c.args.foster in
    let count = ap (λ (t : State). node_count t.forest) (c.process_end_tag_in_body.ensures s)
    ∙ count-unnamed c.args.name.now (joined s c.args.self.now (g.Sink.TreeSink.forest c.args.sink.now)) in
    omega (arith, count)

pub turn_listed-requires-clause-listed : goal.turn_listed-requires-clause-listed
turn_listed-requires-clause-listed g c =
    let node = g.Sink.TreeSink.node in
    let f = g.Sink.TreeSink.forest c.args.sink.now in
    let name = c.args.name.now in
    let items = c.self.inside.active_formatting.items in
    let tag = c.in-Some.ensures.0 in
    let is : IsFormatting node name items c.in-Some.formatting.place c.in-Some.formatting.node tag =
    rw c.as_slice.ensures.value at c.in-Some.ensures.1 in
    let standing : IsStanding f (opens_of node c.self.inside.open_elems.items) (entries_of node items) =
    subst (λ (v : Stacked). IsStanding f v.open_elems v.active_formatting) (sym c.self.view_is) c.requires.standing in (
      tag,
      record {
        within = is.within;
        entry = is.entry;
        newest = named-newest f name (entries_of node items)
            (record { number = node c.in-Some.formatting.node; tag = tag }) standing.listed is.found;
      },
    )

pub returns-clause-ok : goal.returns-clause-ok
returns-clause-ok g c =
    let node = g.Sink.TreeSink.node in
    let f = g.Sink.TreeSink.forest c.args.sink.now in
    let h = g.Sink.TreeSink.forest c.turn_listed.new.sink in
    let name = c.args.name.now in
    let items = c.self.inside.active_formatting.items in
    let modes = reverse c.self.inside.template_modes.items in
    let ruled : c.self.inside.rules ≡ c.rules-rules.result = ap (λ (v : Stacked). v.rules) c.self.view_is ∙ sym c.rules-rules.ensures in
    let old : Stacked = record {
      open_elems = opens_of node c.self.inside.open_elems.items;
      active_formatting = entries_of node items;
      template_modes = modes;
      rules = c.rules-rules.result;
    } in
    let new : Stacked = record {
      open_elems = opens_of node c.turn_listed.new.elements.items;
      active_formatting = entries_of node c.turn_listed.new.entries.items;
      template_modes = modes;
      rules = c.self.inside.rules;
    } in
    let tag = c.in-Some.ensures.0 in
    let is : IsFormatting node name items c.in-Some.formatting.place c.in-Some.formatting.node tag =
    rw c.as_slice.ensures.value at c.in-Some.ensures.1 in
    let standing : IsStanding f old.open_elems old.active_formatting =
    subst (λ (v : Stacked). IsStanding f v.open_elems v.active_formatting) (sym c.self.view_is) c.requires.standing in
    let fe : Listed = record { number = node c.in-Some.formatting.node; tag = tag } in
    let newest = named-newest f name (entries_of node items) fe standing.listed is.found in
    IfOk-weaker c.turn_listed.result _ _ (λ goes_on turn s on. turn-named c.args.foster name goes_on old new f h fe
    is.found newest refl ruled turn s on ∙ ap (λ v. adoption_turn name (joined s v f)) (ap (λ rules. record old { rules = rules }) (sym ruled) ∙ c.self.view_is)) c.turn_listed.ensures.ok

pub returns-clause-kept : goal.returns-clause-kept
returns-clause-kept g c =
    let node = g.Sink.TreeSink.node in
    let f = g.Sink.TreeSink.forest c.args.sink.now in
    let h = g.Sink.TreeSink.forest c.turn_listed.new.sink in
    let name = c.args.name.now in
    let items = c.self.inside.active_formatting.items in
    let modes = reverse c.self.inside.template_modes.items in
    let ruled : c.self.inside.rules ≡ c.rules-rules.result = ap (λ (v : Stacked). v.rules) c.self.view_is ∙ sym c.rules-rules.ensures in
    let old : Stacked = record {
      open_elems = opens_of node c.self.inside.open_elems.items;
      active_formatting = entries_of node items;
      template_modes = modes;
      rules = c.rules-rules.result;
    } in
    let new : Stacked = record {
      open_elems = opens_of node c.turn_listed.new.elements.items;
      active_formatting = entries_of node c.turn_listed.new.entries.items;
      template_modes = modes;
      rules = c.self.inside.rules;
    } in
    let tag = c.in-Some.ensures.0 in
    let is : IsFormatting node name items c.in-Some.formatting.place c.in-Some.formatting.node tag =
    rw c.as_slice.ensures.value at c.in-Some.ensures.1 in
    let standing : IsStanding f old.open_elems old.active_formatting =
    subst (λ (v : Stacked). IsStanding f v.open_elems v.active_formatting) (sym c.self.view_is) c.requires.standing in
    let fe : Listed = record { number = node c.in-Some.formatting.node; tag = tag } in
    let newest = named-newest f name (entries_of node items) fe standing.listed is.found in
    turned-kept name c.args.foster old new f h c.turn_listed.result
    (IfOk-weaker c.turn_listed.result _ _
    (λ goes_on turn s on. turn-named c.args.foster name goes_on old new f h fe is.found newest refl ruled turn s on)
    c.turn_listed.ensures.ok) c.turn_listed.ensures.kept standing
