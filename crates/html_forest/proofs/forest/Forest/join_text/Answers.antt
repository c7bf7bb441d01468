use Rattle.std.proofs.Common.{◌≡◌, Some, arith, sym}
use Rattle.markup.specs.Forest.{data_of, previous_at}
use Rattle.markup.proofs.PutTexts.{previous-IsNode}
use Rattle.html_forest.specs.Views.{about_at, abouts_of, forest_view, place_view}
use Rattle.html_forest.proofs.Answers.{IsKept-either, count-nodes, joined-shown}
use Rattle.html_forest.proofs.forest.Forest.join_text.Goals as goal

pub join_text-requires-clause-there : goal.join_text-requires-clause-there
join_text-requires-clause-there c =
    let f = forest_view c.self.inside.store c.self.inside.nodes.items c.self.inside.quirks c.self.inside.errors in
    let there = previous-IsNode f (place_view c.args.place.now) c.in-Some.previous c.self.invariant.kept.is_forest
    (sym (rw (← c.self.view_is) at c.in-Some.ensures)) in
    omega (arith, count-nodes _ _ c.self.invariant.kept)

pub join_text-requires-clause-stored : goal.join_text-requires-clause-stored
join_text-requires-clause-stored c = c.self.invariant.stored

pub invariant_of-self : goal.invariant_of-self
invariant_of-self c =
    rw c.join_text.ensures.links
    (record {
      kept = IsKept-either c.join_text.result _ _ _ _ c.in-Some.previous c.args.text.now c.self.invariant.kept
          c.join_text.ensures.ok c.join_text.ensures.err;
      stored = c.join_text.ensures.stored;
    })

pub returns-in-Some-clause-joined : goal.returns-in-Some-clause-joined
returns-in-Some-clause-joined c =
    let f = forest_view c.self.inside.store c.self.inside.nodes.items c.self.inside.quirks c.self.inside.errors in
    let before : previous_at f (place_view c.args.place.now) ≡ Some c.in-Some.previous = sym (rw (← c.self.view_is) at c.in-Some.ensures) in
    let is : about_at (abouts_of c.self.inside.store c.self.inside.nodes.items) c.in-Some.previous ≡ data_of f
    c.in-Some.previous = c.self.invariant.kept.is_about c.in-Some.previous in
    rw (← c.self.view_is, before) (rw is at c.join_text.ensures.joined)

pub returns-in-Some-clause-ok : goal.returns-in-Some-clause-ok
returns-in-Some-clause-ok c =
    let f = forest_view c.self.inside.store c.self.inside.nodes.items c.self.inside.quirks c.self.inside.errors in
    let before : previous_at f (place_view c.args.place.now) ≡ Some c.in-Some.previous = sym (rw (← c.self.view_is) at c.in-Some.ensures) in
    rw (← c.self.view_is, before, c.join_text.ensures.links)
    (joined-shown c.join_text.result _ _ _ _ c.in-Some.previous c.args.text.now c.self.invariant.kept c.join_text.ensures.ok)
