use Rattle.std.proofs.Common.{◌∙◌, refl, sym}
use Rattle.markup.specs.Calls.{calls_of}
use Rattle.markup.specs.Trees.{inner_of, trees_of}
use Rattle.html_forest.specs.Walk.{calls_left}
use Rattle.html_forest.proofs.Walked.{ahead-all, ahead-more, ahead-none, ahead-stopped, end-left, first-left, first-spot, walks-stopped}
use Rattle.html_forest.proofs.walk.walk.Goals as goal

pub turns-init : goal.turns-init
turns-init g c =
    let f = c.args.forest.now in
    let root = c.args.root in
    rw (c.first_inside.ensures)
    (record {
      spot = first-spot f c.requires.is_forest c.requires.contents root;
      ahead = ahead-none g.S.Serializer.step g.S.Serializer.refuses (g.S.Serializer.view c.args.serializer.now)
          (calls_of (trees_of f (inner_of f root))) _ (first-left f c.requires.is_forest c.requires.contents root);
      same_references = refl;
    })

pub returns-in_err-spot-clause-walks : goal.returns-in_err-spot-clause-walks
returns-in_err-spot-clause-walks g c =
    let step = g.S.Serializer.step in
    let refuses = g.S.Serializer.refuses in
    let f = c.args.forest.now in
    let root = c.args.root in
    let old = g.S.Serializer.view c.args.serializer.now in
    let mid = g.S.Serializer.view c.turns.serializer in
    let new = g.S.Serializer.view c.advance.new.serializer in
    let calls = calls_of (trees_of f (inner_of f root)) in
    walks-stopped step refuses old new calls c.in_err-spot.field-0.0 c.from_residual.result c.from_residual.ensures.1
    (ahead-stopped step refuses old mid new calls (calls_left f root c.turns.spot) c.in_err-spot.field-0.0
    c.turns.invariant.ahead c.in_err-spot.ensures.advances)

pub turns-preserved : goal.turns-preserved
turns-preserved g c =
    let f = c.args.forest.now in
    let root = c.args.root in
    record {
      spot = c.in_ok-spot.ensures.advances.0;
      ahead = ahead-more g.S.Serializer.step g.S.Serializer.refuses (g.S.Serializer.view c.args.serializer.now)
          (g.S.Serializer.view c.turns.serializer) (g.S.Serializer.view c.advance.new.serializer)
          (calls_of (trees_of f (inner_of f root))) (calls_left f root c.turns.spot)
          (calls_left f root c.in_ok-spot.spot) c.turns.invariant.ahead c.in_ok-spot.ensures.advances.1;
      same_references = c.in_ok-spot.ensures.same_references ∙ c.turns.invariant.same_references;
    }

pub returns-clause-walks : goal.returns-clause-walks
returns-clause-walks g c =
    let f = c.args.forest.now in
    let root = c.args.root in
    ahead-all g.S.Serializer.step g.S.Serializer.refuses (g.S.Serializer.view c.args.serializer.now)
    (g.S.Serializer.view c.turns.serializer) (calls_of (trees_of f (inner_of f root)))
    (calls_left f root c.turns.spot) c.turns.invariant.ahead
    (end-left f c.requires.is_forest c.requires.contents root c.turns.spot (sym c.is_end.ensures ∙ c.turns-test.false))
