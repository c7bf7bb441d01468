use Rattle.markup.specs.Calls.{calls_of, ended}
use Rattle.std.proofs.Common.{[], ◌∷◌}
use Rattle.markup.specs.Forest.{data_of, element_name}
use Rattle.markup.specs.Trees.{inner_of, trees_of}
use Rattle.html_forest.proofs.Walked.{ahead-first, first-stopped, node-leaf, node-met, node-refused, walks-ended, walks-stopped}
use Rattle.html_forest.proofs.walk.walk_node.Goals as goal

pub returns-in_err-meet-clause-walks : goal.returns-in_err-meet-clause-walks
returns-in_err-meet-clause-walks g c =
    let step = g.S.Serializer.step in
    let refuses = g.S.Serializer.refuses in
    let f = c.args.forest.now in
    let old = g.S.Serializer.view c.args.serializer.now in
    let new = g.S.Serializer.view c.meet.new.serializer in
    walks-stopped step refuses old new (calls_of (trees_of f (c.args.id ∷ []))) c.in_err-meet.field-0.0
    c.from_residual.result c.from_residual.ensures.1
    (node-refused f c.requires.is_forest c.requires.contents step refuses c.args.id old new c.in_err-meet.field-0.0
    c.in_err-meet.ensures.meets)

pub returns-then-not-branch-clause-walks : goal.returns-then-not-branch-clause-walks
returns-then-not-branch-clause-walks g c =
    node-leaf c.args.forest.now c.requires.is_forest c.requires.contents g.S.Serializer.step g.S.Serializer.refuses
    c.args.id (g.S.Serializer.view c.args.serializer.now) (g.S.Serializer.view c.meet.new.serializer)
    c.in_ok-meet.field-0 c.in_ok-meet.ensures.meets c.if-not-branch.true

pub returns-in_err-walk-clause-walks : goal.returns-in_err-walk-clause-walks
returns-in_err-walk-clause-walks g c =
    let step = g.S.Serializer.step in
    let refuses = g.S.Serializer.refuses in
    let f = c.args.forest.now in
    let old = g.S.Serializer.view c.args.serializer.now in
    let mid = g.S.Serializer.view c.meet.new.serializer in
    let new = g.S.Serializer.view c.walk.new.serializer in
    let calls = calls_of (trees_of f (c.args.id ∷ [])) in
    let met = node-met f c.requires.is_forest c.requires.contents step refuses c.args.id old mid
    c.in_ok-meet.field-0 c.in_ok-meet.ensures.meets c.if-not-branch.false in
    walks-stopped step refuses old new calls c.in_err-walk.field-0.0 c.from_residual-in_err-walk.result
    c.from_residual-in_err-walk.ensures.1
    (first-stopped step refuses old mid new calls (calls_of (trees_of f (inner_of f c.args.id)))
    (ended (element_name (data_of f c.args.id)) []) c.in_err-walk.field-0.0 met c.in_err-walk.ensures.walks)

pub returns-clause-walks : goal.returns-clause-walks
returns-clause-walks g c =
    let step = g.S.Serializer.step in
    let refuses = g.S.Serializer.refuses in
    let f = c.args.forest.now in
    let name = element_name (data_of f c.args.id) in
    let old = g.S.Serializer.view c.args.serializer.now in
    let mid = g.S.Serializer.view c.meet.new.serializer in
    let inner = g.S.Serializer.view c.walk.new.serializer in
    let calls = calls_of (trees_of f (c.args.id ∷ [])) in
    let met = node-met f c.requires.is_forest c.requires.contents step refuses c.args.id old mid
    c.in_ok-meet.field-0 c.in_ok-meet.ensures.meets c.if-not-branch.false in
    walks-ended step refuses old inner (g.S.Serializer.view c.end.new.serializer) calls name c.end.result
    (ahead-first step refuses old mid inner calls (calls_of (trees_of f (inner_of f c.args.id))) (ended name []) met
    c.in_ok-walk.ensures.walks) c.end.ensures.ends
