use Rattle.std.proofs.Common.{◌≡◌, ◌∙◌, ◌<◌, ◌-◌, suc, arith}
use Rattle.markup.specs.Forest.{node_count}
use Rattle.html_forest.proofs.Walked.{depth-below, entered, goes-on, left-behind, next-behind, passed, refused, refused-end}
use Rattle.html_forest.proofs.walk.advance.Goals as goal

pub overflow_add-result : goal.overflow_add-result
overflow_add-result g c =
    let less : c.args.spot.depth < node_count c.args.forest.now = depth-below c.args.forest.now c.requires.is_forest
    c.requires.contents c.args.root c.args.spot.depth c.args.spot.parent c.requires.spot.below in
    let count = c.requires.count in
    omega arith

pub overflow_sub-depth : goal.overflow_sub-depth
overflow_sub-depth g c =
    let deep : c.args.spot.depth ≡ suc (c.args.spot.depth - 1) = goes-on c.args.spot c.requires.goes_on c.in-None.is in
    omega arith

pub returns-in_err-meet-in-Some-clause-advances : goal.returns-in_err-meet-in-Some-clause-advances
returns-in_err-meet-in-Some-clause-advances g c =
    refused c.args.forest.now c.requires.is_forest c.requires.contents g.S.Serializer.step g.S.Serializer.refuses
    c.args.root c.args.spot c.requires.spot (g.S.Serializer.view c.args.serializer.now) (g.S.Serializer.view c.meet.new.serializer)
    c.in-Some.id c.in_err-meet-in-Some.field-0.0 c.from_residual.result c.in-Some.is c.from_residual.ensures.1
    c.in_err-meet-in-Some.ensures.meets

pub returns-then-branch-clause-advances : goal.returns-then-branch-clause-advances
returns-then-branch-clause-advances g c =
    rw (c.first_inside.ensures)
    (entered c.args.forest.now c.requires.is_forest c.requires.contents g.S.Serializer.step g.S.Serializer.refuses
    c.args.root c.args.spot c.requires.spot (g.S.Serializer.view c.args.serializer.now) (g.S.Serializer.view c.meet.new.serializer)
    c.in-Some.id c.in_ok-meet-in-Some.field-0 c.in-Some.is c.in_ok-meet-in-Some.ensures.meets c.if-branch.true)

pub returns-else-branch-clause-advances : goal.returns-else-branch-clause-advances
returns-else-branch-clause-advances g c =
    rw (c.next_sibling.ensures ∙ next-behind c.args.forest.now c.in-Some.id)
    (passed c.args.forest.now c.requires.is_forest c.requires.contents g.S.Serializer.step g.S.Serializer.refuses
    c.args.root c.args.spot c.requires.spot (g.S.Serializer.view c.args.serializer.now) (g.S.Serializer.view c.meet.new.serializer)
    c.in-Some.id c.in_ok-meet-in-Some.field-0 c.in-Some.is c.in_ok-meet-in-Some.ensures.meets c.if-branch.false)

pub returns-in_err-end-in-None-clause-advances : goal.returns-in_err-end-in-None-clause-advances
returns-in_err-end-in-None-clause-advances g c =
    refused-end c.args.forest.now c.requires.is_forest c.requires.contents g.S.Serializer.step
    g.S.Serializer.refuses c.args.root c.args.spot c.requires.spot (g.S.Serializer.view c.args.serializer.now)
    (g.S.Serializer.view c.end.new.serializer)
    (c.args.spot.depth - 1) c.in_err-end-in-None.field-0.0 c.from_residual-in_err-end-in-None.result c.in-None.is
    (goes-on c.args.spot c.requires.goes_on c.in-None.is) c.from_residual-in_err-end-in-None.ensures.1 c.in_err-end-in-None.ensures.ends

pub returns-in_ok-end-in-None-clause-advances : goal.returns-in_ok-end-in-None-clause-advances
returns-in_ok-end-in-None-clause-advances g c =
    rw (c.up.ensures, c.next_sibling-in-None.ensures ∙ next-behind c.args.forest.now c.args.spot.parent)
    (left-behind c.args.forest.now c.requires.is_forest c.requires.contents g.S.Serializer.step
    g.S.Serializer.refuses c.args.root c.args.spot c.requires.spot (g.S.Serializer.view c.args.serializer.now)
    (g.S.Serializer.view c.end.new.serializer)
    (c.args.spot.depth - 1) c.in-None.is (goes-on c.args.spot c.requires.goes_on c.in-None.is) c.in_ok-end-in-None.ensures.ends)
