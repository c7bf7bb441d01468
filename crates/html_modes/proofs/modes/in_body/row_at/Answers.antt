use Rattle.std.proofs.Common.{◌∙◌, ◌-◌, take, drop, arith}
use Rattle.html_rules.specs.Modes.InBody.{in_body}
use Rattle.html_modes.proofs.LentRows.{get-drop, get-part, get-take, got}
use Rattle.html_modes.proofs.modes.in_body.row_at.Goals as goal

pub returns-then-place-lt17 : goal.returns-then-place-lt17
returns-then-place-lt17 c =
    got c.structure.result.now (take 17 in_body) c.args.place c.get.result c.get.ensures.lookup c.structure.ensures
    ∙ get-take 17 in_body c.args.place c.if-place-lt17.true

pub returns-then-place-lt39 : goal.returns-then-place-lt39
returns-then-place-lt39 c =
    got c.blocks-then-place-lt39.result.now (take 22 (drop 17 in_body)) (c.args.place - 17)
    c.get-then-place-lt39.result c.get-then-place-lt39.ensures.lookup c.blocks-then-place-lt39.ensures
    ∙ get-part 22 17 in_body (c.args.place - 17) c.args.place
    (omega (arith, c.if-place-lt17.false, c.if-place-lt39.true)) (omega (arith, c.if-place-lt17.false))

pub returns-then-place-lt59 : goal.returns-then-place-lt59
returns-then-place-lt59 c =
    got c.formatting.result.now (take 20 (drop 39 in_body)) (c.args.place - 39) c.get-then-place-lt59.result
    c.get-then-place-lt59.ensures.lookup c.formatting.ensures
    ∙ get-part 20 39 in_body (c.args.place - 39) c.args.place
    (omega (arith, c.if-place-lt39.false, c.if-place-lt59.true)) (omega (arith, c.if-place-lt39.false))

pub returns-then-place-lt73 : goal.returns-then-place-lt73
returns-then-place-lt73 c =
    got c.content.result.now (take 14 (drop 59 in_body)) (c.args.place - 59) c.get-then-place-lt73.result
    c.get-then-place-lt73.ensures.lookup c.content.ensures
    ∙ get-part 14 59 in_body (c.args.place - 59) c.args.place
    (omega (arith, c.if-place-lt59.false, c.if-place-lt73.true)) (omega (arith, c.if-place-lt59.false))

pub returns-else-place-lt73 : goal.returns-else-place-lt73
returns-else-place-lt73 c =
    got c.rest.result.now (drop 73 in_body) (c.args.place - 73) c.get-else-place-lt73.result
    c.get-else-place-lt73.ensures.lookup c.rest.ensures
    ∙ get-drop 73 in_body (c.args.place - 73) c.args.place (omega (arith, c.if-place-lt73.false))
