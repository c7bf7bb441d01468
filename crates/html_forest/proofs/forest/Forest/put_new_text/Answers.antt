use Rattle.markup.proofs.Forests.{IsMade-with_node, IsParent-place}
use Rattle.markup.proofs.PutTexts.{IsPlace-with_node}
use Rattle.std.proofs.Common.{refl}
use Rattle.markup.specs.Forest.NodeData.{Text}
use Rattle.html_forest.proofs.forest.Forest.put_new_text.Goals as goal

pub put-requires-clause-place : goal.put-requires-clause-place
put-requires-clause-place c =
    let place = rw (← c.self.view_is) at c.requires in
    rw (c.in_ok-made.ensures.ok, ← c.self.view_is) (IsPlace-with_node _ _ _ c.self.invariant.kept.is_forest refl place)

pub put-requires-clause-child : goal.put-requires-clause-child
put-requires-clause-child c =
    let place = rw (← c.self.view_is) at c.requires in
    let made = IsMade-with_node _ (Text c.args.text) c.self.invariant.kept.is_forest refl in
    rw (c.in_ok-made.ensures.ok, c.in_ok-made.ensures.named, ← c.self.view_is)
    (made.loose _ (IsParent-place _ _ c.self.invariant.kept.is_forest place).there)
