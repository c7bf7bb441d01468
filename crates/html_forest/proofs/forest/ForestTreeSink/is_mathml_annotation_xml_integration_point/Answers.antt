use Rattle.std.proofs.Common.{◌<◌, ◌∙◌, ap, arith, length}
use Rattle.markup.specs.Forest.{integration_point_of}
use Rattle.html_forest.proofs.Answers.{about-here, count-nodes, point-is}
use Rattle.html_forest.proofs.forest.ForestTreeSink.is_mathml_annotation_xml_integration_point.Goals as goal

pub returns : goal.returns
returns c =
    let s = c.self.inside.store in
    let node = rw (← c.self.view_is) at c.requires in
    let there : c.args.target.now < length c.self.inside.nodes.items = omega (arith, count-nodes _ _ c.self.invariant.kept) in
    let read = rw c.number.ensures at c.index.ensures in
    rw (← c.self.view_is) (c.may_hold_html.ensures
    ∙ (point-is s c.index.result.now.entry ∙ ap integration_point_of (about-here _ s _ _ _ c.self.invariant.kept there read)))
