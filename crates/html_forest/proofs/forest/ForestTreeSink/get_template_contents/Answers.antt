use Rattle.std.proofs.Common.{◌∙◌}
use Rattle.html_forest.proofs.forest.ForestTreeSink.get_template_contents.Goals as goal

pub unreachable-requires : goal.unreachable-requires
unreachable-requires c =
    let named = rw (← c.self.view_is) at c.requires in
    let template = c.self.invariant.kept.has_contents.templates c.args.target.now ∙ named in
    let none = rw (← c.self.view_is, template) at c.in-None.ensures in
    absurd (cc)
