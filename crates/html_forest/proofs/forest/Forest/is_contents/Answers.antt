use Rattle.std.proofs.Common.{◌∙◌, ◌<◌, ap, length, sym}
use Rattle.std.proofs.lemmas.Bool.{ltb-true}
use Rattle.markup.specs.Forest.{is_contents}
use Rattle.html_forest.specs.Entries.{data_in}
use Rattle.html_forest.specs.Views.{forest_view}
use Rattle.html_forest.proofs.Answers.{about-here, other-than-contents}
use Rattle.html_forest.proofs.forest.Forest.is_contents.Goals as goal

pub returns-in-Contents : goal.returns-in-Contents
returns-in-Contents c =
    let s = c.self.inside.store in
    let f = forest_view s c.self.inside.nodes.items c.self.inside.quirks c.self.inside.errors in
    let found = rw (c.deref.ensures.value, c.number.ensures) at c.in-Some.ensures.lookup in
    let there : c.args.id < length c.self.inside.nodes.items = ltb-true _ _ (sym found.0) in
    rw (← c.self.view_is) (sym
    (ap is_contents (sym (about-here f s _ _ _ c.self.invariant.kept there found.1) ∙ ap (data_in s) c.in-Contents.is)))

pub returns-in_default : goal.returns-in_default
returns-in_default c =
    let s = c.self.inside.store in
    let f = forest_view s c.self.inside.nodes.items c.self.inside.quirks c.self.inside.errors in
    let found = rw (c.deref.ensures.value, c.number.ensures) at c.in-Some.ensures.lookup in
    let there : c.args.id < length c.self.inside.nodes.items = ltb-true _ _ (sym found.0) in
    rw (← c.self.view_is) (sym (ap is_contents (sym (about-here f s _ _ _ c.self.invariant.kept there found.1))
    ∙ other-than-contents s c.in-Some.node.now.entry c.in_default.not-Contents))
