use Rattle.std.proofs.Common.{◌≡◌, ◌∙◌, ◌<◌, true, false, ap, length, refl, sym}
use Rattle.std.proofs.lemmas.Bool.{ltb-true}
use Rattle.markup.specs.Forest.{data_of, template_of}
use Rattle.html_forest.specs.Views.{forest_view}
use Rattle.html_forest.proofs.Answers.{about-here, template-is}
use Rattle.html_forest.proofs.forest.Forest.template_contents.Goals as goal

pub returns-then-is_template : goal.returns-then-is_template
returns-then-is_template c =
    let s = c.self.inside.store in
    let f = forest_view s c.self.inside.nodes.items c.self.inside.quirks c.self.inside.errors in
    let found = rw (c.deref.ensures.value, c.number.ensures) at c.in-Some.ensures.lookup in
    let there : c.args.id < length c.self.inside.nodes.items = ltb-true _ _ (sym found.0) in
    let template : template_of (data_of f c.args.id) ≡ true =
    sym (ap template_of (about-here f s _ _ _ c.self.invariant.kept there found.1))
    ∙ (sym (template-is s c.in-Some.node.now.entry) ∙ (sym c.is_template.ensures ∙ c.if-is_template.true)) in
    rw (← c.self.view_is, c.new.ensures, c.number-then-is_template.ensures, template) refl

pub returns-else-is_template : goal.returns-else-is_template
returns-else-is_template c =
    let s = c.self.inside.store in
    let f = forest_view s c.self.inside.nodes.items c.self.inside.quirks c.self.inside.errors in
    let found = rw (c.deref.ensures.value, c.number.ensures) at c.in-Some.ensures.lookup in
    let there : c.args.id < length c.self.inside.nodes.items = ltb-true _ _ (sym found.0) in
    let plain : template_of (data_of f c.args.id) ≡ false =
    sym (ap template_of (about-here f s _ _ _ c.self.invariant.kept there found.1))
    ∙ (sym (template-is s c.in-Some.node.now.entry) ∙ (sym c.is_template.ensures ∙ c.if-is_template.false)) in
    rw (← c.self.view_is, plain) refl
