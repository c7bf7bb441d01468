use Rattle.std.proofs.Common.{◌∙◌, Option, List, ℕ, refl, sym, ap}
use Rattle.std.proofs.lemmas.Result.{on_ok_weaker}
use Rattle.html_inner_text.specs.Items.{text_items}
use Rattle.html_inner_text.specs.InnerText.{run}
use Rattle.html_inner_text.specs.Walk.{IsEntered}
use Rattle.html_inner_text.proofs.Walking.{holder-taken, leaf-taken}
use Rattle.html_inner_text.proofs.walk.Walk.take.Goals as goal

pub returns-then-holds_children-clause-ok : goal.returns-then-holds_children-clause-ok
returns-then-holds_children-clause-ok c =
    on_ok_weaker c.enter.result
    (λ (e : IsEntered c.args.forest.now c.args.id c.args.self.now c.enter.new.self).
    holder-taken c.args.forest.now c.requires.is_forest c.requires.contents c.args.self.now c.enter.new.self c.args.id
    (sym c.holds_children.ensures ∙ c.if-holds_children.true) e)
    c.enter.ensures.ok

pub returns-clause-ok : goal.returns-clause-ok
returns-clause-ok c =
    let old = c.args.self.now in
    on_ok_weaker c.write_text.result
    (λ w. leaf-taken c.args.forest.now c.requires.is_forest c.requires.contents old
    (record old { writer = c.write_text.new.self }) c.args.id
    (sym c.holds_children.ensures ∙ c.if-holds_children.false)
    (w ∙ ap (λ (text : Option (List ℕ)). run old.writer (text_items old.style text)) c.text_of.ensures) refl refl)
    c.write_text.ensures.ok
