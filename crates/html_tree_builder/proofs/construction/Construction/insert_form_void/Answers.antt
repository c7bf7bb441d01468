use Rattle.std.proofs.Common.{refl, sym, ◌∙◌, ap, Some}
use Rattle.html_rules.specs.Actions.{for_tag, insert_form_void}
use Rattle.html_rules.specs.Places.{insert_and_pop_element_for}
use Rattle.html_rules.specs.State.{State}
use Rattle.html_tree_builder.specs.States.{state_of}
use Rattle.html_tree_builder.specs.Told.{token_of}
use Rattle.html_tree_builder.proofs.Fields.{left_of}
use Rattle.html_tree_builder.proofs.construction.Construction.insert_form_void.Goals as goal

pub returns-clause-ok : goal.returns-clause-ok
returns-clause-ok g c = λ a.
    rw (← c.self.view_is)
    (let s : State = state_of a (left_of c.self.view_is) (g.Sink.TreeSink.forest c.args.sink.now) in
    let put : State = insert_and_pop_element_for c.in-Tag.tag.now s in
    ap (λ (r : State). record r { form_elem = Some (g.Sink.TreeSink.node c.in_ok-form.form) })
    (c.in_ok-form.ensures.ok s refl ∙ ap (λ tag. insert_and_pop_element_for tag s) c.in_ok-tag.ensures.ok)
    ∙ ap (λ n. record put { form_elem = Some n }) c.in_ok-form.ensures.named
    ∙ ap (λ x. for_tag insert_form_void (token_of x) s) (sym c.in-Tag.is))
