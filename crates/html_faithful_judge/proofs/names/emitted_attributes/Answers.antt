use Rattle.std.proofs.Common.{◌≡◌, ◌∙◌, ◌+◌, ◌++◌, ◌∷◌, [], Bool, List, map, take, drop, sym, ap, ap₂}
use Rattle.std.specs.Prelude.{◌&&◌, not, Some, None}
use Rattle.markup.specs.Attributes.{has_local_name}
use Rattle.markup.specs.declared.attributes.Attribute.{Attribute}
use Rattle.html_rules.specs.Choice.{choose}
use Rattle.html_faithful.specs.Forms.{are_told, told_attribute}
use Rattle.html_faithful_judge.specs.Texts.{is_kept_attribute}
use Rattle.html_faithful_judge.proofs.Emitted.{emitted-at, emitted-next, kept-joined, kept-refused}
use Rattle.html_faithful_judge.proofs.names.emitted_attributes.Goals as goal

abbrev joins : List Attribute → Attribute → Bool
joins front a = is_kept_attribute a && not (has_local_name a.name.local front)

pub returns-then-not-may_join-clause-ok : goal.returns-then-not-may_join-clause-ok
returns-then-not-may_join-clause-ok c =
    let l = c.args.attributes.now in
    let i = c.loop-attribute.attribute-index in
    let x = c.attribute-item.result in
    let may : c.may_join.result ≡ joins (map told_attribute (take i l)) (told_attribute x) =
    c.may_join.ensures ∙ ap₂ joins c.loop-attribute.invariant.0 c.in_ok-attribute.ensures.ok in
    sym (ap (λ b. choose b (λ _. Some (map told_attribute l)) (λ _. None))
    (ap are_told (emitted-at l i x c.loop-attribute-test.true (sym c.attribute-item.is))
    ∙ kept-refused (map told_attribute (take i l)) (told_attribute x) (map told_attribute (drop (i + 1) l)) c.may_join.result may
    c.if-not-may_join.true))

pub loop-attribute-preserved : goal.loop-attribute-preserved
loop-attribute-preserved c =
    let l = c.args.attributes.now in
    let i = c.loop-attribute.attribute-index in
    let x = c.attribute-item.result in
    let may : c.may_join.result ≡ joins (map told_attribute (take i l)) (told_attribute x) =
    c.may_join.ensures ∙ ap₂ joins c.loop-attribute.invariant.0 c.in_ok-attribute.ensures.ok in
    let more = emitted-next l i x c.loop-attribute-test.true (sym c.attribute-item.is) in (
      c.in_ok-push.ensures.ok ∙ (ap₂ (λ front a. front ++ a ∷ []) c.loop-attribute.invariant.0 c.in_ok-attribute.ensures.ok ∙ sym more),
      ap are_told more ∙ kept-joined (map told_attribute (take i l)) (told_attribute x) c.may_join.result c.loop-attribute.invariant.1 may
          c.if-not-may_join.false,
    )
