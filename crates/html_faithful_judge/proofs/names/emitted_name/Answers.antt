use Rattle.std.proofs.Common.{◌∙◌, ◌++◌, ap, ap₂, sym}
use Rattle.std.proofs.lemmas.Result.{IfOk-weaker}
use Rattle.std.specs.Str.{chars}
use Rattle.html_faithful.specs.Forms.{is_attribute_name, lowered}
use Rattle.html_faithful_judge.proofs.LoweredNames.{bare-emitted}
use Rattle.html_faithful_judge.proofs.Emitted.{prefix-chars}
use Rattle.html_faithful_judge.proofs.names.emitted_name.Goals as goal

pub returns-clause-ok : goal.returns-clause-ok
returns-clause-ok c =
    IfOk-weaker c.from_str_lowered.result _ _
    (λ made h. h ∙ ap lowered (c.as_str-3.ensures ∙ (c.in_ok-push_str.ensures.ok
    ∙ ap₂ (λ x y. x ++ y) (c.in_ok-written.ensures.ok ∙ (ap chars c.prefix.ensures ∙ prefix-chars c.args.name.now)) c.as_str-2.ensures)))
    c.from_str_lowered.ensures.ok

pub returns-then-is_attribute_name-clause-ok : goal.returns-then-is_attribute_name-clause-ok
returns-then-is_attribute_name-clause-ok c =
    let named = ap is_attribute_name (sym c.as_str.ensures) ∙ (sym c.is_attribute_name.ensures ∙ c.if-is_attribute_name.true) in
    let bare = sym c.is_in_no_namespace.ensures ∙ c.if-is_in_no_namespace.true in
    IfOk-weaker c.copy.result _ _ (λ made h. h ∙ sym (bare-emitted c.args.name.now bare named)) c.copy.ensures.ok
