use Rattle.std.proofs.Common.{◌≡◌, ◌∙◌, ◌++◌, List, Option, Some, ap, sym, ℕ}
use Rattle.std.specs.Option.{option_map}
use Rattle.std.specs.Str.{chars}
use Rattle.std.specs.String.{string_bytes}
use Rattle.html_nodes.specs.Looks.{attribute_of}
use Rattle.html_listings.specs.Selected.{element_text, line_if}
use Rattle.html_listings.proofs.selected.push_element.Goals as goal

pub returns-in_ok-push_value-in-Text-clause-ok : goal.returns-in_ok-push_value-in-Text-clause-ok
unfolding element_text
returns-in_ok-push_value-in-Text-clause-ok c = λ other.
    let page = c.args.page.now in
    let old = string_bytes c.args.line.now in
    let text = ap chars c.as_str-in-Text.ensures.value ∙ c.in-Ok.ensures.ok in
    c.in_ok-push_value-in-Text.ensures
    ∙ (ap (λ (prefix : List ℕ). old ++ line_if prefix (Some (chars c.as_str-in-Text.result.now))) c.as_str.ensures.value
    ∙ (ap (λ (cs : List ℕ). old ++ line_if (string_bytes page.prefix) (Some cs)) text
    ∙ ap (λ show. old ++ element_text show page.forest.now page.file.now (string_bytes page.prefix) c.args.id) (sym c.in-Text.is)))

pub returns-in_ok-push_value-in-Attribute-clause-ok : goal.returns-in_ok-push_value-in-Attribute-clause-ok
unfolding element_text
returns-in_ok-push_value-in-Attribute-clause-ok c = λ other.
    let page = c.args.page.now in
    let old = string_bytes c.args.line.now in
    let value : Some (chars c.in-Some.value.now) ≡ attribute_of page.forest.now c.args.id (string_bytes c.in-Attribute.local) =
    sym (ap (option_map (λ value. chars value.now)) c.in-Some.is)
    ∙ (c.attribute_of.ensures ∙ ap (attribute_of page.forest.now c.args.id) c.as_str-in-Attribute.ensures.value) in
    c.in_ok-push_value-in-Attribute.ensures
    ∙ (ap (λ (prefix : List ℕ). old ++ line_if prefix (Some (chars c.in-Some.value.now))) c.as_str-in-Some.ensures.value
    ∙ (ap (λ (found : Option (List ℕ)). old ++ line_if (string_bytes page.prefix) found) value
    ∙ ap (λ show. old ++ element_text show page.forest.now page.file.now (string_bytes page.prefix) c.args.id) (sym c.in-Attribute.is)))
