use Rattle.std.proofs.Common.{◌≡◌, ◌∙◌, ℕ, List, Bool, true, false, cond, Option, Some, None, ap, sym, refl, codes, encode_utf8_all}
use Rattle.std.specs.Option.{option_copied}
use Rattle.markup.specs.Forest.{data_of, element_name}
use Rattle.html_nodes.specs.Looks.{attribute_of}
use Rattle.html_extracts.specs.Links as spec
use Rattle.html_extracts.specs.Links.{link_named}
use Rattle.html_extracts.proofs.Spelled.{bytes_of}
use Rattle.html_extracts.proofs.links.link_of.Goals as goal

by_href : (html href source : Bool) (in_href in_source : Option (List ℕ)) → html ≡ true → href ≡ true
    → in_href ≡ cond html (cond href in_href (cond source in_source None)) None
by_href html href source in_href in_source is_html has = rw (is_html, has) refl

by_source : (html href source : Bool) (in_href in_source : Option (List ℕ)) → html ≡ true → href ≡ false → source ≡ true
    → in_source ≡ cond html (cond href in_href (cond source in_source None)) None
by_source html href source in_href in_source is_html not_href has = rw (is_html, not_href, has) refl

by_none : (html href source : Bool) (in_href in_source : Option (List ℕ)) → html ≡ true → href ≡ false → source ≡ false
    → None ≡ cond html (cond href in_href (cond source in_source None)) None
by_none html href source in_href in_source is_html not_href not_source = rw (is_html, not_href, not_source) refl

pub returns-then-has_href : goal.returns-then-has_href
returns-then-has_href c =
    let f = c.args.forest.now in
    let href = attribute_of f c.args.id (codes "href") in
    let src = attribute_of f c.args.id (codes "src") in
    let local = bytes_of c.as_str.result.now _ c.as_str.utf8 c.as_str.ensures in
    let named : Some c.in_ok-name.name.now ≡ element_name (data_of f c.args.id) =
    sym (ap option_copied c.in_ok-name.was) ∙ c.element_name.ensures in
    c.attribute_of.ensures
    ∙ (by_href _ _ (spec.has_source (encode_utf8_all c.in_ok-name.name.now.local)) href src
    (sym c.is_known.ensures ∙ c.if-not-is_known.false) (ap spec.has_href (sym local) ∙ (sym c.has_href.ensures ∙ c.if-has_href.true))
    ∙ ap (λ name. link_named name f c.args.id) named)

pub returns-then-has_source : goal.returns-then-has_source
returns-then-has_source c =
    let f = c.args.forest.now in
    let href = attribute_of f c.args.id (codes "href") in
    let src = attribute_of f c.args.id (codes "src") in
    let local = bytes_of c.as_str.result.now _ c.as_str.utf8 c.as_str.ensures in
    let local_again = bytes_of c.as_str-2.result.now _ c.as_str-2.utf8 c.as_str-2.ensures in
    let named : Some c.in_ok-name.name.now ≡ element_name (data_of f c.args.id) =
    sym (ap option_copied c.in_ok-name.was) ∙ c.element_name.ensures in
    c.attribute_of-then-has_source.ensures
    ∙ (by_source _ _ _ href src (sym c.is_known.ensures ∙ c.if-not-is_known.false)
    (ap spec.has_href (sym local) ∙ (sym c.has_href.ensures ∙ c.if-has_href.false))
    (ap spec.has_source (sym local_again) ∙ (sym c.has_source.ensures ∙ c.if-has_source.true))
    ∙ ap (λ name. link_named name f c.args.id) named)

pub returns : goal.returns
returns c =
    let f = c.args.forest.now in
    let href = attribute_of f c.args.id (codes "href") in
    let src = attribute_of f c.args.id (codes "src") in
    let local = bytes_of c.as_str.result.now _ c.as_str.utf8 c.as_str.ensures in
    let local_again = bytes_of c.as_str-2.result.now _ c.as_str-2.utf8 c.as_str-2.ensures in
    let named : Some c.in_ok-name.name.now ≡ element_name (data_of f c.args.id) =
    sym (ap option_copied c.in_ok-name.was) ∙ c.element_name.ensures in
    by_none _ _ _ href src (sym c.is_known.ensures ∙ c.if-not-is_known.false)
    (ap spec.has_href (sym local) ∙ (sym c.has_href.ensures ∙ c.if-has_href.false))
    (ap spec.has_source (sym local_again) ∙ (sym c.has_source.ensures ∙ c.if-has_source.false))
    ∙ ap (λ name. link_named name f c.args.id) named
