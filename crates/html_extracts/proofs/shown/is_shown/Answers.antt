use Rattle.std.proofs.Common.{◌≡◌, ◌∙◌, Some, ap, sym}
use Rattle.std.specs.Prelude.{not}
use Rattle.std.specs.Option.{option_copied}
use Rattle.markup.specs.Forest.{data_of, element_name}
use Rattle.html_extracts.specs.Shown as spec
use Rattle.html_extracts.specs.Shown.{is_shown_in, is_shown_under}
use Rattle.html_extracts.proofs.Spelled.{bytes_of}
use Rattle.html_extracts.proofs.shown.is_shown.Goals as goal

pub returns-in-Some-element_name : goal.returns-in-Some-element_name
returns-in-Some-element_name c =
    let f = c.args.forest.now in
    let local = bytes_of c.as_str.result.now _ c.as_str.utf8 c.as_str.ensures in
    let named : Some c.in-Some-element_name.name.now ≡ element_name (data_of f c.in-Some.parent) =
    sym (ap option_copied c.in-Some-element_name.is) ∙ c.element_name.ensures in
    ap not (c.hides.ensures ∙ ap spec.hides local) ∙ (ap is_shown_in named ∙ ap (is_shown_under f) (sym c.in-Some.is ∙ c.parent.ensures))
