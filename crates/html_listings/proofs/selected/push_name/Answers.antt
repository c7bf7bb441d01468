use Rattle.std.proofs.Common.{◌≡◌, ◌∙◌, ◌++◌, List, Some, ap, subst, sym, ℕ}
use Rattle.std.specs.Option.{option_copied}
use Rattle.std.specs.Prelude.{OnOk}
use Rattle.std.specs.String.{string_bytes}
use Rattle.markup.specs.Forest.{data_of, element_name}
use Rattle.html_extracts.proofs.Spelled.{bytes_of}
use Rattle.html_listings.specs.Json.{string_of}
use Rattle.html_listings.specs.Selected.{json_name}
use Rattle.html_listings.proofs.selected.push_name.Goals as goal

pub returns-in-Some : goal.returns-in-Some
returns-in-Some c =
    let named : Some c.in-Some.name.now ≡ element_name (data_of c.args.forest.now c.args.id) =
    sym (ap option_copied c.in-Some.is) ∙ c.element_name.ensures in
    let name = ap string_of (bytes_of c.as_str.result.now _ c.as_str.utf8 c.as_str.ensures) ∙ ap json_name named in
    subst (λ (bytes : List ℕ). OnOk c.push_string.result (string_bytes c.push_string.new.json ≡ string_bytes c.args.line.now ++ bytes)) name
    c.push_string.ensures
