use Rattle.std.proofs.Common.{◌≡◌, ◌∙◌, length, slice_index, ap, refl, arith}
use Rattle.markup.specs.KnownNames.{names}
use Rattle.html_names.specs.SetRows.{html_row}
use Rattle.html_names.specs.declared.set_rows.TheConstants.{HTML_SETS}
use Rattle.html_names.proofs.set_rows.of_html.Goals as goal

as_many : length HTML_SETS ≡ length names
unfolding names
as_many = refl

pub bounds-html_sets-from : goal.bounds-html_sets-from
bounds-html_sets-from c = omega (arith, ap length c.html_sets.ensures, as_many)

pub returns : goal.returns
unfolding html_row
returns c = ap (λ rows. slice_index rows c.from.result) c.html_sets.ensures ∙ ap (λ p. slice_index HTML_SETS p) c.from.ensures
