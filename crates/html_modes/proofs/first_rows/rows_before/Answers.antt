use Rattle.std.proofs.Common.{◌∙◌, length, slice_index, ap, arith}
use Rattle.html_modes.proofs.FirstRows.{noted-at, noted-length}
use Rattle.html_modes.proofs.first_rows.rows_before.Goals as goal

pub bounds-places-family_of : goal.bounds-places-family_of
bounds-places-family_of c = omega (arith, ap length c.places.ensures, noted-length c.args.kind c.args.mode, c.family_of.ensures.within)

pub returns : goal.returns
returns c = c.from.ensures ∙ ap (λ xs. slice_index xs c.family_of.result) c.places.ensures
    ∙ noted-at c.args.kind c.args.mode c.family_of.result _ c.family_of.ensures
