use Rattle.std.proofs.Common.{◌∙◌, length, slice_index, sym, ap, arith}
use Rattle.html_modes.proofs.FirstRows.{known-family, known-inside}
use Rattle.html_modes.proofs.first_rows.family_of.Goals as goal

pub bounds-families-from : goal.bounds-families-from
bounds-families-from c =
    let inside = known-inside c.in-Some.known.place (rw c.in-Some.is at c.requires) in
    omega (arith, inside, ap length c.families.ensures, c.from.ensures)

pub returns-in-Some : goal.returns-in-Some
returns-in-Some c =
    rw c.in-Some.is (known-family c.in-Some.known.place c.from-in-Some.result (rw c.in-Some.is at c.requires)
    (ap (λ xs. slice_index xs c.in-Some.known.place) (sym c.families.ensures)
    ∙ ap (slice_index c.families.result.now) (sym c.from.ensures) ∙ sym c.from-in-Some.ensures))
