use Rattle.std.proofs.Common.{◌≡◌, ◌∙◌, [], ap, get_or, sym}
use Rattle.markup.specs.KnownNames.{names}
use Rattle.html_names.proofs.Renamed.{table-known, table-within}
use Rattle.html_names.proofs.renames.renamed_known.Goals as goal

pub known_name-requires : goal.known_name-requires
known_name-requires c = rw (c.renamed_place-place.ensures, c.table.ensures)
    (table-within c.args.renames c.args.known.place c.requires.within)

pub returns-then-place-known-clause-ok : goal.returns-then-place-known-clause-ok
returns-then-place-known-clause-ok c =
    let moved = rw c.table.ensures at c.renamed_place-place.ensures in
    sym (table-known c.args.renames c.args.known.place c.args.name c.requires
    ∙ (ap (λ p. get_or names p []) (sym moved ∙ c.if-place-known.true) ∙ c.requires.there))

pub returns-else-place-known-clause-ok : goal.returns-else-place-known-clause-ok
returns-else-place-known-clause-ok c =
    let moved = rw c.table.ensures at c.renamed_place-place.ensures in
    c.known_name.ensures ∙ (ap (λ p. get_or names p []) moved ∙ sym (table-known c.args.renames c.args.known.place c.args.name c.requires))
