use Rattle.std.proofs.Common.{◌∙◌, length, ap, arith, slice_index_or, None}
use Rattle.html_plain.specs.declared.known_elements.TheConstants.{ELEMENTS}
use Rattle.html_plain.proofs.Names.{as_many, element-at}
use Rattle.html_plain.proofs.known_elements.of.Goals as goal

pub bounds-table-from : goal.bounds-table-from
bounds-table-from c = omega (arith, ap length c.table.ensures, as_many, c.from.ensures, c.requires)

pub returns : goal.returns
returns c = ap (λ l. slice_index_or l c.from.result None) c.table.ensures
    ∙ (ap (λ n. slice_index_or ELEMENTS n None) c.from.ensures ∙ element-at c.args.known.place)
