use Rattle.html_names.proofs.RowsOfSets.{IsRowOf-unknown}
use Rattle.html_names.proofs.element_class.ElementClass.of.Goals as goal

pub returns-in-None : goal.returns-in-None
returns-in-None c space h =
    rw c.in-None.is (record {
      kind = h;
      known = c.in-None.ensures.missing;
      sets = IsRowOf-unknown space c.args.name.now c.in-None.ensures.missing;
    })
