use Rattle.std.proofs.Common.{◌++◌, codes}
use Rattle.html_extracts.proofs.Listing.{written-behind}
use Rattle.html_listings.specs.Selected.{html_of}
use Rattle.html_listings.proofs.selected.put_html_after.Goals as goal

pub returns : goal.returns
returns g c = written-behind _ _ _ c.args.prefix.now (html_of c.args.forest.now c.args.id ++ codes "\n") c.put_html_line.result
    c.in_ok-put.ensures c.put_html_line.ensures
