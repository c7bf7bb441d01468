use Rattle.std.proofs.Common.{codes}
use Rattle.html_extracts.proofs.Listing.{written-behind}
use Rattle.html_listings.specs.Selected.{html_of}
use Rattle.html_listings.proofs.selected.put_html_line.Goals as goal

pub returns : goal.returns
returns g c = written-behind _ _ _ (html_of c.args.forest.now c.args.id) (codes "\n") c.put.result c.in_ok-put_html.ensures c.put.ensures
