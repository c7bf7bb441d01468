use Rattle.std.proofs.Common.{length}
use Rattle.std.specs.List.{flat_map}
use Rattle.std.specs.String.{string_bytes}
use Rattle.html_extracts.proofs.Listing.{written-behind}
use Rattle.html_listings.specs.Selected.{count_line, element_text}
use Rattle.html_listings.proofs.selected.put_all.Goals as goal

pub returns : goal.returns
returns g c =
    let page = c.args.page.now in
    written-behind _ _ _ (flat_map (element_text c.args.show.now page.forest.now page.file.now (string_bytes page.prefix)) c.args.found.now)
    (count_line c.args.show.now (string_bytes page.prefix) (length c.args.found.now)) c.put_count.result c.in_ok-put_elements.ensures
    (rw c.as_str.ensures.value at c.put_count.ensures)
