use Rattle.std.proofs.Common.{true}
use Rattle.html_pages.specs.Pages.{IsPage}
use Rattle.html_places.specs.declared.noted.NotedForest.{NotedForest}
use Rattle.figpliers_program.proofs.Reading.{made-in-slice}
use Rattle.figpliers_program.proofs.pages.noted_of.Goals as goal

pub returns-in_ok-page-in-Found-clause-ok : goal.returns-in_ok-page-in-Found-clause-ok
returns-in_ok-page-in-Found-clause-ok c =
    let read = c.in_ok-page-in-Found.ensures.ok in
    made-in-slice (λ text (noted : NotedForest). IsPage c.args.table true text noted.forest) c.args.table c.args.reading.now
    c.in-Found.label _ c.as_slice-bytes.result.now
    c.args.bytes.items c.fallback_of-fallback.result c.in_ok-page-in-Found.page c.in-Found.is c.label_bytes.ensures
    c.as_slice-bytes.ensures.value c.fallback_of-fallback.ensures
    (record { sniffed = read.sniffed; encoding = read.encoding; errors = read.errors; content = read.content.0 })
