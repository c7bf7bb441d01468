use Rattle.std.proofs.Common.{ap, refl}
use Rattle.html_pages.specs.Pages.{IsPage}
use Rattle.html_places.specs.declared.noted.NotedForest.{NotedForest}
use Rattle.html_decoded_pages.specs.DecodedPages.{IsNotedPage}
use Rattle.html_decoded_pages.proofs.Parsed.{page-copied, page-other, page-placed}
use Rattle.html_decoded_pages.proofs.noted.parse_noted.Goals as goal

pub returns-in_ok-placed-in-Whole-clause-ok : goal.returns-in_ok-placed-in-Whole-clause-ok
returns-in_ok-placed-in-Whole-clause-ok c =
    let table = c.args.references.now in
    let bytes = c.args.text.now in
    let exact = c.exact_for-exact.result.tokenizer in
    let parsed = rw c.new-pieces.ensures.rest at c.in_ok-parsed.ensures.ok in
    let page = page-copied _ (λ (n : NotedForest). n.forest) (λ sink out gives. ap (λ (n : NotedForest). n.forest) gives) refl exact
    table c.in-Ok.table bytes c.args.encoding c.in_ok-noted.noted.forest c.in_ok-parsed.parsed
    c.in-Ok.ensures.ok c.in_ok-noted.ensures.ok c.utf8.text parsed in
    page-placed table exact bytes c.args.encoding c.in-Whole.built c.in_ok-placed-in-Whole.placed c.exact_for-exact.ensures.tokenizer
    (rw c.in-Whole.is at page) c.in_ok-placed-in-Whole.ensures.forest
    (rw (c.parse_pieces.ensures.text, c.new-pieces.ensures.text) at c.in_ok-placed-in-Whole.ensures.placed)

pub returns-in-Other-clause-ok : goal.returns-in-Other-clause-ok
returns-in-Other-clause-ok c =
    let table = c.args.references.now in
    let bytes = c.args.text.now in
    let exact = c.exact_for-exact.result.tokenizer in
    let parsed = rw c.new-pieces.ensures.rest at c.in_ok-parsed.ensures.ok in
    let page = page-copied _ (λ (n : NotedForest). n.forest) (λ sink out gives. ap (λ (n : NotedForest). n.forest) gives) refl exact
    table c.in-Ok.table bytes c.args.encoding c.in_ok-noted.noted.forest c.in_ok-parsed.parsed
    c.in-Ok.ensures.ok c.in_ok-noted.ensures.ok c.utf8.text parsed in
    page-other (λ text (n : NotedForest). IsPage table exact text n.forest) (IsNotedPage table) table bytes c.args.encoding c.in-Other.other
    (rw c.in-Other.is at page)
