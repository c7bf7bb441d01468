use Rattle.std.proofs.Common.{false, sym}
use Rattle.std.specs.Option.{option_copied}
use Rattle.html_pages.specs.Pages.{IsPage}
use Rattle.html_decoded_pages.specs.DecodedPages.{IsDecodedDocument, unmarked}
use Rattle.html_decoded_pages.proofs.Settled.{of-all, of-certain, of-found, text-of-all}
use Rattle.html_decoded_pages.proofs.page.decoded_document.Goals as goal

pub tentative_document-requires-clause-text : goal.tentative_document-requires-clause-text
tentative_document-requires-clause-text c =
    text-of-all c.args.bytes.now (option_copied c.args.label) c.args.fallback c.in_ok-decoded.sniffed c.in_ok-decoded.ensures.sniffed
    c.in_ok-decoded.decoded (sym c.if-is_tentative.ensures) c.in_ok-decoded.ensures.text

pub returns-then-is_tentative-clause-ok : goal.returns-then-is_tentative-clause-ok
returns-then-is_tentative-clause-ok c =
    of-all c.args.bytes.now (option_copied c.args.label) c.args.fallback c.in_ok-decoded.sniffed c.in_ok-decoded.ensures.sniffed
    (IsDecodedDocument c.args.references) c.tentative_document.result (sym c.if-is_tentative.ensures) c.tentative_document.ensures.ok

pub returns-clause-ok : goal.returns-clause-ok
returns-clause-ok c =
    let found = c.in_ok-decoded.sniffed in
    of-found c.args.bytes.now (option_copied c.args.label) c.args.fallback found c.in_ok-decoded.ensures.sniffed
    (IsDecodedDocument c.args.references) _
    (of-certain (IsPage c.args.references false) c.args.references found (unmarked found c.args.bytes.now) c.in_ok-decoded.decoded
    c.in_ok-decoded.ensures.text c.in_ok-forest.forest (sym c.if-is_tentative.ensures) c.in_ok-forest.ensures.ok)
