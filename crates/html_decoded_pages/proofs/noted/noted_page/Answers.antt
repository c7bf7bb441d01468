use Rattle.std.proofs.Common.{sym}
use Rattle.std.specs.Option.{option_copied}
use Rattle.html_decoded_pages.specs.DecodedPages.{IsDecodedNoted, IsNotedPage, unmarked}
use Rattle.html_decoded_pages.proofs.Settled.{of-all, of-certain, of-found, text-of-all}
use Rattle.html_decoded_pages.proofs.noted.noted_page.Goals as goal

pub tentative_noted-requires-clause-text : goal.tentative_noted-requires-clause-text
tentative_noted-requires-clause-text c =
    text-of-all c.args.bytes.now (option_copied c.args.label) c.args.fallback c.in_ok-decoded.sniffed c.in_ok-decoded.ensures.sniffed
    c.in_ok-decoded.decoded (sym c.if-is_tentative.ensures) c.in_ok-decoded.ensures.text

pub returns-then-is_tentative-clause-ok : goal.returns-then-is_tentative-clause-ok
returns-then-is_tentative-clause-ok c =
    of-all c.args.bytes.now (option_copied c.args.label) c.args.fallback c.in_ok-decoded.sniffed c.in_ok-decoded.ensures.sniffed
    (IsDecodedNoted c.args.references) c.tentative_noted.result (sym c.if-is_tentative.ensures) c.tentative_noted.ensures.ok

pub returns-clause-ok : goal.returns-clause-ok
returns-clause-ok c =
    let found = c.in_ok-decoded.sniffed in
    of-found c.args.bytes.now (option_copied c.args.label) c.args.fallback found c.in_ok-decoded.ensures.sniffed
    (IsDecodedNoted c.args.references) _
    (of-certain (IsNotedPage c.args.references) c.args.references found (unmarked found c.args.bytes.now) c.in_ok-decoded.decoded
    c.in_ok-decoded.ensures.text c.in_ok-noted.noted (sym c.if-is_tentative.ensures)
    (c.in_ok-noted.ensures.ok, c.in_ok-noted.ensures.places))
