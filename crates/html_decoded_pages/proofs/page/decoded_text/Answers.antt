use Rattle.std.proofs.Common.{refl, sym}
use Rattle.std.specs.Option.{option_copied}
use Rattle.html_decoded_pages.specs.DecodedPages.{IsDecodedText, IsTextOf, unmarked}
use Rattle.html_decoded_pages.proofs.Settled.{of-all, of-certain, of-found, text-of-all}
use Rattle.html_decoded_pages.proofs.page.decoded_text.Goals as goal

pub tentative_text-requires-clause-text : goal.tentative_text-requires-clause-text
tentative_text-requires-clause-text c =
    text-of-all c.args.bytes.now (option_copied c.args.label) c.args.fallback c.in_ok-decoded.sniffed c.in_ok-decoded.ensures.sniffed
    c.in_ok-decoded.decoded (sym c.if-is_tentative.ensures) c.in_ok-decoded.ensures.text

pub returns-then-is_tentative-clause-ok : goal.returns-then-is_tentative-clause-ok
returns-then-is_tentative-clause-ok c =
    of-all c.args.bytes.now (option_copied c.args.label) c.args.fallback c.in_ok-decoded.sniffed c.in_ok-decoded.ensures.sniffed
    (IsDecodedText c.args.references.now) c.tentative_text.result (sym c.if-is_tentative.ensures) c.tentative_text.ensures.ok

pub returns-clause-ok : goal.returns-clause-ok
returns-clause-ok c =
    let found = c.in_ok-decoded.sniffed in
    of-found c.args.bytes.now (option_copied c.args.label) c.args.fallback found c.in_ok-decoded.ensures.sniffed
    (IsDecodedText c.args.references.now) _
    (of-certain IsTextOf c.args.references.now found (unmarked found c.args.bytes.now) c.in_ok-decoded.decoded
    c.in_ok-decoded.ensures.text c.in_ok-decoded.decoded.text (sym c.if-is_tentative.ensures) refl)
