use Rattle.std.proofs.Common.{false, refl}
use Rattle.std.specs.String.{string_bytes}
use Rattle.html_pages.specs.Pages.{IsPage}
use Rattle.html_decoded_pages.specs.DecodedPages.{IsTextOf}
use Rattle.html_decoded_pages.proofs.Settled.{of-other, of-whole}
use Rattle.html_decoded_pages.proofs.page.tentative_text.Goals as goal

pub returns-in-Whole-clause-ok : goal.returns-in-Whole-clause-ok
returns-in-Whole-clause-ok c =
    of-whole IsTextOf c.args.references.now c.args.sniffed c.args.bytes.now c.args.decoded c.requires.text
    (IsPage c.args.references.now false) c.requires.tentative (string_bytes c.in_ok-copy.copy) c.in_ok-parsed.parsed
    _ c.args.decoded.text c.in_ok-copy.ensures.cases c.in_ok-parsed.ensures.ok c.in-Whole.is (λ _. refl)

pub returns-in_ok-again-in-Other-clause-ok : goal.returns-in_ok-again-in-Other-clause-ok
returns-in_ok-again-in-Other-clause-ok c =
    of-other IsTextOf c.args.references.now c.args.sniffed c.args.bytes.now c.args.decoded c.requires.text
    (IsPage c.args.references.now false) c.requires.tentative (string_bytes c.in_ok-copy.copy) c.in_ok-parsed.parsed
    c.in-Other.encoding c.in_ok-again-in-Other.again c.in_ok-again-in-Other.again.text c.in_ok-copy.ensures.cases
    c.in_ok-parsed.ensures.ok c.in-Other.is c.in_ok-again-in-Other.ensures refl
