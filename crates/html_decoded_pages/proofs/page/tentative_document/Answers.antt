use Rattle.std.proofs.Common.{false, refl}
use Rattle.std.specs.String.{string_bytes}
use Rattle.html_pages.specs.Pages.{IsPage}
use Rattle.html_decoded_pages.proofs.Settled.{of-other, of-whole}
use Rattle.html_decoded_pages.proofs.page.tentative_document.Goals as goal

pub returns-in-Whole-clause-ok : goal.returns-in-Whole-clause-ok
returns-in-Whole-clause-ok c =
    of-whole (IsPage c.args.references false) c.args.references c.args.sniffed c.args.bytes.now c.args.decoded c.requires.text
    (IsPage c.args.references false) c.requires.tentative (string_bytes c.args.decoded.text) c.in_ok-parsed.parsed
    c.in-Whole.forest c.in-Whole.forest refl c.in_ok-parsed.ensures.ok c.in-Whole.is (λ is. is)

pub returns-in_ok-forest-in-Other-clause-ok : goal.returns-in_ok-forest-in-Other-clause-ok
returns-in_ok-forest-in-Other-clause-ok c =
    of-other (IsPage c.args.references false) c.args.references c.args.sniffed c.args.bytes.now c.args.decoded c.requires.text
    (IsPage c.args.references false) c.requires.tentative (string_bytes c.args.decoded.text) c.in_ok-parsed.parsed
    c.in-Other.encoding c.in_ok-again-in-Other.again c.in_ok-forest-in-Other.forest refl c.in_ok-parsed.ensures.ok
    c.in-Other.is c.in_ok-again-in-Other.ensures c.in_ok-forest-in-Other.ensures.ok
