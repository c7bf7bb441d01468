use Rattle.std.proofs.Common.{refl}
use Rattle.std.specs.String.{string_bytes}
use Rattle.html_decoded_pages.specs.DecodedPages.{IsNotedPage}
use Rattle.html_decoded_pages.proofs.Settled.{of-other, of-whole}
use Rattle.html_decoded_pages.proofs.noted.tentative_noted.Goals as goal

pub returns-in-Whole-clause-ok : goal.returns-in-Whole-clause-ok
returns-in-Whole-clause-ok c =
    of-whole (IsNotedPage c.args.references) c.args.references c.args.sniffed c.args.bytes.now c.args.decoded c.requires.text
    (IsNotedPage c.args.references) c.requires.tentative (string_bytes c.args.decoded.text) c.in_ok-parsed.parsed
    c.in-Whole.noted c.in-Whole.noted refl (rw c.as_str.ensures.value at c.in_ok-parsed.ensures.ok) c.in-Whole.is (λ is. is)

pub returns-in_ok-noted-in-Other-clause-ok : goal.returns-in_ok-noted-in-Other-clause-ok
returns-in_ok-noted-in-Other-clause-ok c =
    of-other (IsNotedPage c.args.references) c.args.references c.args.sniffed c.args.bytes.now c.args.decoded c.requires.text
    (IsNotedPage c.args.references) c.requires.tentative (string_bytes c.args.decoded.text) c.in_ok-parsed.parsed
    c.in-Other.encoding c.in_ok-again-in-Other.again c.in_ok-noted-in-Other.noted refl (rw c.as_str.ensures.value at
    c.in_ok-parsed.ensures.ok)
    c.in-Other.is c.in_ok-again-in-Other.ensures
    (c.in_ok-noted-in-Other.ensures.ok, c.in_ok-noted-in-Other.ensures.places)
