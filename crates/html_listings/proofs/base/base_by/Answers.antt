use Rattle.std.proofs.Common.{◌≡◌, ◌∙◌, List, Option, ap, encode_utf8_all, sym, ℕ}
use Rattle.std.specs.Option.{option_copied, option_or}
use Rattle.std.specs.Str.{IsUtf8, chars}
use Rattle.std.proofs.lemmas.Str.{encodes-chars}
use Rattle.url.specs.Parts.{Parts}
use Rattle.html_listings.specs.Listings.{url_in}
use Rattle.html_listings.proofs.base.base_by.Goals as goal

-- a text as a URL, by its characters
by_characters : (found given base : Option Parts) (text : List ℕ) → IsUtf8 text → found ≡ url_in base text → base ≡ given
    → found ≡ url_in given (encode_utf8_all (chars text))
by_characters found given base text utf8 is same =
    is ∙ (ap (λ b. url_in b text) same ∙ ap (url_in given) (sym (encodes-chars text utf8)))

pub returns-in-Some-clause-ok : goal.returns-in-Some-clause-ok
returns-in-Some-clause-ok c =
    let found = by_characters c.in_ok-url.field-0 c.args.given (option_copied c.as_ref.result) c.args.text.now c.utf8.text
    c.in_ok-url.ensures.ok c.as_ref.ensures.value in
    ap (λ found. option_or found c.args.given) (sym c.in-Some.is ∙ found)

pub returns-in-None-clause-ok : goal.returns-in-None-clause-ok
returns-in-None-clause-ok c =
    let found = by_characters c.in_ok-url.field-0 c.args.given (option_copied c.as_ref.result) c.args.text.now c.utf8.text
    c.in_ok-url.ensures.ok c.as_ref.ensures.value in
    ap (λ found. option_or found c.args.given) (sym c.in-None.is ∙ found)
