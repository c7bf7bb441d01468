use Rattle.std.proofs.Common.{◌∙◌, ◌∷◌, ◌++◌, [], List, ℕ, ap, sym}
use Rattle.std.proofs.lemmas.Str.{encodes-chars}
use Rattle.html_listings.specs.Links.{in_one_line}
use Rattle.html_listings.specs.declared.links.Link.{Link}
use Rattle.html_listings.proofs.links.push_url.Goals as goal

pub returns-clause-ok : goal.returns-clause-ok
returns-clause-ok c =
    let made : List ℕ → Link = λ url. record { kind = c.args.kind; node = c.args.node; url = url } in
    c.in_ok-push.ensures.items
    ∙ ap (λ (url : List ℕ). c.args.links.now.items ++ made url ∷ [])
    (c.in_ok-url.ensures.ok ∙ ap in_one_line (sym (encodes-chars c.args.url.now c.utf8.url)))
