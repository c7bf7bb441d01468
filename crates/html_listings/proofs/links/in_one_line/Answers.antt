use Rattle.std.proofs.Common.{◌∙◌, List, ℕ, ap, refl}
use Rattle.std.specs.Prelude.{filter}
use Rattle.std.specs.Str.{chars}
use Rattle.std.proofs.lemmas.Result.{IfOk-weaker}
use Rattle.std.proofs.lemmas.Str.Ascii.{trim_ascii_is}
use Rattle.html_extracts.specs.Links.{is_in_line}
use Rattle.html_listings.specs.Links.{in_one_line}
use Rattle.html_listings.proofs.links.in_one_line.Goals as goal

pub returns-clause-ok : goal.returns-clause-ok
unfolding in_one_line
returns-clause-ok c = IfOk-weaker c.without_breaks.result _ _ (λ line is. is
    ∙ ap (λ (text : List ℕ). filter is_in_line (chars text))
    (trim_ascii_is c.args.url.now c.trim_ascii.result.now _ refl c.trim_ascii.ensures.value))
    c.without_breaks.ensures.ok
