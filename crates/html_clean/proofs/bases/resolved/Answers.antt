use Rattle.std.proofs.Common.{◌∙◌, Option, None, ap, encode_utf8_all, sym}
use Rattle.std.specs.Str.{chars}
use Rattle.std.proofs.lemmas.Result.{IfOk-weaker}
use Rattle.std.proofs.lemmas.Str.{encodes-chars}
use Rattle.url.specs.Parts.{Parts}
use Rattle.html_clean.specs.Bases.{text_or, url_by, url_in}
use Rattle.html_clean.proofs.bases.resolved.Goals as goal

pub returns-clause-ok : goal.returns-clause-ok
returns-clause-ok c =
    let base = c.args.base.now in
    let url = c.args.url.now in
    let given = c.in_ok-base.ensures.ok ∙ ap (url_in None) (sym (encodes-chars base c.utf8.base)) in
    let found = c.in_ok-found.ensures.ok
    ∙ (ap (λ (given : Option Parts). url_by given url) given
    ∙ ap (url_by (url_in None (encode_utf8_all (chars base)))) (sym (encodes-chars url c.utf8.url))) in
    IfOk-weaker c.text_or.result _ _ (λ made is. is ∙ ap (λ (found : Option Parts). text_or found (chars url)) found)
    c.text_or.ensures.ok
