use Rattle.std.proofs.Common.{◌∙◌, ap}
use Rattle.std.specs.List.{list_any}
use Rattle.std.specs.Str.{chars}
use Rattle.html_tokens.specs.Forbidden.{is_forbidden}
use Rattle.html_pages.proofs.Leads.{cut-before, none-before}
use Rattle.html_pages.proofs.forbidden.from_suspect.Goals as goal

pub returns-clause-same : goal.returns-clause-same
returns-clause-same c =
    let found = c.harmless_len.ensures in
    ap (λ bs. list_any is_forbidden (chars bs)) c.split_at.ensures.back
    ∙ none-before c.args.text.now c.harmless_len.result c.utf8.text
    (cut-before c.args.text.now c.harmless_len.result found.within found.at) found.before
