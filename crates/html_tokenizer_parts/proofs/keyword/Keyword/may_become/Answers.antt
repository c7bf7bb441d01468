use Rattle.std.proofs.Common.{◌∙◌, [], ◌∷◌, ◌++◌, sym}
use Rattle.html_tokenizer_parts.specs.Keywords.{spelling, is_any_case}
use Rattle.html_tokenizer_parts.proofs.Keywords.{begun-at, begun-not}
use Rattle.html_tokenizer_parts.proofs.keyword.Keyword.may_become.Goals as goal

pub returns-then-leads : goal.returns-then-leads
returns-then-leads c = begun-at (is_any_case c.args.word) (spelling c.args.word) c.args.self.now
    c.spelling.result.now c.args.c c.len.result (sym c.leads.ensures.is ∙ c.if-leads.true) c.len.ensures.is c.spelling.ensures

pub returns-else-leads : goal.returns-else-leads
returns-else-leads c = c.if-leads.false
    ∙ sym (begun-not (is_any_case c.args.word) (spelling c.args.word) (c.args.self.now ++ c.args.c ∷ [])
    (sym c.leads.ensures.is ∙ c.if-leads.false))
