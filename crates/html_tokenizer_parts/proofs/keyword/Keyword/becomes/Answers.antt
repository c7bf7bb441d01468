use Rattle.std.proofs.Common.{◌∙◌, [], ◌∷◌, ◌++◌, sym}
use Rattle.html_tokenizer_parts.specs.Keywords.{spelling, is_any_case}
use Rattle.html_tokenizer_parts.proofs.Keywords.{spelt-at, spelt-not}
use Rattle.html_tokenizer_parts.proofs.keyword.Keyword.becomes.Goals as goal

pub returns-then-leads-clause-is : goal.returns-then-leads-clause-is
returns-then-leads-clause-is c = spelt-at (is_any_case c.args.word) (spelling c.args.word) c.args.self.now
    c.spelling.result.now c.args.c c.len.result (sym c.leads.ensures.is ∙ c.if-leads.true) c.len.ensures.is c.spelling.ensures

pub returns-else-leads-clause-is : goal.returns-else-leads-clause-is
returns-else-leads-clause-is c = c.if-leads.false
    ∙ sym (spelt-not (is_any_case c.args.word) (spelling c.args.word) (c.args.self.now ++ c.args.c ∷ [])
    (sym c.leads.ensures.is ∙ c.if-leads.false))
