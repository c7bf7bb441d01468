use Rattle.std.proofs.Common.{◌∙◌, sym}
use Rattle.html_tokenizer_parts.proofs.Keywords.{front-empty, front-part}
use Rattle.html_tokenizer_parts.proofs.keyword.Keyword.is_ended.Goals as goal

pub returns-then-is_empty-clause-is : goal.returns-then-is_empty-clause-is
returns-then-is_empty-clause-is c = c.ends_word.ensures ∙ front-empty c.args.self.now c.args.c
    (sym c.is_empty.ensures.is ∙ c.if-is_empty.true)

pub returns-else-is_empty-clause-is : goal.returns-else-is_empty-clause-is
returns-else-is_empty-clause-is c = c.if-is_empty.false
    ∙ sym (front-part c.args.self.now c.args.c c.is_empty.ensures.part (sym c.is_empty.ensures.is ∙ c.if-is_empty.false))
