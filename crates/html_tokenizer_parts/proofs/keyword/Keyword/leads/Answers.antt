use Rattle.std.proofs.Common.{◌∙◌, ◌≤◌, ◌<◌, length, [], ◌∷◌, sym}
use Rattle.html_tokenizer_parts.specs.Keywords.{spelling, is_any_case}
use Rattle.html_tokenizer_parts.proofs.Keywords.{front-long, front-not, leads-at}
use Rattle.html_tokenizer_parts.proofs.keyword.Keyword.leads.Goals as goal

pub returns-then-read-spelling-clause-is : goal.returns-then-read-spelling-clause-is
returns-then-read-spelling-clause-is c =
    let long : length (spelling c.args.word) ≤ length c.args.self.now =
    rw (c.len-read.ensures.is, c.spelling-spelling.ensures) at c.if-read-spelling.true in
    sym (front-long (is_any_case c.args.word) (spelling c.args.word) c.args.self.now c.args.c long)

pub returns-then-agrees-clause-is : goal.returns-then-agrees-clause-is
returns-then-agrees-clause-is c =
    let short : length c.args.self.now < length (spelling c.args.word) =
    rw (c.len-read.ensures.is, c.spelling-spelling.ensures) at c.if-read-spelling.false in
    leads-at (is_any_case c.args.word) (spelling c.args.word) c.args.self.now c.spelling-spelling.result.now
    c.args.c c.len-read.result c.index-spelling-read.result c.letter.result c.len-read.ensures.is
    c.spelling-spelling.ensures c.index-spelling-read.is c.letter.ensures short (sym c.agrees.ensures ∙ c.if-agrees.true)

pub returns-else-agrees-clause-is : goal.returns-else-agrees-clause-is
returns-else-agrees-clause-is c = c.if-agrees.false
    ∙ sym (front-not (is_any_case c.args.word) (spelling c.args.word) c.args.self.now (c.args.c ∷ [])
    (sym c.agrees.ensures ∙ c.if-agrees.false))
