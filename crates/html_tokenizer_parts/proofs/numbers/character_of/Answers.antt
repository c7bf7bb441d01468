use Rattle.std.proofs.Common.{◌∙◌, sym, rules}
use Rattle.html_tokenizer_parts.proofs.Digits.{numbered-none, numbered-some, numbered-zero}
use Rattle.html_tokenizer_parts.proofs.numbers.character_of.Goals as goal

pub returns-in-Some : goal.returns-in-Some
returns-in-Some c = numbered-some c.args.number c.in-Some.c c.replaced.result c.in-Some.ensures.value.0
    c.in-Some.ensures.value.1 (search rules) c.replaced.ensures

pub returns-in-None : goal.returns-in-None
returns-in-None c = numbered-none c.args.number (search rules)

pub returns-in-None-2 : goal.returns-in-None-2
returns-in-None-2 c = numbered-zero c.args.number (search rules)
