use Rattle.std.proofs.Common.{◌∙◌, sym}
use Rattle.html_clean_program.proofs.TwoWords.{is-none, is-printed, of-two}
use Rattle.html_clean_program.proofs.printing.printed_name.Goals as goal

pub returns-then-eq : goal.returns-then-eq
returns-then-eq c =
    is-printed c.args.words.now c.option-item.result c.name-item.result c.as_str.result.now
    (of-two c.args.words.now c.option-item.result c.name-item.result c.in-len2.len_at_least c.in-len2.len_below c.option-item.is
    c.name-item.is)
    c.as_str.ensures.value c.as_str-then-eq.result.now c.as_str-then-eq.ensures.value (sym c.eq.ensures ∙ c.if-eq.true)

pub returns-else-eq : goal.returns-else-eq
returns-else-eq c =
    is-none c.args.words.now c.option-item.result c.name-item.result c.as_str.result.now
    (of-two c.args.words.now c.option-item.result c.name-item.result c.in-len2.len_at_least c.in-len2.len_below c.option-item.is
    c.name-item.is)
    c.as_str.ensures.value (sym c.eq.ensures ∙ c.if-eq.false)
