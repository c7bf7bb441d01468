use Rattle.std.proofs.Common.{◌∙◌, sym}
use Rattle.html_tokenizer_parts.proofs.HeldFronts.{digits-closed, go_on-closing, go_on-digit, go_on-none}
use Rattle.html_tokenizer_parts.proofs.numbers.digits_go_on.Goals as goal

pub returns-then-ends_with : goal.returns-then-ends_with
returns-then-ends_with c = digits-closed c.args.hex c.args.digits.now c.args.c (sym c.ends_with.ensures.value ∙ c.if-ends_with.true)

pub returns-then-is_digit : goal.returns-then-is_digit
returns-then-is_digit c = go_on-digit c.args.hex c.args.digits.now c.args.c c.requires
    (sym c.ends_with.ensures.value ∙ c.if-ends_with.false) (sym c.is_digit.ensures ∙ c.if-is_digit.true)

pub returns-then-is_empty : goal.returns-then-is_empty
returns-then-is_empty c = go_on-none c.args.hex c.args.digits.now c.args.c c.requires
    (sym c.ends_with.ensures.value ∙ c.if-ends_with.false) (sym c.is_digit.ensures ∙ c.if-is_digit.false)
    (sym c.is_empty.ensures ∙ c.if-is_empty.true)

pub returns : goal.returns
returns c = go_on-closing c.args.hex c.args.digits.now c.args.c c.requires
    (sym c.ends_with.ensures.value ∙ c.if-ends_with.false) (sym c.is_digit.ensures ∙ c.if-is_digit.false)
    (sym c.is_empty.ensures ∙ c.if-is_empty.false)
