use Rattle.std.proofs.Common.{◌∙◌}
use Rattle.html_tokenizer_parts.proofs.HeldNumbers.{digits-found}
use Rattle.html_tokenizer_parts.proofs.numbers.digits_at.Goals as goal

pub returns : goal.returns
returns c =
    digits-found c.args.hex c.args.prefix c.digit_run-count.result c.unwrap_or.result c.semicolon.result
    c.args.text.now c.digit_run-count.ensures.is c.if-count-eq0.false
    (c.unwrap_or.ensures ∙ c.character_at-character.ensures) c.semicolon.ensures
