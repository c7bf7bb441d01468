use Rattle.std.proofs.Common.{◌∙◌, ap}
use Rattle.html_tokens.specs.Reference.{number, numbered}
use Rattle.html_tokenizer_parts.specs.CharRefs.{base_of}
use Rattle.html_tokenizer_parts.proofs.Digits.{numbered-capped}
use Rattle.html_tokenizer_parts.proofs.numbers.character_at.Goals as goal

pub returns : goal.returns
returns c = c.character_of.ensures ∙ ap numbered c.number.ensures ∙ numbered-capped (number (base_of c.args.hex) c.args.digits.now)
