use Rattle.std.proofs.Common.{◌∙◌, ap}
use Rattle.html_tokenizer_parts.specs.Words.{same_any_case}
use Rattle.html_tokenizer_parts.proofs.Words.{script-chars}
use Rattle.html_tokenizer_parts.proofs.letters.Letters.is_script.Goals as goal

pub returns-clause-is : goal.returns-clause-is
returns-clause-is c = c.is_any_case.ensures.is ∙ ap (λ cs. same_any_case cs c.args.self.now) script-chars
