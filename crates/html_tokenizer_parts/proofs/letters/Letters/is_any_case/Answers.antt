use Rattle.std.proofs.Common.{◌∙◌}
use Rattle.html_tokenizer_parts.proofs.Words.{letters-same}
use Rattle.html_tokenizer_parts.proofs.letters.Letters.is_any_case.Goals as goal

pub returns-clause-is : goal.returns-clause-is
returns-clause-is c = letters-same _ _ c.as_str.result.now _ c.utf8.name c.as_str.utf8
    (c.as_str.ensures ∙ c.self.view_is) (rw (← c.self.view_is) c.self.invariant) c.eq_ignore_ascii_case.ensures.test
