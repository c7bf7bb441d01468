use Rattle.std.proofs.Common.{◌∙◌}
use Rattle.html_tokenizer_parts.proofs.HeldTexts.{held-bytes}
use Rattle.html_tokenizer_parts.proofs.held_reference.HeldReference.as_str.Goals as goal

pub returns-clause-bytes : goal.returns-clause-bytes
returns-clause-bytes c = held-bytes c.as_str.result.now c.args.self.now c.as_str.utf8
    (c.as_str.ensures ∙ c.self.view_is) (rw (← c.self.view_is) c.self.invariant)
