use Rattle.std.proofs.Common.{rules}
use Rattle.html_tokenizer_parts.proofs.references.is_unknown.Goals as goal

pub returns-in-None : goal.returns-in-None
returns-in-None c = search rules

pub returns-in-Some-eq35 : goal.returns-in-Some-eq35
returns-in-Some-eq35 c = search rules

pub returns-then-not-ends_with : goal.returns-then-not-ends_with
returns-then-not-ends_with c = search rules

pub returns-else-not-ends_with : goal.returns-else-not-ends_with
returns-else-not-ends_with c = search rules
