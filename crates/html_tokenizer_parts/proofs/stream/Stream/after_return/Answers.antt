use Rattle.std.proofs.Common.{rules}
use Rattle.html_tokenizer_parts.proofs.stream.Stream.after_return.Goals as goal

pub returns-then-not-self-clause-made : goal.returns-then-not-self-clause-made
returns-then-not-self-clause-made c = search rules

pub returns-then-not-self-clause-empty : goal.returns-then-not-self-clause-empty
returns-then-not-self-clause-empty c = search rules

pub returns-in_err-c-clause-made : goal.returns-in_err-c-clause-made
returns-in_err-c-clause-made c = search rules

pub returns-in_err-c-clause-empty : goal.returns-in_err-c-clause-empty
returns-in_err-c-clause-empty c = search rules

pub returns-clause-made : goal.returns-clause-made
returns-clause-made c = search rules

pub returns-clause-empty : goal.returns-clause-empty
returns-clause-empty c = search rules
