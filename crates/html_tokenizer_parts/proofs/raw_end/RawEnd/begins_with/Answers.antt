use Rattle.html_tokenizer_parts.proofs.EndFronts.{open-apart}
use Rattle.html_tokenizer_parts.proofs.raw_end.RawEnd.begins_with.Goals as goal

pub returns-clause-apart : goal.returns-clause-apart
returns-clause-apart c = λ f. open-apart _ _ _ c.new.ensures (c.has_next-2.ensures.apart f)
