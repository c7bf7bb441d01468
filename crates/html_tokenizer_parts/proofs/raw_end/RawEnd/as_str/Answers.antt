use Rattle.html_tokenizer_parts.proofs.EndFronts.{holds-front}
use Rattle.html_tokenizer_parts.proofs.raw_end.RawEnd.as_str.Goals as goal

pub returns-clause-begins : goal.returns-clause-begins
returns-clause-begins c = rw (← c.self.view_is) (holds-front c.self.inside.name c.self.inside.letters c.self.invariant)
