use Rattle.std.proofs.Common.{refl}
use Rattle.bench_tokenizer.proofs.counts.Counts.count.Goals as goal

pub returns-in-CharacterTokens-clause-counted : goal.returns-in-CharacterTokens-clause-counted
returns-in-CharacterTokens-clause-counted c =
    rw (c.in-CharacterTokens.is, c.saturating_add-self-in-CharacterTokens.ensures, c.characters-more.ensures, c.as_str.ensures) refl
