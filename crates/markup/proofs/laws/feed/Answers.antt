use Rattle.markup.proofs.laws.feed.Goals as goal

pub returns-clause-alike : goal.returns-clause-alike
returns-clause-alike g c other e =
    g.met.T.Hash.respects_eq c.args.value.now other ((g.met.T.EqualByValue.by_value c.args.value.now other).1 e)
