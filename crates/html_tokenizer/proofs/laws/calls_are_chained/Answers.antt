use Rattle.html_tokenizer.proofs.Feeds.Chains.{chain}
use Rattle.html_tokenizer.proofs.laws.calls_are_chained.Goals as goal

pub returns : goal.returns
returns g c =
    let m = g.Sink.TokenSink in
    chain m
