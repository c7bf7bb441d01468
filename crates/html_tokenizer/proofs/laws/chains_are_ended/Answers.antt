use Rattle.html_tokenizer.proofs.Feeds.Chains.{chain-ended}
use Rattle.html_tokenizer.proofs.laws.chains_are_ended.Goals as goal

pub returns : goal.returns
returns g c =
    let m = g.Sink.TokenSink in
    chain-ended m
