use Rattle.html_tokenizer.proofs.Feeds.Chains.{same-road}
use Rattle.html_tokenizer.proofs.laws.same_road.Goals as goal

pub returns : goal.returns
returns g c =
    let m = g.Sink.TokenSink in
    same-road m
