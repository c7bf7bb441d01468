use Rattle.html_tokenizer.proofs.Feeds.Chains.{any-pieces}
use Rattle.html_tokenizer.proofs.laws.any_pieces.Goals as goal

pub returns : goal.returns
returns g c =
    let m = g.Sink.TokenSink in
    any-pieces m
