use Rattle.html_tokenizer.proofs.Feeds.Chains.{each-fault}
use Rattle.html_tokenizer.proofs.laws.each_fault_is_told.Goals as goal

pub returns : goal.returns
returns g c =
    let m = g.Sink.TokenSink in
    each-fault m
