use Rattle.html_tokenizer.proofs.Feeds.Chains.{clean-quiet}
use Rattle.html_tokenizer.proofs.laws.clean_texts_tell_no_error.Goals as goal

pub returns : goal.returns
returns g c =
    let m = g.Sink.TokenSink in
    clean-quiet m
