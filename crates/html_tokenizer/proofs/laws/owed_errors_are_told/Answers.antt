use Rattle.html_tokenizer.proofs.Errors.Owing.{is-owing}
use Rattle.html_tokenizer.proofs.laws.owed_errors_are_told.Goals as goal

pub returns : goal.returns
returns g c =
    let m = g.Sink.TokenSink in
    is-owing m
