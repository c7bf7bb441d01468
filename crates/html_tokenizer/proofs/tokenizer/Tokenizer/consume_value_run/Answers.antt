use Rattle.html_tokenizer.proofs.Text.Runs.{value_run-kept}
use Rattle.html_tokenizer.proofs.tokenizer.Tokenizer.consume_value_run.Goals as goal

pub returns-in_default : goal.returns-in_default
returns-in_default g c =
    let m = g.Sink.TokenSink in
    value_run-kept m _ _ _ _ _ c.in_default.not-Unquoted c.requires.run c.requires.sound c.requires.at
    c.append.ensures.ok c.append.ensures.fault
