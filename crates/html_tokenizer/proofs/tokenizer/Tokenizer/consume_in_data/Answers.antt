use Rattle.html_tokenizer.proofs.Steps.Going.{data-passes, data-refused}
use Rattle.html_tokenizer.proofs.tokenizer.Tokenizer.consume_in_data.Goals as goal

pub returns : goal.returns
returns g c =
    let m = g.Sink.TokenSink in
    data-passes m c.args.self.now c.data_state.new.self c.count_break.new.self c.args.c _ c.requires.other
    c.requires.plain c.in_ok-_goes_on.ensures c.count_break.ensures

pub returns-in_err-_goes_on : goal.returns-in_err-_goes_on
returns-in_err-_goes_on g c =
    let m = g.Sink.TokenSink in
    data-refused m c.args.self.now c.data_state.new.self c.args.c _ _ c.requires.plain c.in_err-_goes_on.ensures c.from_residual.ensures.1
