use Rattle.html_tokenizer.proofs.Steps.Going.{goes-on, stays-behind}
use Rattle.html_tokenizer.proofs.tokenizer.Tokenizer.advance_on.Goals as goal

pub returns : goal.returns
returns g c =
    let m = g.Sink.TokenSink in
    goes-on m c.args.self.now c.advance.new.self c.args.c _ c.requires.other c.in_ok-_goes_on.ensures

pub returns-in_err-_goes_on : goal.returns-in_err-_goes_on
returns-in_err-_goes_on g c =
    let m = g.Sink.TokenSink in
    stays-behind m c.args.self.now c.advance.new.self c.args.c _ _ c.in_err-_goes_on.ensures c.from_residual.ensures.1
