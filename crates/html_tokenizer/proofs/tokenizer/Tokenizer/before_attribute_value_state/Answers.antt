use Rattle.html_tokenizer.proofs.Errors.BeforeCharacters.{keeps_refused}
use Rattle.html_tokenizer.proofs.Steps.Keeping.{keeps_erred}
use Rattle.html_tokenizer.proofs.Attributes.Values.{value_before-absorbs}
use Rattle.html_tokenizer.proofs.tokenizer.Tokenizer.before_attribute_value_state.Goals as goal

pub returns-in_err-report_if : goal.returns-in_err-report_if
returns-in_err-report_if g c =
    let m = g.Sink.TokenSink in
    keeps_refused m c.args.self.now _ c.args.self.now.char_ref c.args.c _ _ c.in_err-report_if.ensures c.from_residual.ensures.1

pub returns : goal.returns
returns g c =
    let m = g.Sink.TokenSink in
    keeps_erred m (_) c.args.self.now c.report_if.new.self _ c.args.c _ c.in_ok-report_if.ensures
    (λ e. value_before-absorbs m c.args.self.now c.args.c c.requires.at e) c.consume_before_value.ensures
