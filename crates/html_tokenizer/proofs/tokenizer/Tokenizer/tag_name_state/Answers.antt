use Rattle.html_tokenizer.proofs.Errors.BeforeCharacters.{keeps_refused}
use Rattle.html_tokenizer.proofs.Steps.Keeping.{keeps_erred}
use Rattle.html_tokenizer.proofs.Tags.States.{tag_name-absorbs}
use Rattle.html_tokenizer.proofs.tokenizer.Tokenizer.tag_name_state.Goals as goal

pub returns-in_err-report_null : goal.returns-in_err-report_null
returns-in_err-report_null g c =
    let m = g.Sink.TokenSink in
    keeps_refused m c.args.self.now _ c.args.self.now.char_ref c.args.c _ _ c.in_err-report_null.ensures c.from_residual.ensures.1

pub returns : goal.returns
returns g c =
    let m = g.Sink.TokenSink in
    keeps_erred m (_) c.args.self.now c.report_null.new.self _ c.args.c _ c.in_ok-report_null.ensures
    (λ e. tag_name-absorbs m c.args.self.now c.args.c c.requires.at e) c.consume_in_tag_name.ensures
