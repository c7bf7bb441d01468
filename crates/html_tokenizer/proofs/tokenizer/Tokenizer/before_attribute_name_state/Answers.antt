use Rattle.std.proofs.Common.{◌∙◌, sym}
use Rattle.html_tokenizer.proofs.Errors.BeforeCharacters.{keeps_refused}
use Rattle.html_tokenizer.proofs.Steps.Keeping.{keeps_erred}
use Rattle.html_tokenizer.proofs.Attributes.Names.{before-absorbs}
use Rattle.html_tokenizer.proofs.tokenizer.Tokenizer.before_attribute_name_state.Goals as goal

pub returns-in_err-report_fault : goal.returns-in_err-report_fault
returns-in_err-report_fault g c =
    let m = g.Sink.TokenSink in
    keeps_refused m c.args.self.now _ c.args.self.now.char_ref c.args.c _ _ c.in_err-report_fault.ensures c.from_residual.ensures.1

pub returns : goal.returns
returns g c =
    let m = g.Sink.TokenSink in
    keeps_erred m (_) c.args.self.now c.report_fault.new.self _ c.args.c _ c.in_ok-report_fault.ensures
    (λ e. before-absorbs m c.args.self.now c.args.c c.requires.at (sym c.first_fault.ensures ∙ e)) c.consume_before_name.ensures
