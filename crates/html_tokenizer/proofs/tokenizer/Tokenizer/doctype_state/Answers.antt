use Rattle.std.proofs.Common.{◌∙◌, sym, ap}
use Rattle.std.specs.Prelude.{not}
use Rattle.html_tokenizer.proofs.Declarations.Doctypes.{doctype-absorbs}
use Rattle.html_tokenizer.proofs.Errors.BeforeCharacters.{keeps_refused}
use Rattle.html_tokenizer.proofs.Steps.Keeping.{keeps_erred}
use Rattle.html_tokenizer.proofs.tokenizer.Tokenizer.doctype_state.Goals as goal

pub returns-in_err-report_if : goal.returns-in_err-report_if
returns-in_err-report_if g c =
    let m = g.Sink.TokenSink in
    keeps_refused m c.args.self.now _ c.args.self.now.char_ref c.args.c _ _ c.in_err-report_if.ensures c.from_residual.ensures.1

pub returns : goal.returns
returns g c =
    let m = g.Sink.TokenSink in
    keeps_erred m _ c.args.self.now c.report_if.new.self _ c.args.c _ c.in_ok-report_if.ensures
    (λ e. doctype-absorbs m g.met.Sink.TokenSink.laws c.args.self.now c.args.c c.requires.at
    (sym (ap not c.ends_word.ensures) ∙ e)) c.consume_after_doctype.ensures
