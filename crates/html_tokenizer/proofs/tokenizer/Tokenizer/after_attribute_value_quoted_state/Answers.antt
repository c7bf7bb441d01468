use Rattle.std.proofs.Common.{◌∙◌, ap, sym}
use Rattle.std.specs.Prelude.{not}
use Rattle.html_tokenizer.proofs.Errors.BeforeCharacters.{keeps_refused}
use Rattle.html_tokenizer.proofs.Steps.Keeping.{keeps_erred}
use Rattle.html_tokenizer.proofs.Attributes.Values.{behind-absorbs}
use Rattle.html_tokenizer.proofs.tokenizer.Tokenizer.after_attribute_value_quoted_state.Goals as goal

pub returns-in_err-report_if : goal.returns-in_err-report_if
returns-in_err-report_if g c =
    let m = g.Sink.TokenSink in
    keeps_refused m c.args.self.now _ c.args.self.now.char_ref c.args.c _ _ c.in_err-report_if.ensures c.from_residual.ensures.1

pub returns : goal.returns
returns g c =
    let m = g.Sink.TokenSink in
    keeps_erred m (_) c.args.self.now c.report_if.new.self _ c.args.c _ c.in_ok-report_if.ensures
    (λ e. behind-absorbs m c.args.self.now c.args.c c.requires.at (ap not (sym c.ends_tag_name.ensures) ∙ e))
    c.consume_after_value.ensures
