use Rattle.std.specs.Prelude.{Some}
use Rattle.html_tokenizer_parts.specs.declared.held_reference.Ampersand.TheVariants.{Unknown}
use Rattle.html_tokenizer.proofs.HeldReferences.Ambiguous.{unknown-ended}
use Rattle.html_tokenizer.proofs.Errors.BeforeCharacters.{keeps_refused}
use Rattle.html_tokenizer.proofs.tokenizer.Tokenizer.ambiguous_ampersand_state.Goals as goal

pub returns-in_err-report_if : goal.returns-in_err-report_if
returns-in_err-report_if g c =
    let m = g.Sink.TokenSink in
    keeps_refused m c.args.self.now _ (Some Unknown) c.args.c _ _ c.in_err-report_if.ensures c.from_residual.ensures.1

pub returns : goal.returns
returns g c =
    let m = g.Sink.TokenSink in
    unknown-ended m _ c.args.self.now c.report_if.new.self _ c.args.c _ c.requires.fresh c.requires.fits
    c.in_ok-report_if.ensures c.step.ensures
