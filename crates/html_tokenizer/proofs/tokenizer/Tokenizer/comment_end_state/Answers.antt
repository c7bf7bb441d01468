use Rattle.std.proofs.Common.{◌≡◌, ◌∙◌, true, false, nat_eq, sym, ap}
use Rattle.std.specs.Prelude.{not}
use Rattle.std.proofs.lemmas.Bool.{ne_eqb}
use Rattle.html_tokenizer.proofs.Declarations.Comments.{end-absorbs}
use Rattle.html_tokenizer.proofs.Errors.BeforeCharacters.{keeps_refused}
use Rattle.html_tokenizer.proofs.Steps.Keeping.{keeps_erred}
use Rattle.html_tokenizer.proofs.tokenizer.Tokenizer.comment_end_state.Goals as goal
use Rattle.html_tokenizer.proofs.tokenizer.Tokenizer.comment_end_state.Goals.{then-c-ne62, else-c-ne62}

pub returns-in_err-report_if : goal.returns-in_err-report_if
returns-in_err-report_if g c =
    let m = g.Sink.TokenSink in
    keeps_refused m c.args.self.now _ c.args.self.now.char_ref c.args.c _ _ c.in_err-report_if.ensures c.from_residual.ensures.1

pub returns : goal.returns
returns g c =
    let m = g.Sink.TokenSink in
    keeps_erred m _ c.args.self.now c.report_if.new.self _ c.args.c _ c.in_ok-report_if.ensures
    (λ e. end-absorbs m g.met.Sink.TokenSink.laws c.args.self.now c.args.c c.requires.at (elim c.if-c-ne62.branch [
      | then-c-ne62 w ↦ ne_eqb 62 c.args.c (λ same. w.if-c-ne62.true (sym same))
      | else-c-ne62 w ↦ absurd (let no : true ≡ false = sym e ∙ w.is_nested-is ∙ ap (λ d. not (nat_eq d 62)) w.if-c-ne62.false in cc)
    ])) c.consume_after_dashes.ensures
