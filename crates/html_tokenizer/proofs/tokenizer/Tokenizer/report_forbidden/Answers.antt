use Rattle.std.proofs.Common.{◌≡◌, ◌∙◌}
use Rattle.std.specs.Prelude.{◌&&◌}
use Rattle.html_tokens.specs.Forbidden.{is_forbidden}
use Rattle.html_tokenizer.proofs.Errors.BeforeCharacters.{errs-less}
use Rattle.html_tokenizer.proofs.Errors.Rises.{char-no-more}
use Rattle.html_tokenizer.proofs.tokenizer.Tokenizer.report_forbidden.Goals.{then-self, else-self}
use Rattle.html_tokenizer.proofs.tokenizer.Tokenizer.report_forbidden.Goals as goal

pub returns : goal.returns
returns g c =
    let exact = c.args.self.now.stream.exact_errors in
    let told : c.if-self.report_if ≡ (exact && is_forbidden c.args.c) = elim c.if-self.branch [
      | then-self w ↦ rw w.if-self.true (w.report_if-is ∙ w.is_forbidden.ensures)
      | else-self w ↦
          rw w.if-self.false (w.report_if-is ∙ w.if-self.false)
    ] in
    errs-less g.Sink.TokenSink _ _ _ _ (char-no-more exact c.args.c) (rw told at c.report_if.ensures)
