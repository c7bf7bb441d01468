use Rattle.std.proofs.Common.{◌≡◌, ap, subst}
use Rattle.std.specs.Prelude.{not}
use Rattle.html_tokens.specs.Tags.{is_empty}
use Rattle.html_tokenizer.specs.declared.tokenizer.Tokenizer.{Tokenizer}
use Rattle.html_tokens.specs.Item.{grave_if}
use Rattle.html_tokenizer.specs.Steps.{Errs, owed_for}
use Rattle.html_tokenizer.proofs.Errors.BeforeCharacters.{errs-not, errs-then}
use Rattle.html_tokenizer.proofs.Errors.Rises.{or-no-more}
use Rattle.html_tokenizer.proofs.tokenizer.Tokenizer.report_end_tag_faults.Goals as goal

pub returns-in_err-report_if : goal.returns-in_err-report_if
returns-in_err-report_if g c =
    let m = g.Sink.TokenSink in
    errs-not m _ _ _ _ _ c.in_err-report_if.ensures c.from_residual.ensures.1

pub returns : goal.returns
returns g c =
    let m = g.Sink.TokenSink in
    let closing : c.report_if.new.self.tag.self_closing ≡ c.args.self.now.tag.self_closing =
    ap (λ (k : Tokenizer _). k.tag.self_closing) c.in_ok-report_if.ensures.changed in
    errs-then m (owed_for (grave_if c.args.self.now.tag.self_closing)) _ _ c.report_if.new.self _ _
    (or-no-more (not (is_empty c.args.self.now.tag.attrs)) c.args.self.now.tag.self_closing)
    (rw c.has_attributes-has_attributes.ensures at c.in_ok-report_if.ensures)
    (subst (λ b. Errs m (owed_for (grave_if b)) c.report_if.new.self c.report_if-2.new.self
    c.report_if-2.result) closing c.report_if-2.ensures)
