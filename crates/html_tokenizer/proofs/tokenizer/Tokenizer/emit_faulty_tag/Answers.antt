use Rattle.std.proofs.Common.{ap, subst}
use Rattle.html_tokenizer.specs.declared.tokenizer.Tokenizer.{Tokenizer}
use Rattle.html_tokens.specs.declared.tags.Tag.{Tag}
use Rattle.html_tokens.specs.Item.{grave_if}
use Rattle.html_tokens.specs.Tags.{is_faulty_end}
use Rattle.html_tokenizer.specs.Steps.{Errs, owed_for}
use Rattle.html_tokenizer.proofs.Errors.BeforeCharacters.{errs-not, errs-then}
use Rattle.html_tokenizer.proofs.Errors.Rises.{either-no-more}
use Rattle.html_tokenizer.proofs.tokenizer.Tokenizer.emit_faulty_tag.Goals as goal

pub returns-in_err-report_repeats : goal.returns-in_err-report_repeats
returns-in_err-report_repeats g c =
    let m = g.Sink.TokenSink in
    errs-not m _ _ _ _ _ c.in_err-report_repeats.ensures c.from_residual.ensures.1

pub returns : goal.returns
returns g c =
    let m = g.Sink.TokenSink in
    errs-then m (owed_for (grave_if (is_faulty_end c.args.self.now.tag.kind c.args.self.now.tag))) _ _
    c.report_repeats.new.self _ _ (either-no-more c.args.self.now.tag.had_duplicate_attributes
    (is_faulty_end c.args.self.now.tag.kind c.args.self.now.tag)) c.in_ok-report_repeats.ensures
    (subst (λ (tag : Tag). Errs m (owed_for (grave_if (is_faulty_end tag.kind tag))) c.report_repeats.new.self
    c.report_end_faults.new.self c.report_end_faults.result)
    (ap (λ (k : Tokenizer _). k.tag) c.in_ok-report_repeats.ensures.changed) c.report_end_faults.ensures)
