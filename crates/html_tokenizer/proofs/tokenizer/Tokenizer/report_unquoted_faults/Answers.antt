use Rattle.std.proofs.Common.{◌∙◌, sym, map-id}
use Rattle.std.proofs.lemmas.Iterator.{YieldsList-from_chars}
use Rattle.std.proofs.lemmas.Iterator.Consumers.{YieldsList-end}
use Rattle.html_tokens.specs.Tags.{is_odd_unquoted}
use Rattle.html_tokenizer.proofs.Errors.BeforeCharacters.{erred-each, errs-behind}
use Rattle.html_tokenizer.proofs.tokenizer.Tokenizer.report_unquoted_faults.Goals as goal

pub loop-c-preserved : goal.loop-c-preserved
loop-c-preserved g c =
    let m = g.Sink.TokenSink in
    erred-each m is_odd_unquoted c.loop-c.yielded c.in-Some.c c.args.self.now c.loop-c.self c.report_fault.new.self c.loop-c.invariant
    (rw (← c.unquoted_fault.ensures) c.in_ok-report_fault.ensures)

pub returns-in_err-report_fault : goal.returns-in_err-report_fault
returns-in_err-report_fault g c =
    let m = g.Sink.TokenSink in
    errs-behind m _ c.args.self.now c.loop-c.self _ _ _ c.loop-c.invariant c.in_err-report_fault.ensures c.from_residual.ensures.1

pub returns : goal.returns
returns g c =
    let m = g.Sink.TokenSink in
    let all = YieldsList-end (YieldsList-from_chars c.args.run.now c.utf8.run cc) c.loop-c.yielded _
    c.loop-c.yielded_by _ _ c.in-None.is c.next.ensures.steps in
    rw (sym (map-id c.loop-c.yielded) ∙ all.0) at c.loop-c.invariant
