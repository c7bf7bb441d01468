use Rattle.std.proofs.Common.{ℕ, List, [], Bor}
use Rattle.std.proofs.lemmas.Result.{err_from_is_err_and}
use Rattle.html_clean_program.specs.Program.{IsPageOf}
use Rattle.html_clean_program.proofs.Pages.{files-next, files-until}
use Rattle.html_clean_program.proofs.cleaning.clean_files.Goals as goal

abbrev no_name : Bor (List ℕ)
no_name = record { ref_ptr = (0, 0); now = [] }

pub returns-in_err-clean_file-clause-err : goal.returns-in_err-clean_file-clause-err
returns-in_err-clean_file-clause-err g c =
    let p = err_from_is_err_and c.from_residual.result c.from_residual.ensures.1 in
    let ended = files-until (g.Opens.Opener.files c.args.opener.now) (IsPageOf c.args.plan.now.is_document c.args.plan.now.table)
    c.args.plan.now.policy c.deref-name-items.result.now c.loop-name.name-index no_name
    (g.Output.Target.written c.args.output.now) (g.Output.Target.written c.loop-name.output) (g.Output.Target.written c.clean_file.new.output)
    (g.Errors.Target.written c.args.errors.now) (g.Errors.Target.written c.loop-name.errors) (g.Errors.Target.written c.clean_file.new.errors)
    c.in_err-clean_file.field-0.0 c.loop-name-test.true c.loop-name.invariant c.in_err-clean_file.ensures.err in
    rw (p.1, p.2) (rw c.deref-name-items.ensures.value at ended)

pub loop-name-preserved : goal.loop-name-preserved
loop-name-preserved g c =
    files-next (g.Opens.Opener.files c.args.opener.now) (IsPageOf c.args.plan.now.is_document c.args.plan.now.table)
    c.args.plan.now.policy c.deref-name-items.result.now c.loop-name.name-index no_name
    (g.Output.Target.written c.args.output.now) (g.Output.Target.written c.loop-name.output) (g.Output.Target.written c.clean_file.new.output)
    (g.Errors.Target.written c.args.errors.now) (g.Errors.Target.written c.loop-name.errors) (g.Errors.Target.written c.clean_file.new.errors)
    c.loop-name-test.true c.loop-name.invariant c.in_ok-clean_file.ensures.ok
