use Rattle.std.proofs.Common.{drop, map}
use Rattle.std.specs.String.{string_bytes}
use Rattle.figpliers.specs.Puts.{WriterView, told_by}
use Rattle.figpliers_program.specs.Jobs.{IsMadeOf}
use Rattle.figpliers_program.specs.Outcome.{AreDone, Stream}
use Rattle.figpliers_program.specs.declared.faults.Verdict.{Verdict}
use Rattle.figpliers_program.specs.declared.faults.Verdict.TheVariants.{Nothing}
use Rattle.figpliers_program.proofs.jobs.run_files.Given as goal

-- what is made of the pages that are left is made of all
abbrev pub invariant-loop-name : goal.invariant-loop-name
invariant-loop-name g l = (left' : Stream) (out' : WriterView) (errors' : Stream) (verdict : Verdict)
    → AreDone (g.Opens.Opener.files l.fn.opener) (IsMadeOf l.fn.work.table.now l.fn.work.asked.now)
    (map string_bytes (drop l.name-index l.name-items)) l.verdict (g.Input.Source.left l.input) left'
    (told_by g.Output.Target.written g.Output.Target.failures l.output) out' (g.Errors.Target.written l.errors) errors' verdict
    → AreDone (g.Opens.Opener.files l.fn.opener) (IsMadeOf l.fn.work.table.now l.fn.work.asked.now)
    (map string_bytes l.name-items) Nothing (g.Input.Source.left l.fn.input) left'
    (told_by g.Output.Target.written g.Output.Target.failures l.fn.output) out' (g.Errors.Target.written l.fn.errors) errors' verdict
