use Rattle.std.proofs.Common.{map, take}
use Rattle.html_clean_program.specs.Program.{AreDone, IsPageOf}
use Rattle.html_clean_program.proofs.cleaning.clean_files.Given as goal

abbrev pub invariant-loop-name : goal.invariant-loop-name
invariant-loop-name g l =
    AreDone (g.Opens.Opener.files l.fn.opener) (IsPageOf l.fn.plan.is_document l.fn.plan.table) l.fn.plan.policy
    (map (λ name. name.now) (take l.name-index l.name-items)) (g.Output.Target.written l.fn.output) (g.Output.Target.written l.output)
    (g.Errors.Target.written l.fn.errors) (g.Errors.Target.written l.errors)
