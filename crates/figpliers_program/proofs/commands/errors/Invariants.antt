use Rattle.std.proofs.Common.{◌≡◌, map, take}
use Rattle.figpliers.specs.Puts.{told_by, with_bytes}
use Rattle.figpliers_program.specs.Pages.{error_lines, note_of}
use Rattle.figpliers_program.proofs.commands.errors.Given as goal

-- the lines of the errors so far were written
abbrev pub invariant-loop-error : goal.invariant-loop-error
invariant-loop-error g l = told_by g.W.Target.written g.W.Target.failures l.writer
    ≡ with_bytes (told_by g.W.Target.written g.W.Target.failures l.fn.writer)
    (error_lines l.name (map note_of (take l.error-index l.error-items)))
