use Rattle.std.proofs.Common.{[], ◌∷◌, ◌++◌}
use Rattle.std.specs.Prelude.{is_err}
use Rattle.html_clean_program.specs.Lines.{fault_words, has_line}
use Rattle.html_clean_program.proofs.Reported.{reported, unreported}
use Rattle.html_clean_program.proofs.telling.report.Goals as goal

pub returns-then-has_line : goal.returns-then-has_line
returns-then-has_line g c =
    reported (has_line c.args.fault.now) c.has_line.result (fault_words c.args.fault.now ++ 10 ∷ []) _ _
    (is_err c.put_line.result) c.has_line.ensures c.if-has_line.true c.put_line.ensures.put

pub returns-else-has_line : goal.returns-else-has_line
returns-else-has_line g c =
    unreported (has_line c.args.fault.now) c.has_line.result (fault_words c.args.fault.now ++ 10 ∷ []) _
    c.has_line.ensures c.if-has_line.false
