use Rattle.std.proofs.Common.{[], ◌∷◌, ◌++◌}
use Rattle.std.specs.Prelude.{is_err}
use Rattle.html_clean_program.specs.Lines.{is_other, page_line}
use Rattle.html_clean_program.proofs.Reported.{reported, unreported}
use Rattle.html_clean_program.proofs.telling.report_page.Goals as goal

pub returns-then-is_other : goal.returns-then-is_other
returns-then-is_other g c =
    reported (is_other c.args.fault) c.is_other.result (page_line c.args.name.now c.args.fault ++ 10 ∷ []) _ _
    (is_err c.put_page_line.result) c.is_other.ensures c.if-is_other.true c.put_page_line.ensures.put

pub returns-else-is_other : goal.returns-else-is_other
returns-else-is_other g c =
    unreported (is_other c.args.fault) c.is_other.result (page_line c.args.name.now c.args.fault ++ 10 ∷ []) _
    c.is_other.ensures c.if-is_other.false
