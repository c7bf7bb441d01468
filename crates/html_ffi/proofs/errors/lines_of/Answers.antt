use Rattle.std.proofs.Common.{◌∙◌, ◌++◌, ap}
use Rattle.html_ffi.specs.Errors.{error_line}
use Rattle.html_ffi.proofs.Lines.{lines-next}
use Rattle.html_ffi.proofs.errors.lines_of.Goals as goal

pub loop-error-preserved : goal.loop-error-preserved
loop-error-preserved c =
    c.in_ok-push_line.ensures ∙ ap (λ text. text ++ error_line c.error-item.result) c.loop-error.invariant
    ∙ lines-next error_line c.args.errors.now c.loop-error.error-index c.error-item.result c.error-item.result c.loop-error-test.true c.error-item.is
