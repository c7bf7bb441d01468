use Rattle.std.proofs.Common.{Some, ap, refl}
use Rattle.devices.specs.VecWriter.{Growing}
use Rattle.html_clean_document.specs.Clean.{IsFailed, IsFragmentOf, div_name}
use Rattle.html_ffi.proofs.Making.{cleaned-made, page-failed}
use Rattle.html_ffi.proofs.clean.kept_of_fragment.Goals as goal

pub returns-in-Ok-clause-ok : goal.returns-in-Ok-clause-ok
returns-in-Ok-clause-ok c =
    cleaned-made (IsFragmentOf c.args.table div_name) c.args.policy.now c.args.page.now _ c.new-writer.result.written _ c.in-Ok.counts
    (ap (λ (w : Growing). w.written) c.new-writer.ensures) (c.in-Ok.ensures.ok c.args.page.now (ap Some c.new.ensures))

pub returns-in-Err-clause-err : goal.returns-in-Err-clause-err
returns-in-Err-clause-err c file =
    page-failed file c.args.page.now
    (IsFailed (IsFragmentOf c.args.table div_name) c.args.policy.now (Some c.new.result.left.now)
    (Some c.clean_fragment.new.reader.left.now) (Some c.new-writer.result.written) (Some c.clean_fragment.new.writer.written))
    c.in-Err.fault c.from.result
    (λ at is. (is.1 c.args.page.now c.clean_fragment.new.reader.left.now (ap Some c.new.ensures) refl).front)
    c.from.ensures c.in-Err.ensures.err
