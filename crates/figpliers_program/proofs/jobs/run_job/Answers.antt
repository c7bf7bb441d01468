use Rattle.std.proofs.Common.{ap}
use Rattle.std.specs.Prelude.{nat_lt}
use Rattle.figpliers_program.proofs.Made.{made-of-document, made-of-errors}
use Rattle.figpliers_program.proofs.jobs.run_job.Goals as goal

pub returns-in_ok-forest-in-OfDocument : goal.returns-in_ok-forest-in-OfDocument
returns-in_ok-forest-in-OfDocument g c =
    made-of-document c.args.work.now.table.now c.in-Ok.table c.args.work.now.asked.now c.in-OfDocument.job _ c.args.name.now
    c.args.bytes.items c.in_ok-forest-in-OfDocument.forest _ _ c.run_document.result c.in-Ok.ensures.ok c.in-OfDocument.is
    (ap (nat_lt 1) c.len-has_several.ensures) c.in_ok-forest-in-OfDocument.ensures.ok c.run_document.ensures

pub returns-in_ok-noted-in-OfErrors : goal.returns-in_ok-noted-in-OfErrors
returns-in_ok-noted-in-OfErrors g c =
    made-of-errors c.args.work.now.table.now c.in-Ok.table c.args.work.now.asked.now c.args.name.now c.args.bytes.items
    c.in_ok-noted-in-OfErrors.noted _ _ c.errors.result c.in-Ok.ensures.ok c.in-OfErrors.is c.in_ok-noted-in-OfErrors.ensures.ok
    c.in_ok-noted-in-OfErrors.ensures.all c.errors.ensures
