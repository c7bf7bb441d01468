use Rattle.std.proofs.Common.{Some, ap, refl}
use Rattle.html_normal.specs.Normal.{IsInputFault}
use Rattle.html_ffi.proofs.Making.{page-failed}
use Rattle.html_ffi.proofs.Trees.{read-made}
use Rattle.html_ffi.proofs.tree.document_of.Goals as goal

pub returns-in-Ok-clause-ok : goal.returns-in-Ok-clause-ok
returns-in-Ok-clause-ok c = read-made _ _ _ _ (c.in-Ok.ensures.ok c.args.page.now (ap Some c.new.ensures))

pub returns-in-Err-clause-err : goal.returns-in-Err-clause-err
returns-in-Err-clause-err c file =
    page-failed file c.args.page.now
    (IsInputFault ⊥ (Some c.new.result.left.now) (Some c.read_document.new.reader.left.now)) c.in-Err.fault c.from.result
    (λ at is. (is c.args.page.now c.read_document.new.reader.left.now (ap Some c.new.ensures) refl).front)
    c.from.ensures c.in-Err.ensures.err
