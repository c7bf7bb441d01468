use Rattle.std.proofs.lemmas.Result.{IfErr-weaker, IfOk-weaker}
use Rattle.figpliers_program.proofs.Sources.{file-unread}
use Rattle.figpliers_program.proofs.pages.read_file.Goals as goal

pub returns-in-Some-clause-ok : goal.returns-in-Some-clause-ok
returns-in-Some-clause-ok g c = IfOk-weaker c.read_bytes.result _ _ (λ bytes is.
    (g.File.Source.left c.in-Some.file, g.File.Source.left c.read_bytes.new.reader, c.in-Some.ensures.opened, is))
    c.read_bytes.ensures.ok

pub returns-in-Some-clause-err : goal.returns-in-Some-clause-err
returns-in-Some-clause-err g c =
    IfErr-weaker c.read_bytes.result _ _ (λ fault is. file-unread _ _ fault c.in-Some.ensures.opened is) c.read_bytes.ensures.err
