use Rattle.std.proofs.Common.{◌∙◌, ℕ, Vec, Global, Some, ap, refl}
use Rattle.devices.specs.VecWriter.{Growing}
use Rattle.html_pages.proofs.Again.{written-bytes}
use Rattle.html_pages.proofs.read_back.written.Goals as goal

pub returns-in-Ok-from_utf8-clause-ok : goal.returns-in-Ok-from_utf8-clause-ok
returns-in-Ok-from_utf8-clause-ok c =
    ap (λ (v : Vec ℕ Global). v.items) c.in-Ok-from_utf8.ensures.ok
    ∙ (c.into_bytes.ensures
    ∙ written-bytes c.args.forest.now c.document.result c.default.result _ _ c.serialize.new.writer.written
    c.keeps.ensures.is_forest.document_first c.document.ensures c.default.ensures
    (ap (λ (w : Growing). Some w.written) c.new-writer.ensures) (c.in-Ok.ensures.text _ refl) refl)
