use Rattle.std.proofs.Common.{ℕ, List, subst}
use Rattle.html_ffi.specs.Calls.{IsCleanDocument, MeansCleaned}
use Rattle.html_ffi.proofs.fig_clean_document.Goals as goal

pub returns-clause-answer : goal.returns-clause-answer
returns-clause-answer c = record {
  answer = c.clean_document_by.result;
  is = c.number.ensures;
  says =
      subst (λ (file : List ℕ). MeansCleaned IsCleanDocument file c.args.page.now c.args.output.now
      c.clean_document_by.new.output c.clean_document_by.new.report c.clean_document_by.result)
      c.as_bytes.ensures.value c.clean_document_by.ensures.answer;
}
