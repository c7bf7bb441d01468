use Rattle.std.proofs.Common.{ℕ, List, subst}
use Rattle.html_ffi.specs.Policies.{MeansDocumentBy}
use Rattle.html_ffi.proofs.fig_clean_document_by.Goals as goal

pub returns-clause-answer : goal.returns-clause-answer
returns-clause-answer c = record {
  answer = c.clean_document_with.result;
  is = c.number.ensures;
  says =
      subst (λ (file : List ℕ). MeansDocumentBy file c.args.policy.now c.args.page.now c.args.output.now
      c.clean_document_with.new.output c.clean_document_with.new.report c.clean_document_with.result)
      c.as_bytes.ensures.value c.clean_document_with.ensures.answer;
}
