use Rattle.std.proofs.Common.{ℕ, List, subst}
use Rattle.html_ffi.specs.Calls.{MeansText}
use Rattle.html_ffi.specs.Errors.{IsErrorList}
use Rattle.html_ffi.proofs.fig_errors.Goals as goal

pub returns-clause-answer : goal.returns-clause-answer
returns-clause-answer c = record {
  answer = c.errors_by.result;
  is = c.number.ensures;
  says =
      subst (λ (file : List ℕ). MeansText IsErrorList file c.args.page.now c.args.output.now c.errors_by.new.output
      c.errors_by.new.report c.errors_by.result)
      c.as_bytes.ensures.value c.errors_by.ensures.answer;
}
