use Rattle.std.proofs.Common.{ℕ, List, subst}
use Rattle.html_ffi.specs.Calls.{IsNormalText, MeansText}
use Rattle.html_ffi.proofs.fig_normalise.Goals as goal

pub returns-clause-answer : goal.returns-clause-answer
returns-clause-answer c = record {
  answer = c.normalise_by.result;
  is = c.number.ensures;
  says =
      subst (λ (file : List ℕ). MeansText IsNormalText file c.args.page.now c.args.output.now
      c.normalise_by.new.output c.normalise_by.new.report c.normalise_by.result)
      c.as_bytes.ensures.value c.normalise_by.ensures.answer;
}
