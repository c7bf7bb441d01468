use Rattle.std.proofs.Common.{ℕ, List, subst}
use Rattle.html_ffi.specs.Calls.{IsCleanFragment, MeansCleaned}
use Rattle.html_ffi.proofs.fig_clean.Goals as goal

pub returns-clause-answer : goal.returns-clause-answer
returns-clause-answer c = record {
  answer = c.clean_fragment_by.result;
  is = c.number.ensures;
  says =
      subst (λ (file : List ℕ). MeansCleaned IsCleanFragment file c.args.page.now c.args.output.now
      c.clean_fragment_by.new.output c.clean_fragment_by.new.report c.clean_fragment_by.result)
      c.as_bytes.ensures.value c.clean_fragment_by.ensures.answer;
}
