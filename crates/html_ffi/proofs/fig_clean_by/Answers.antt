use Rattle.std.proofs.Common.{ℕ, List, subst}
use Rattle.html_ffi.specs.Policies.{MeansFragmentBy}
use Rattle.html_ffi.proofs.fig_clean_by.Goals as goal

pub returns-clause-answer : goal.returns-clause-answer
returns-clause-answer c = record {
  answer = c.clean_fragment_with.result;
  is = c.number.ensures;
  says =
      subst (λ (file : List ℕ). MeansFragmentBy file c.args.policy.now c.args.page.now c.args.output.now
      c.clean_fragment_with.new.output c.clean_fragment_with.new.report c.clean_fragment_with.result)
      c.as_bytes.ensures.value c.clean_fragment_with.ensures.answer;
}
