use Rattle.std.proofs.Common.{ℕ, List, subst}
use Rattle.html_ffi.specs.Trees.{MeansFragmentTree}
use Rattle.html_ffi.proofs.fig_fragment_tree.Goals as goal

pub returns-clause-answer : goal.returns-clause-answer
returns-clause-answer c = record {
  answer = c.fragment_tree_by.result;
  is = c.number.ensures;
  says =
      subst (λ (file : List ℕ). MeansFragmentTree file c.args.context.now c.args.page.now c.args.output.now c.fragment_tree_by.new.output
      c.fragment_tree_by.new.report c.fragment_tree_by.result)
      c.as_bytes.ensures.value c.fragment_tree_by.ensures.answer;
}
