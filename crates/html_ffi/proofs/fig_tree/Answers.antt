use Rattle.std.proofs.Common.{ℕ, List, subst}
use Rattle.html_ffi.specs.Trees.{MeansTree}
use Rattle.html_ffi.proofs.fig_tree.Goals as goal

pub returns-clause-answer : goal.returns-clause-answer
returns-clause-answer c = record {
  answer = c.tree_by.result;
  is = c.number.ensures;
  says =
      subst (λ (file : List ℕ). MeansTree file c.args.page.now c.args.output.now c.tree_by.new.output
      c.tree_by.new.report c.tree_by.result)
      c.as_bytes.ensures.value c.tree_by.ensures.answer;
}
