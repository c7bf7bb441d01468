use Rattle.std.proofs.Common.{ℕ, List, subst}
use Rattle.html_ffi.specs.Trees.{MeansPlacedTree}
use Rattle.html_ffi.proofs.fig_placed_tree.Goals as goal

pub returns-clause-answer : goal.returns-clause-answer
returns-clause-answer c = record {
  answer = c.placed_tree_by.result;
  is = c.number.ensures;
  says =
      subst (λ (file : List ℕ). MeansPlacedTree file c.args.page.now c.args.output.now c.placed_tree_by.new.output
      c.placed_tree_by.new.report c.placed_tree_by.result)
      c.as_bytes.ensures.value c.placed_tree_by.ensures.answer;
}
