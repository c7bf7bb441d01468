use Rattle.std.proofs.Common.{◌≡◌, ℕ, drop, true}
use Rattle.std.specs.Prelude.{◌&&◌}
use Rattle.std.specs.List.{list_all}
use Rattle.html_selector_matching.specs.Around.{is_element}
use Rattle.html_selector_matching.specs.Simples.{is_simple}
use Rattle.html_selectors.specs.Columns.{at}
use Rattle.html_selectors.proofs.keeping.keep_simples.Given as goal

abbrev pub invariant-loop-simple : goal.invariant-loop-simple
invariant-loop-simple l = record {
  elements : (n : ℕ) → at l.column.items n ≡ true → is_element l.index.forest.now n ≡ true;
  done : (n : ℕ) → (at l.column.items n && list_all (is_simple l.index.forest.now l.scope n) (drop l.simple-index l.simples))
      ≡ (at l.fn.column.items n && list_all (is_simple l.index.forest.now l.scope n) l.simples);
}
