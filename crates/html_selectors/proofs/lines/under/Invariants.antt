use Rattle.std.proofs.Common.{◌≡◌, ℕ, length, take}
use Rattle.std.specs.Prelude.{◌&&◌}
use Rattle.std.specs.List.{list_any}
use Rattle.markup.specs.Forest.{is_among, node_count}
use Rattle.html_selector_matching.specs.Around.{above}
use Rattle.html_selectors.specs.Columns.{at}
use Rattle.html_selectors.proofs.lines.under.Given as goal

abbrev pub invariant-loop-id : goal.invariant-loop-id
invariant-loop-id l = record {
  count : length l.under.items ≡ node_count l.index.forest.now;
  done : (n : ℕ) → at l.under.items n ≡ (is_among n (take l.id-index l.index.order.items)
      && (at l.wanted n && list_any (at l.column) (above l.index.forest.now n)));
}
