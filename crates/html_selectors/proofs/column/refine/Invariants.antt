use Rattle.std.proofs.Common.{◌≡◌, ℕ, true, false, take}
use Rattle.markup.specs.Forest.{is_among}
use Rattle.html_selectors.specs.Columns.{Refines, at}
use Rattle.html_selectors.proofs.column.refine.Given as goal

abbrev pub invariant-loop-id : goal.invariant-loop-id
invariant-loop-id g l = record {
  done : (n : ℕ) → is_among n (take l.id-index l.index.order.items) ≡ true
      → Refines (goal.F-post g l.fn.test n) (at l.fn.column.items n) (at l.column.items n);
  rest : (n : ℕ) → is_among n (take l.id-index l.index.order.items) ≡ false → at l.column.items n ≡ at l.fn.column.items n;
}
