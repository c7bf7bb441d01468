use Rattle.std.proofs.Common.{◌≡◌, ◌++◌, ◌+◌, ◌≤◌, length, take, drop, reverse}
use Rattle.html_stack.proofs.formatting.moves.restack.Given as goal

abbrev pub invariant-loop-other : goal.invariant-loop-other
invariant-loop-other g l = record {
  below : length l.others.items ≤ length l.fn.others.items;
  rest : l.others.items ≡ take (length l.others.items) l.fn.others.items;
  at : l.at + length l.others.items ≡ l.from + length l.fn.others.items;
  items : l.items.items ≡ take l.from l.fn.items.items ++ (reverse (drop (length l.others.items) l.fn.others.items)
      ++ drop l.at l.fn.items.items);
}

abbrev pub decreases-loop-other : goal.decreases-loop-other
decreases-loop-other g l = goal.left-loop-other g l
