use Rattle.std.proofs.Common.{refl, rules}
use Rattle.html_input.proofs.Utf8.{moved-more, moved-none}
use Rattle.figpliers_program.proofs.pages.read_bytes.Goals as goal

pub loop-count-init : goal.loop-count-init
loop-count-init g c = record { moved = moved-none _ _ c.new-bytes.ensures.items; room = refl }

pub loop-count-preserved : goal.loop-count-preserved
loop-count-preserved g c = record {
  moved = rw c.in_ok-extend_from_slice.ensures.items (moved-more _ _ _ _ _ c.loop-count.invariant.moved c.in-Ok.ensures.moved);
  room = search rules;
}
