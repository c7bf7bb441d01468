use Rattle.std.proofs.Common.{◌≡◌, ◌-◌, ◌∙◌, arith}
use Rattle.html_queue.proofs.Taking.{cut_at, takes_bytes}
use Rattle.html_queue.proofs.queue.BufferQueue.skip.Goals as goal

pub range-requires-clause-end_boundary : goal.range-requires-clause-end_boundary
range-requires-clause-end_boundary c = rw (c.as_str-waiting.ensures)
    (cut_at _ _ (rw c.as_str-waiting.ensures at c.as_str-waiting.utf8) (rw (← c.self.view_is) at c.requires))

pub skip-requires : goal.skip-requires
skip-requires c = cut_at _ _ (rw c.as_str-waiting.ensures at c.as_str-waiting.utf8) (rw (← c.self.view_is) at c.requires)

pub returns : goal.returns
returns c =
    let waits = c.as_str-waiting.ensures in
    let front = c.as_bytes.ensures.value ∙ c.range.ensures.value in
    let all : c.args.width - 0 ≡ c.args.width = omega arith in
    let counted = rw (front, all) at c.add.ensures in
    rw (← c.self.view_is) (takes_bytes _ _ _ _ _ (rw waits at c.as_str-waiting.utf8)
    (rw (← c.self.view_is) at c.requires) c.skip.ensures (rw waits at counted))
