use Rattle.std.proofs.Common.{◌∙◌, arith, length-drop}
use Rattle.std.proofs.lemmas.List.{take_rest}
use Rattle.devices.proofs.DeviceLemmas.{append_known-take_more, count_after-taken}
use Rattle.gathered_writes.proofs.write_out.Goals as goal

pub loop-at-preserved : goal.loop-at-preserved
loop-at-preserved g c =
    let within = rw (take_rest c.args.bytes.now c.loop-at.at) at c.in-Ok.ensures.within in
    let moved = rw (take_rest c.args.bytes.now c.loop-at.at) at c.in-Ok.ensures.moved in
    record {
      within = omega (arith, within, length-drop c.loop-at.at c.args.bytes.now);
      so_far = append_known-take_more _ _ _ c.args.bytes.now c.loop-at.at c.in-Ok.count c.loop-at.invariant.so_far moved;
      none_failed = c.in-Ok.ensures.counted ∙ count_after-taken _ _ _ c.if-count-eq0.false ∙ c.loop-at.invariant.none_failed;
      same_references = c.in-Ok.ensures.same_references ∙ c.loop-at.invariant.same_references;
    }
