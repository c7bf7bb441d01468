use Rattle.std.proofs.Common.{◌≡◌, ◌-◌, ◌≤◌, length, take}
use Rattle.std.specs.Io.KnownBytes.{append_known}
use Rattle.gathered_writes.proofs.write_out.Given as goal

abbrev pub invariant-loop-at : goal.invariant-loop-at
invariant-loop-at g l = record {
  within : l.at ≤ length l.bytes;
  so_far : g.W.Target.written l.writer ≡ append_known (g.W.Target.written l.fn.writer) (take l.at l.bytes);
  none_failed : g.W.Target.failures l.writer ≡ g.W.Target.failures l.fn.writer;
  same_references : g.W.Target.references l.writer ≡ g.W.Target.references l.fn.writer;
}

abbrev pub decreases-loop-at : goal.decreases-loop-at
decreases-loop-at g l = length l.bytes - l.at
