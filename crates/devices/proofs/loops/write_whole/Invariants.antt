use Rattle.std.proofs.Common.{◌≡◌, ◌-◌, ◌≤◌, length, take}
use Rattle.std.specs.Io.KnownBytes.{append_known}
use Rattle.devices.proofs.loops.write_whole.Given as goal

abbrev pub invariant-loop-at : goal.invariant-loop-at
invariant-loop-at g l = record {
  within : l.at ≤ length l.bytes;
  so_far : g.T.Target.written l.target ≡ append_known (g.T.Target.written l.fn.target) (take l.at l.bytes);
  none_failed : g.T.Target.failures l.target ≡ g.T.Target.failures l.fn.target;
  same_references : g.T.Target.references l.target ≡ g.T.Target.references l.fn.target;
}

abbrev pub decreases-loop-at : goal.decreases-loop-at
decreases-loop-at g l = length l.bytes - l.at
