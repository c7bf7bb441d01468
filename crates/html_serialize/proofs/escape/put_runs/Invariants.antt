use Rattle.std.proofs.Common.{◌≡◌, ◌≤◌, ◌-◌, List, ℕ, ◌++◌, false, length, drop}
use Rattle.html_serialize.specs.Bytes.{IsNext, escape_bytes, is_replaced, mode_of}
use Rattle.html_serialize.specs.Puts.{told_by, with_bytes}
use Rattle.html_serialize.proofs.escape.put_runs.Given as goal

abbrev pub invariant-runs : goal.invariant-runs
invariant-runs g l = record {
  within : l.start ≤ length l.bytes;
  low : l.start ≤ l.at;
  next : IsNext (is_replaced (mode_of l.escaping)) l.bytes l.start l.at;
  done : (done : List ℕ) × ((escape_bytes (mode_of l.escaping) false l.bytes ≡ done
      ++ escape_bytes (mode_of l.escaping) false (drop l.start l.bytes))
      × (told_by g.Wr.Target.written g.Wr.Target.failures l.writer ≡ with_bytes
      (told_by g.Wr.Target.written g.Wr.Target.failures l.fn.writer) done));
  same_references : g.Wr.Target.references l.writer ≡ g.Wr.Target.references l.fn.writer;
}

abbrev pub decreases-runs : goal.decreases-runs
decreases-runs g l = length l.bytes - l.start
