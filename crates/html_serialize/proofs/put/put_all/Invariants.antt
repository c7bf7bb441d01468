use Rattle.std.proofs.Common.{◌≡◌, take}
use Rattle.html_serialize.specs.Puts.{joined, told_by, with_bytes}
use Rattle.html_serialize.proofs.put.put_all.Given as goal

abbrev pub invariant-loop-part : goal.invariant-loop-part
invariant-loop-part g l = record {
  so_far : told_by g.Wr.Target.written g.Wr.Target.failures l.writer ≡ with_bytes
      (told_by g.Wr.Target.written g.Wr.Target.failures l.fn.writer) (joined (take l.part-index l.parts));
  same_references : g.Wr.Target.references l.writer ≡ g.Wr.Target.references l.fn.writer;
}
