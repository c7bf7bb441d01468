use Rattle.std.proofs.Common.{◌≡◌, take, encode_utf8_all}
use Rattle.markup.specs.Escape.{written_attributes}
use Rattle.html_serialize.specs.Puts.{told_by, with_bytes}
use Rattle.html_serialize.proofs.tags.put_attributes.Given as goal

abbrev pub invariant-loop-attribute : goal.invariant-loop-attribute
invariant-loop-attribute g l = record {
  so_far : told_by g.Wr.Target.written g.Wr.Target.failures l.writer ≡ with_bytes
      (told_by g.Wr.Target.written g.Wr.Target.failures l.fn.writer)
      (encode_utf8_all (written_attributes (take l.attribute-index l.attrs)));
  same_references : g.Wr.Target.references l.writer ≡ g.Wr.Target.references l.fn.writer;
}
