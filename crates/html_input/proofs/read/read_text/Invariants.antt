use Rattle.std.proofs.Common.{◌≡◌, ◌-◌, ◌^◌, length, vec_len}
use Rattle.std.specs.Io.KnownBytes.{prepend_known}
use Rattle.html_input.specs.Reading.{IsFront}
use Rattle.html_input.proofs.read.read_text.Given as goal

abbrev pub invariant-loop-count : goal.invariant-loop-count
invariant-loop-count g l = record {
  moved : g.R.Source.left l.fn.reader ≡ prepend_known l.bytes.items (g.R.Source.left l.reader);
  front : IsFront l.bytes.items l.valid;
  counted : g.R.Source.failures l.reader ≡ g.R.Source.failures l.fn.reader;
  room : length l.buffer ≡ 32768;
  same_references : g.R.Source.references l.reader ≡ g.R.Source.references l.fn.reader;
}

abbrev pub decreases-loop-count : goal.decreases-loop-count
decreases-loop-count g l = 2 ^ 64 - vec_len l.bytes
