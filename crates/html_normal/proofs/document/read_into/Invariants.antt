use Rattle.std.proofs.Common.{◌≡◌, ◌-◌, ◌+◌, ◌^◌, ◌<◌, length, ℕ, List}
use Rattle.std.specs.Str.{chars}
use Rattle.html_parser.specs.Documents.{builder}
use Rattle.html_parser.specs.Read.{ReadsOn}
use Rattle.html_normal.specs.Parsing.{IsAtRest}
use Rattle.html_normal.proofs.Decoding.{IsDecoded}
use Rattle.html_normal.proofs.document.read_into.Given as goal

abbrev pub invariant-loop-count : goal.invariant-loop-count
invariant-loop-count g l = record {
  decoded : (decoded : List ℕ)
      × (IsDecoded (g.R.Source.left l.fn.reader) (g.R.Source.left l.reader) decoded l.held.items l.taken
      × ReadsOn (builder g.Sink.TreeSink) l.fn.parser.tokenizer l.parser.tokenizer (chars decoded));
  rest : IsAtRest g.Sink.TreeSink l.parser.has_failed l.parser.tokenizer l.parser.input_buffer;
  small : l.taken + length l.held.items < 2 ^ 64;
  counted : g.R.Source.failures l.reader ≡ g.R.Source.failures l.fn.reader;
  room : length l.buffer ≡ 32768;
  same_references : g.R.Source.references l.reader ≡ g.R.Source.references l.fn.reader;
}

abbrev pub decreases-loop-count : goal.decreases-loop-count
decreases-loop-count g l = 2 ^ 64 - (l.taken + length l.held.items)
