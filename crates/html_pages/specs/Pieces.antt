-- Parsers that take texts in pieces.
use Rattle.std.specs.Prelude.{◌≡◌, [], None}
use Rattle.markup.specs.declared.tree_sink.TreeSink.{Ghosts as TreeGhosts}
use Rattle.html_parser.specs.Documents.{builder}
use Rattle.html_parser.specs.Read.{stopped_by}
use Rattle.html_parser.specs.declared.parser.Parser.{Parser}
use Rattle.html_tokenizer.specs.Calls.{IsReady, refusal_of}

-- Nothing stands against a call of a parser, and nothing waits.
pub record IsOpen {K H O : Type 0} (Sink : TreeGhosts K H O) (p : Parser K H O) : Type 0 where
  pub begun : stopped_by p.has_failed (refusal_of p.tokenizer) ≡ None
  pub ready : IsReady (builder Sink) p.tokenizer
  pub empty : p.input_buffer.characters ≡ []
