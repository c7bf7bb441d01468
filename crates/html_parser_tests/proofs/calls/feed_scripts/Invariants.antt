use Rattle.html_tokenizer.specs.Calls.{IsReadyIf, refusal_of}
use Rattle.html_parser.specs.Documents.{builder}
use Rattle.html_parser_tests.proofs.calls.feed_scripts.Given as goal

abbrev pub invariant-pauses : goal.invariant-pauses
invariant-pauses g l = IsReadyIf (builder g.Sink.TreeSink) (refusal_of l.parser.tokenizer) l.parser.tokenizer
