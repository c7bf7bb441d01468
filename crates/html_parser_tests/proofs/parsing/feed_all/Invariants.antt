use Rattle.html_tokenizer.specs.Calls.{IsReadyIf, refusal_of}
use Rattle.html_parser.specs.Documents.{builder}
use Rattle.html_parser.specs.Read.{stopped_by}
use Rattle.html_parser_tests.proofs.parsing.feed_all.Given as goal

abbrev pub invariant-loop-piece : goal.invariant-loop-piece
invariant-loop-piece g l = IsReadyIf (builder g.Sink.TreeSink)
    (stopped_by l.parser.has_failed (refusal_of l.parser.tokenizer)) l.parser.tokenizer
