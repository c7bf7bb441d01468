use Rattle.html_tokenizer.specs.Calls.{IsReadyIf, refusal_of}
use Rattle.html_parser_tests.proofs.built.feed_to_end.Given as goal

abbrev pub invariant-loop-piece : goal.invariant-loop-piece
invariant-loop-piece g l = IsReadyIf g.Sink.TokenSink (refusal_of l.tokenizer) l.tokenizer
