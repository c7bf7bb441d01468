use Rattle.html_tokenizer.specs.Calls.{IsReadyIf, refusal_of}
use Rattle.html_parser_tests.proofs.built.feed_piece.Given as goal

abbrev pub invariant-pauses : goal.invariant-pauses
invariant-pauses g l = IsReadyIf g.Sink.TokenSink (refusal_of l.tokenizer) l.tokenizer
