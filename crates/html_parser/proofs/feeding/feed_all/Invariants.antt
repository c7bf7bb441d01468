use Rattle.std.proofs.Common.{length}
use Rattle.html_tokenizer.specs.Calls.{IsReadyIf, refusal_of}
use Rattle.html_parser.proofs.Feeds.{IsFeeding}
use Rattle.html_parser.proofs.feeding.feed_all.Given as goal

abbrev pub invariant-loop : goal.invariant-loop
invariant-loop g l =
    IsFeeding g.Sink.TokenSink (refusal_of l.fn.tokenizer) l.fn.tokenizer l.tokenizer l.fn.input l.input
    × IsReadyIf g.Sink.TokenSink (refusal_of l.tokenizer) l.tokenizer

abbrev pub decreases-loop : goal.decreases-loop
decreases-loop g l = length l.input.characters
