use Rattle.std.proofs.Common.{length}
use Rattle.html_decoded_pages.proofs.Reading.{Reaches}
use Rattle.html_decoded_pages.proofs.pauses.read_on.Given as goal

abbrev pub invariant-loop : goal.invariant-loop
invariant-loop g l = Reaches g.S.TokenSink l.fn.tokenizer l.tokenizer l.fn.input l.input

abbrev pub decreases-loop : goal.decreases-loop
decreases-loop g l = length l.input.characters
