use Rattle.std.proofs.Common.{length}
use Rattle.html_decoded_pages.proofs.Going.{Seeks}
use Rattle.html_decoded_pages.proofs.pauses.next_encoding.Given as goal

abbrev pub invariant-loop-label : goal.invariant-loop-label
invariant-loop-label g l = Seeks g.S.TokenSink l.fn.tokenizer l.tokenizer l.fn.input.characters l.input.characters

abbrev pub decreases-loop-label : goal.decreases-loop-label
decreases-loop-label g l = length l.input.characters
