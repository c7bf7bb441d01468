use Rattle.std.proofs.Common.{length}
use Rattle.figpliers.specs.TokenizerCalls.{IsReadyIf, refusal_of}
use Rattle.examples.proofs.Listing.{sink}
use Rattle.examples.proofs.tokens.tokens.Given as goal

abbrev pub invariant-loop-tokenizer : goal.invariant-loop-tokenizer
invariant-loop-tokenizer l = IsReadyIf sink (refusal_of l.tokenizer) l.tokenizer

abbrev pub decreases-loop-tokenizer : goal.decreases-loop-tokenizer
decreases-loop-tokenizer l = length l.input.characters
