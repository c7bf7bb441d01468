use Rattle.std.proofs.Common.{◌≡◌, [], drop}
use Rattle.html_clean.specs.Values.{joined_after}
use Rattle.html_clean.proofs.words.joined.Given as goal

abbrev pub invariant-loop-word : goal.invariant-loop-word
invariant-loop-word l = joined_after l.text (drop l.word-index l.words) ≡ joined_after [] l.words
