use Rattle.std.proofs.Common.{◌≡◌, length}
use Rattle.html_encodings.specs.Prescan.{after_word}
use Rattle.html_encodings.proofs.declarations.after_word.Given as goal

abbrev pub invariant-loop-rest : goal.invariant-loop-rest
invariant-loop-rest l = after_word l.word l.bytes ≡ after_word l.word l.rest

abbrev pub decreases-loop-rest : goal.decreases-loop-rest
decreases-loop-rest l = length l.rest
