use Rattle.std.proofs.Common.{◌≡◌, drop}
use Rattle.html_encodings.specs.Scanning.{begins}
use Rattle.html_encodings.proofs.scanning.begins.Given as goal

abbrev pub invariant-loop-letter : goal.invariant-loop-letter
invariant-loop-letter l = begins l.word l.bytes ≡ begins (drop l.letter-index l.word) l.rest
