use Rattle.std.proofs.Common.{◌≡◌, drop}
use Rattle.html_tokens.specs.Characters.{begins}
use Rattle.html_faithful_judge.proofs.raw.begins.Given as goal

abbrev pub invariant-loop-i : goal.invariant-loop-i
invariant-loop-i l = begins l.word l.bytes ≡ begins (drop l.i l.word) (drop l.i l.bytes)
