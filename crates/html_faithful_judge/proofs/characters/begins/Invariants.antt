use Rattle.std.proofs.Common.{◌≡◌, drop}
use Rattle.html_tokens.specs.Characters.{begins}
use Rattle.html_faithful_judge.proofs.characters.begins.Given as goal

abbrev pub invariant-loop-i : goal.invariant-loop-i
invariant-loop-i l = begins l.word l.text ≡ begins (drop l.i l.word) (drop l.i l.text)
