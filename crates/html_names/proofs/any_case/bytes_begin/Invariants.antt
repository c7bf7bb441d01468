use Rattle.std.proofs.Common.{◌≡◌, drop}
use Rattle.html_tokens.specs.Characters.{begins_any_case}
use Rattle.html_names.proofs.any_case.bytes_begin.Given as goal

abbrev pub invariant-loop-i : goal.invariant-loop-i
invariant-loop-i l = begins_any_case l.word l.text ≡ begins_any_case (drop l.i l.word) (drop l.i l.text)
