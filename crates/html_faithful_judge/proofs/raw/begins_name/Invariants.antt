use Rattle.std.proofs.Common.{◌≡◌, ◌≤◌, drop, length, map}
use Rattle.std.specs.Char.{to_ascii_lowercase}
use Rattle.html_tokens.specs.Characters.{begins_name}
use Rattle.html_faithful_judge.proofs.raw.begins_name.Given as goal

abbrev pub invariant-loop-i : goal.invariant-loop-i
invariant-loop-i l = (l.i ≤ length l.bytes)
    × (begins_name (map to_ascii_lowercase l.name) l.bytes ≡ begins_name (map to_ascii_lowercase (drop l.i l.name)) (drop l.i l.bytes))
