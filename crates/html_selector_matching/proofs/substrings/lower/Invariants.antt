use Rattle.std.proofs.Common.{◌≡◌, ◌++◌, drop, map}
use Rattle.std.specs.Char.{to_ascii_lowercase}
use Rattle.html_selector_matching.proofs.substrings.lower.Given as goal

abbrev pub invariant-loop-byte : goal.invariant-loop-byte
invariant-loop-byte l =
    l.buffer.items ++ map to_ascii_lowercase (drop l.byte-index l.bytes) ≡ map to_ascii_lowercase l.bytes
