use Rattle.std.proofs.Common.{◌≡◌, take}
use Rattle.markup.specs.KnownSlots.{name_hash}
use Rattle.markup.proofs.known_names.hash_of.Given as goal

abbrev pub invariant-loop-byte : goal.invariant-loop-byte
invariant-loop-byte l = l.hash ≡ name_hash (take l.byte-index l.byte-items)
