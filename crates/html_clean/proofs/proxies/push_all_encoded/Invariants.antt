use Rattle.std.proofs.Common.{◌≡◌, ◌++◌, take}
use Rattle.std.specs.List.{flat_map}
use Rattle.html_clean.specs.Proxies.{encoded_byte}
use Rattle.html_clean.proofs.proxies.push_all_encoded.Given as goal

abbrev pub invariant-loop-byte : goal.invariant-loop-byte
invariant-loop-byte l = l.text ≡ l.fn.text ++ flat_map encoded_byte (take l.byte-index l.bytes)
