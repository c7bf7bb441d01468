use Rattle.std.proofs.Common.{◌≡◌, ◌++◌, codes}
use Rattle.std.specs.List.{flat_map}
use Rattle.std.specs.String.{string_bytes}
use Rattle.html_listings.specs.Json.{in_string}
use Rattle.html_listings.proofs.json.push_string.Given as goal

abbrev pub invariant-loop-c : goal.invariant-loop-c
invariant-loop-c l = string_bytes l.json ≡ (string_bytes l.fn.json ++ codes "\"") ++ flat_map in_string l.yielded
