use Rattle.std.proofs.Common.{◌≡◌, ◌+◌, ◌≤◌, length, take}
use Rattle.std.specs.List.{suffix_len}
use Rattle.html_encodings.specs.Scanning.{has}
use Rattle.html_encodings.specs.declared.scanning.Class.TheVariants.{Space}
use Rattle.html_encodings.proofs.scanning.trimmed.Given as goal

abbrev pub invariant-loop-count : goal.invariant-loop-count
invariant-loop-count l = record {
  within : l.count ≤ length l.rest;
  rest : l.count + suffix_len (has Space) l.rest ≡ length l.rest + suffix_len (has Space) (take l.count l.rest);
}

abbrev pub decreases-loop-count : goal.decreases-loop-count
decreases-loop-count l = l.count
