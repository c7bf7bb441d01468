use Rattle.std.proofs.Common.{◌≡◌, ◌-◌, length}
use Rattle.html_encodings.specs.Prescan.{scan}
use Rattle.html_encodings.proofs.declarations.scan.Given as goal

abbrev pub invariant-loop-count : goal.invariant-loop-count
invariant-loop-count l = scan (length l.bytes) l.bytes ≡ scan (length l.bytes - l.count) l.rest
