use Rattle.std.proofs.Common.{◌≡◌, drop}
use Rattle.html_clean.specs.Checks.{unsafe_scheme}
use Rattle.html_clean.proofs.checked.unsafe_scheme.Given as goal

abbrev pub invariant-loop-scheme : goal.invariant-loop-scheme
invariant-loop-scheme l = unsafe_scheme l.pictures (drop l.scheme-index l.schemes) ≡ unsafe_scheme l.pictures l.schemes
