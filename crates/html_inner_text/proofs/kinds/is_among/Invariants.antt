use Rattle.std.proofs.Common.{◌≡◌, ℕ, List, false, take}
use denote.Bor.{Bor}
use Rattle.std.specs.List.{list_any}
use Rattle.std.specs.Str.{bytes_eq}
use Rattle.html_inner_text.proofs.kinds.is_among.Given as goal

abbrev pub invariant-loop-known : goal.invariant-loop-known
invariant-loop-known l = list_any (λ (known : Bor (List ℕ)). bytes_eq l.name known.now) (take l.known-index l.names) ≡ false
