use Rattle.std.proofs.Common.{◌≡◌, Bor, List, ℕ, drop, map}
use Rattle.std.specs.Str.{chars}
use Rattle.html_clean.specs.Beginnings.{begins_with_one}
use Rattle.html_clean.proofs.pictures.begins_with_any.Given as goal

abbrev pub invariant-loop-beginning : goal.invariant-loop-beginning
invariant-loop-beginning l =
    begins_with_one (map (λ (beginning : Bor (List ℕ)). chars beginning.now) (drop l.beginning-index l.beginnings)) (chars l.text)
    ≡ begins_with_one (map (λ (beginning : Bor (List ℕ)). chars beginning.now) l.beginnings) (chars l.text)
