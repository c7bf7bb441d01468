-- What holds of each row that fits holds of the first that does.
use Rattle.std.proofs.Common.{◌≡◌, Bool, true, false, refl}
use Rattle.html_rules.specs.Choice.{choose}
use Rattle.html_rules.specs.Table.{Row}

-- a row fits a token only if its class does
pub class_of_fits : (b : Bool) (g : Unit {0} → Bool) → choose b g (λ _. false) ≡ true → b ≡ true
class_of_fits true g h = refl
class_of_fits false g h = h

-- the row, if it fits, or another
pub by_fit : (P : Row → Type 0) (r other : Row) (b : Bool) → (b ≡ true → P r) → P other → P (choose b (λ _. r) (λ _. other))
by_fit P r other true f h = f refl
by_fit P r other false f h = h
