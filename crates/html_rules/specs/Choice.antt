-- One of two values, of which only the one that is chosen is computed.
use Rattle.std.specs.Prelude.{Bool, true, false}

abbrev pub choose : {A : Type 0} → Bool → (Unit {0} → A) → (Unit {0} → A) → A
choose true one other = one tt
choose false one other = other tt
