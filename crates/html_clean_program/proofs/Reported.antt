-- What is reported of a fault, by whether it has a line.
use Rattle.std.proofs.Common.{◌≡◌, ℕ, Bool, true, false, List, Option, refl}
use Rattle.std.specs.Bool.{MatchBool}
use Rattle.html_normal_program.specs.Streams.{IsPut}

-- it has one, which was written, or a beginning of it
pub reported : (has asked : Bool) (line : List ℕ) (errors errors' : Option (List ℕ)) (failed : Bool) → asked ≡ has → asked ≡ true
    → IsPut line errors errors' failed
    → MatchBool has ((failed : Bool) × IsPut line errors errors' failed) (errors' ≡ errors)
reported true asked line errors errors' failed is so put = (failed, put)
reported false true line errors errors' failed is so put = absurd cc
reported false false line errors errors' failed is so put = absurd cc

-- it has none
pub unreported : (has asked : Bool) (line : List ℕ) (errors : Option (List ℕ)) → asked ≡ has → asked ≡ false
    → MatchBool has ((failed : Bool) × IsPut line errors errors failed) (errors ≡ errors)
unreported false asked line errors is none = refl
unreported true true line errors is none = absurd cc
unreported true false line errors is none = absurd cc
