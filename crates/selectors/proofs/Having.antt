-- A text that has another one somewhere.
use Rattle.std.proofs.Common.{◌≡◌, ◌+◌, ◌<◌, ℕ, Bool, true, false, List, ◌∷◌, length, drop, refl, add-one, drop-cons, get_or}
use Rattle.std.specs.Prelude.{◌||◌}
use Rattle.selectors.specs.Compare.{begins, has}

step-cons : (alike : Bool) (rest text wanted : List ℕ) (b : ℕ) → text ≡ b ∷ rest
    → has alike text wanted ≡ (begins alike text wanted || has alike rest wanted)
step-cons alike rest text wanted b e = rw e refl

pub has-step : (alike : Bool) (i : ℕ) (text wanted : List ℕ) → i < length text
    → has alike (drop i text) wanted ≡ (begins alike (drop i text) wanted || has alike (drop (i + 1) text) wanted)
has-step alike i text wanted h =
    let e : drop i text ≡ get_or text i 0 ∷ drop (i + 1) text = rw add-one (drop-cons text i 0 h) in
    step-cons alike (drop (i + 1) text) (drop i text) wanted (get_or text i 0) e

pub or-true : (b c r : Bool) → r ≡ (b || c) → b ≡ true → r ≡ true
or-true true c r e h = e
or-true false c r e h = absurd (cc)

pub or-false : (b c r : Bool) → r ≡ (b || c) → b ≡ false → r ≡ c
or-false true c r e h = absurd (cc)
or-false false c r e h = e
