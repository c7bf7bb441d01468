-- Which call of a device over memory is the one that fails.
use Rattle.std.specs.Prelude.{ℕ, ◌-◌, Bool, false, ◌==◌, Option, Some, None}
use Rattle.std.specs.Option.{option_map}

-- whether the next call fails, where the call of this number, counted from 1, does
abbrev pub fails_next : Option ℕ → Bool
fails_next None = false
fails_next (Some n) = n == 1

-- the number of the call that fails, counted from after the next call; 0 is no call's number
abbrev pub after_call : Option ℕ → Option ℕ
after_call fails_in = option_map (λ n. n - 1) fails_in
