-- What a device tells of its bytes and of its failures.
use Rattle.std.specs.Prelude.{ℕ, ◌+◌, ◌-◌, ◌^◌, Bool, true, false, ◌&&◌, ◌==◌, nat_lt, if◌then◌else◌, List, length, Option}
use Rattle.std.specs.Prelude.{Some, None, Result, Ok, Err}
use Rattle.std.specs.Option.{option_map}

-- a count of failures after one more: at u64::MAX it stays
abbrev pub one_more : ℕ → ℕ
one_more n = if nat_lt n (2 ^ 64 - 1) then n + 1 else n

-- a count of failures, where it is told, after a call that failed or did not
abbrev pub count_after : Bool → Option ℕ → Option ℕ
count_after true count = option_map one_more count
count_after false count = count

-- of a source: who tells how often it failed tells its bytes too
abbrev pub TellsBytes : Option (List ℕ) → Option ℕ → Type 0
TellsBytes None (Some n) = ⊥
TellsBytes left failures = Unit {0}

-- whether a write of these bytes failed: by an error, or by taking nothing of something
abbrev pub write_failed : {E : Type 0} → List ℕ → Result ℕ E → Bool
write_failed bytes (Ok n) = (n == 0) && nat_lt 0 (length bytes)
write_failed bytes (Err _) = true
