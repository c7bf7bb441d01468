-- A reader over memory, and what each of its calls does.
use Rattle.std.specs.Prelude.{ℕ, ◌++◌, List, length, take, drop, min, if◌then◌else◌, Option, Result, Ok, Err}
use Rattle.devices.specs.Devices.{one_more}
use Rattle.devices.specs.Schedule.{fails_next, after_call}
use Rattle.devices.specs.declared.traits.DeviceFault.{DeviceFault}
use Rattle.devices.specs.declared.traits.DeviceFault.TheVariants.{Device}

-- the bytes left, the most that a call gives, the number of the call that fails, and the count of failures
pub record Reader : Type 0 where
  pub left : List ℕ
  pub piece : ℕ
  pub fails_in : Option ℕ
  pub failures : ℕ

-- how many bytes a call that does not fail gives to a buffer of so many
abbrev pub given : Reader → ℕ → ℕ
given r room = min (min r.piece room) (length r.left)

-- what a read into a buffer of so many bytes answers
abbrev pub read_answer : Reader → ℕ → Result ℕ DeviceFault
read_answer r room = if fails_next r.fails_in then Err Device else Ok (given r room)

-- the reader after a read that fails
abbrev pub failed_read : Reader → Reader
failed_read r = record r { fails_in = after_call r.fails_in; failures = one_more r.failures }

-- the reader after a read that gave so many bytes
abbrev pub given_read : Reader → ℕ → Reader
given_read r n = record r { left = drop n r.left; fails_in = after_call r.fails_in }

-- the reader after a read into a buffer of so many bytes
abbrev pub after_read : Reader → ℕ → Reader
after_read r room = if fails_next r.fails_in then failed_read r else given_read r (given r room)

-- the buffer after a read
abbrev pub filled : Reader → List ℕ → List ℕ
filled r buffer = if fails_next r.fails_in then buffer else take (given r (length buffer)) r.left ++ drop (given r (length buffer)) buffer
