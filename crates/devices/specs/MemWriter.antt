-- A writer over memory, and what each of its calls does.
use Rattle.std.specs.Prelude.{ℕ, ◌-◌, ◌++◌, Bool, ◌&&◌, not, ◌==◌, List, length, take, min, if◌then◌else◌, Option, Result, Ok, Err}
use Rattle.std.specs.Result.{result_unwrap_or}
use Rattle.devices.specs.Devices.{one_more, write_failed}
use Rattle.devices.specs.Schedule.{fails_next, after_call}
use Rattle.devices.specs.declared.traits.DeviceFault.{DeviceFault}
use Rattle.devices.specs.declared.traits.DeviceFault.TheVariants.{Device}

-- the bytes written, how many more there is room for, the most that a call takes, the number of the call that
-- fails, whether it does so by answering 0, and the count of failures
pub record Writer : Type 0 where
  pub written : List ℕ
  pub room : ℕ
  pub piece : ℕ
  pub fails_in : Option ℕ
  pub zero : Bool
  pub failures : ℕ

-- what the call that fails answers
abbrev pub failing_answer : Writer → Result ℕ DeviceFault
failing_answer w = if w.zero then Ok 0 else Err Device

-- what any other write of so many bytes answers: where no room is left for something, it is refused
abbrev pub plain_answer : Writer → ℕ → Result ℕ DeviceFault
plain_answer w count = if (w.room == 0) && not (count == 0) then Err Device else Ok (min (min w.piece count) w.room)

-- what a write of so many bytes answers
abbrev pub write_answer : Writer → ℕ → Result ℕ DeviceFault
write_answer w count = if fails_next w.fails_in then failing_answer w else plain_answer w count

-- the writer after a write of these bytes that was so answered
abbrev pub answered_write : Writer → List ℕ → Result ℕ DeviceFault → Writer
answered_write w bytes answer = record w {
  written = w.written ++ take (result_unwrap_or answer 0) bytes;
  room = w.room - result_unwrap_or answer 0;
  fails_in = after_call w.fails_in;
  failures = if write_failed bytes answer then one_more w.failures else w.failures;
}

-- the writer after a write of these bytes
abbrev pub after_write : Writer → List ℕ → Writer
after_write w bytes = answered_write w bytes (write_answer w (length bytes))
