-- A writer over memory that grows, and what each of its calls does.
use Rattle.std.specs.Prelude.{ℕ, ◌++◌, List, Result, Ok, Err}
use Rattle.devices.specs.Devices.{one_more}

-- the bytes written, and the count of failures
pub record Growing : Type 0 where
  pub written : List ℕ
  pub failures : ℕ

-- the writer after a write of these bytes that was so answered: all are taken, or none
abbrev pub grown : {E : Type 0} → Growing → List ℕ → Result ℕ E → Growing
grown w bytes (Ok _) = record w { written = w.written ++ bytes }
grown w bytes (Err _) = record w { failures = one_more w.failures }
