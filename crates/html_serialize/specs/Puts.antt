-- What a writer tells, before and after bytes are put into it.
use Rattle.std.specs.Prelude.{◌≡◌, ℕ, ◌≤◌, List, [], ◌∷◌, ◌++◌, Option, Result, Ok, Err, length, take}
use Rattle.std.specs.Io.KnownBytes.{append_known}
use Rattle.std.specs.Borrow.{Bor}
use Rattle.std.specs.Option.{option_map}
use Rattle.markup.specs.Forest.{one_more}
use Rattle.markup.specs.declared.serializer.SerializeFault.{SerializeFault}
use Rattle.markup.specs.declared.serializer.SerializeFault.TheVariants.{Write}

-- the bytes written so far, and how often the writer failed, where each is told
pub record WriterView : Type 0 where
  pub written : Option (List ℕ)
  pub failures : Option ℕ

abbrev pub told_by : {W : Type 0} → (W → Option (List ℕ)) → (W → Option ℕ) → W → WriterView
told_by written failures writer = record { written = written writer; failures = failures writer }

abbrev pub with_bytes : WriterView → List ℕ → WriterView
with_bytes old bytes = record old { written = append_known old.written bytes }

-- a beginning of the bytes was written, and then a write failed
pub record Broke (old : WriterView) (bytes : List ℕ) (new : WriterView) : Type 0 where
  pub count : ℕ
  pub within : count ≤ length bytes
  pub written : new.written ≡ append_known old.written (take count bytes)
  pub failed : new.failures ≡ option_map one_more old.failures

-- all of the bytes were written; or a beginning of them, and then a write failed
abbrev pub Puts : {R : Type 0} → WriterView → List ℕ → Result R SerializeFault → WriterView → Type 0
Puts old bytes (Ok _) new = new ≡ with_bytes old bytes
Puts old bytes (Err fault) new = (fault ≡ Write) × Broke old bytes new

-- the bytes of parts, one after the other
abbrev pub joined : List (Bor (List ℕ)) → List ℕ
joined [] = []
joined (part ∷ parts) = part.now ++ joined parts
