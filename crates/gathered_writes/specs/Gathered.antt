-- What a target shows before which bytes are gathered.
use Rattle.std.specs.Prelude.{ℕ, List, Option, take, vec_len}
use Rattle.std.specs.Io.KnownBytes.{append_known}
use Rattle.gathered_writes.specs.declared.Gathered.{Gathered}

-- the bytes that are held
abbrev pub held : {W : Type 0} → Gathered W → List ℕ
held g = take g.len g.bytes.items

-- how many bytes may be held
abbrev pub room : {W : Type 0} → Gathered W → ℕ
room g = vec_len g.bytes

-- the bytes that were written, with those that are held
abbrev pub written_with : {W : Type 0} → (W → Option (List ℕ)) → Gathered W → Option (List ℕ)
written_with written g = append_known (written g.writer) (held g)
