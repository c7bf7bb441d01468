-- Where a text would be among the known names.
use Rattle.std.specs.Prelude.{ℕ, ◌+◌, ◌*◌, ◌/◌, ◌%◌, ◌^◌, List, slice_index_or}
use Rattle.std.specs.List.{fold}
use Rattle.markup.specs.declared.known_slots.TheConstants.{SHIFTS, SLOTS}

abbrev pub name_hash : List ℕ → ℕ
name_hash bytes = fold (λ hash byte. (hash * 31 % 2 ^ 32 + byte) % 2 ^ 32) 0 bytes

-- the low part of a hash picks a shift, and both a slot
unfoldable pub place_at : ℕ → ℕ
place_at hash = slice_index_or SLOTS ((hash / 256 + slice_index_or SHIFTS (hash % 256) 0) % 1024) 0
