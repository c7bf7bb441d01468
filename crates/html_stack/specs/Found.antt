-- What a walk from the newest back finds: a place, counted from the oldest, as elements and entries lie.
use Rattle.std.specs.Prelude.{◌≡◌, ◌<◌, ℕ, suc, Bool, true, false, List, length, map, reverse, drop, slice_index_or, Option}
use Rattle.std.specs.Prelude.{Some, None, is_some, [], ◌∷◌}
use Rattle.std.specs.List.{list_any, remove}
use Rattle.html_tokens.specs.declared.tags.Tag.{Tag}
use Rattle.html_rules.specs.Adoption.{furthest_block}
use Rattle.html_rules.specs.Formatting.{Listed, last_named, with_room}
use Rattle.html_rules.specs.State.{Entry}
use Rattle.html_stack.specs.Stacks.{entries_of, open_of, opens_of}
use Rattle.html_stack.specs.declared.entries.FormatEntry.{FormatEntry}
use Rattle.html_stack.specs.declared.entries.FormatEntry.TheVariants.{Element, Marker}
use Rattle.html_stack.specs.declared.entries.OpenElement.{OpenElement}

-- the newest of those that pass
pub record IsNewest {X Y : Type 0} (see : X → Y) (p : Y → Bool) (xs : List X) (i : ℕ) : Type 0 where
  pub within : i < length xs
  pub here : (d : X) → p (see (slice_index_or xs i d)) ≡ true
  pub newer : list_any p (reverse (map see (drop (suc i) xs))) ≡ false

-- an entry, unless it is a marker
abbrev pub listed_of : {H : Type 0} → (H → ℕ) → FormatEntry H → Option Listed
listed_of node (Element handle tag) = Some (record { number = node handle; tag = tag })
listed_of node Marker = None

-- the entry at a place, unless it is a marker
abbrev pub listed_at : {H : Type 0} → (H → ℕ) → List (FormatEntry H) → ℕ → Option Listed
listed_at node xs i = listed_of node (slice_index_or xs i Marker)

-- the last entry since the last marker that has a name
pub record IsLastNamed {H : Type 0} (node : H → ℕ) (name : List ℕ) (xs : List (FormatEntry H)) (i : ℕ) : Type 0 where
  pub within : i < length xs
  pub some : is_some (listed_at node xs i) ≡ true
  pub found : last_named name (entries_of node xs) ≡ listed_at node xs i

-- the special element that was opened first
pub record IsFurthest {H : Type 0} (node : H → ℕ) (xs : List (OpenElement H)) (i : ℕ) : Type 0 where
  pub within : i < length xs
  pub block : (d : OpenElement H) → furthest_block (opens_of node xs) ≡ Some (open_of node (slice_index_or xs i d))

-- an entry that stands for another element
abbrev pub renamed : {H : Type 0} → H → FormatEntry H → FormatEntry H
renamed node (Element handle tag) = Element node tag
renamed node Marker = Marker

-- the entry that makes room for another one with a tag
pub record IsRoom {H : Type 0} (node : H → ℕ) (tag : Tag) (xs : List (FormatEntry H)) (i : ℕ) : Type 0 where
  pub within : i < length xs
  pub room : with_room tag (entries_of node xs) ≡ entries_of node (remove xs i)

-- a tag is that of an entry, which is no marker
abbrev pub IsTagAt : {H : Type 0} → List (FormatEntry H) → ℕ → Option Tag → Type 0
IsTagAt {H} xs i None = slice_index_or xs i Marker ≡ Marker
IsTagAt {H} xs i (Some tag) = (handle : H) × (slice_index_or xs i Marker ≡ Element handle tag)

-- the entries without the newest
abbrev pub older_entries : List Entry → List Entry
older_entries [] = []
older_entries (entry ∷ entries) = entries
