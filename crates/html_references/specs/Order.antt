-- The rows of a table in the order of their names.
use Rattle.std.specs.Prelude.{◌≡◌, ◌+◌, ◌<◌, ◌≤◌, ◌⊎◌, ◌&&◌, ℕ, zero, suc, Bool, IsTrue, List, [], ◌∷◌, Option, None, Some}
use Rattle.std.specs.Prelude.{length, slice_index, if◌then◌else◌}
use Rattle.std.specs.Ordering.{nat_cmp}
use Rattle.std.specs.Cmp.Lexicographic.{slice_cmp}
use Rattle.std.specs.declared.cmp.Ordering.TheVariants.{Less}
use Rattle.html_references.specs.References.{fault_of, has_values, is_reference_name}
use Rattle.html_tokens.specs.declared.table.ReferenceRow.{ReferenceRow}
use Rattle.html_tokens.specs.declared.table.TableFault.{TableFault}
use Rattle.html_tokens.specs.declared.table.TableFault.TheVariants.{BadName, BadValue}

-- the name of the row at a place
abbrev pub name_at : List ReferenceRow → ℕ → List ℕ
name_at [] place = []
name_at (row ∷ rows) zero = row.name
name_at (row ∷ rows) (suc place) = name_at rows place

-- the name of the row whose place is the one at an index of the order
abbrev pub ordered_name : List ReferenceRow → List ℕ → ℕ → List ℕ
ordered_name rows order index = name_at rows (slice_index order index)

-- one text stands before another
abbrev pub IsBefore : List ℕ → List ℕ → Type 0
IsBefore a b = slice_cmp nat_cmp a b ≡ Less

-- the order holds places of rows with good names, and their names rise
pub record IsOrdered (rows : List ReferenceRow) (order : List ℕ) : Type 0 where
  pub within : (index : ℕ) → index < length order → slice_index order index < length rows
  pub named : (index : ℕ) → index < length order → IsTrue (is_reference_name (ordered_name rows order index))
  pub rising : (low high : ℕ) → low < high → high < length order → IsBefore (ordered_name rows order low) (ordered_name rows order high)

-- the order holds the place of each row
pub record IsOrder (rows : List ReferenceRow) (order : List ℕ) : Type 0 where
  pub ordered : IsOrdered rows order
  pub whole : (place : ℕ) → place < length rows → (index : ℕ) × (index < length order) × (slice_index order index ≡ place)

-- where a text stands among the ordered names, or would
abbrev pub IsPlaceOf : List ReferenceRow → List ℕ → List ℕ → ℕ → Type 0
IsPlaceOf rows order text index =
    (index ≤ length order) × ((low : ℕ) → low < index → IsBefore (ordered_name rows order low) text)
    × ((high : ℕ) → index ≤ high → high < length order → IsBefore text (ordered_name rows order high))

-- a checked table: no row is faulty, and the order holds the place of each
pub record IsTable (rows : List ReferenceRow) (order : List ℕ) : Type 0 where
  pub checked : fault_of rows ≡ None
  pub order_of : IsOrder rows order

-- a row with a good name and good values
abbrev pub is_good : ReferenceRow → Bool
is_good row = is_reference_name row.name && has_values row

-- the order holds the place of each row, by its name, and by its place where names are the same
pub record IsArranged (rows : List ReferenceRow) (order : List ℕ) : Type 0 where
  pub within : (index : ℕ) → index < length order → slice_index order index < length rows
  pub whole : (place : ℕ) → place < length rows → (index : ℕ) × (index < length order) × (slice_index order index ≡ place)
  pub ranked : (low high : ℕ) → low < high → high < length order
      → IsBefore (ordered_name rows order low) (ordered_name rows order high)
      ⊎ ((ordered_name rows order low ≡ ordered_name rows order high) × (slice_index order low < slice_index order high))

-- the names at this index of the order and just after it are the same
abbrev pub IsRepeat : List ReferenceRow → List ℕ → ℕ → Type 0
IsRepeat rows order index = (index + 1 < length order) × (ordered_name rows order index ≡ ordered_name rows order (index + 1))

-- of the places whose name stands just before them too, the least; or there is none
abbrev pub IsFirstRepeat : List ReferenceRow → List ℕ → Option ℕ → Type 0
IsFirstRepeat rows order None = (index : ℕ) → IsRepeat rows order index → ⊥
IsFirstRepeat rows order (Some place) =
    ((index : ℕ) × IsRepeat rows order index × (slice_index order (index + 1) ≡ place))
    × ((index : ℕ) → IsRepeat rows order index → place ≤ slice_index order (index + 1))

-- what is wrong with a row by itself, where something is
abbrev pub own_fault : ℕ → ReferenceRow → TableFault
own_fault number row = if is_reference_name row.name then BadValue number else BadName number
