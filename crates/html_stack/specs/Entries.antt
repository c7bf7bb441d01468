-- The entries since the last marker, one by one.
use Rattle.std.specs.Prelude.{◌≡◌, ◌++◌, ◌∷◌, ℕ, List, [], length, Option, Some, None, ◌⊎◌}
use Rattle.html_tokens.specs.declared.tags.Tag.{Tag}
use Rattle.html_stack.specs.declared.active_formatting_iter.ActiveFormattingIter.{ActiveFormattingIter}
use Rattle.html_stack.specs.declared.entries.FormatEntry.{FormatEntry}
use Rattle.html_stack.specs.declared.entries.FormatEntry.TheVariants.{Element, Marker}
use denote.Bor.{Bor}

-- there is no entry, or the last is a marker
abbrev pub EndsAtMarker : {H : Type 0} → List (FormatEntry H) → Type 0
EndsAtMarker {H} entries = (entries ≡ []) ⊎ ((front : List (FormatEntry H)) × (entries ≡ front ++ Marker ∷ []))

-- the last entry is given, with its place, and is left out; or there is none since the marker, and nothing changes
abbrev pub GivesEntry : {H : Type 0} → ActiveFormattingIter H → Option (ℕ × Bor H × Bor Tag) → ActiveFormattingIter H → Type 0
GivesEntry s None t = EndsAtMarker s.entries.now × (t ≡ s)
GivesEntry s (Some item) t = (s.entries.now ≡ t.entries.now ++ Element item.1.now item.2.now ∷ []) × (item.0 ≡ length t.entries.now)
