-- The characters of a name, as a place among the known names or as a text.
use Rattle.std.specs.Prelude.{◌≡◌, ◌<◌, ℕ, List, [], false, length, slice_index_or}
use Rattle.std.specs.List.{list_any}
use Rattle.std.specs.Str.{bytes_eq, chars}
use Rattle.std.specs.String.{string_bytes}
use Rattle.markup.specs.KnownNames.{names}
use Rattle.markup.specs.declared.name_form.NameForm.{NameForm}
use Rattle.markup.specs.declared.name_form.NameForm.TheVariants.{Known, Short, Long}

abbrev pub form_characters : NameForm → List ℕ
form_characters (Known known alloc) = slice_index_or names known.place []
form_characters (Short short alloc) = chars short
form_characters (Long long) = chars (string_bytes long)

-- what is held as a place is in the table, and what is held as a text is no known name
abbrev pub IsPlaced : NameForm → Type 0
IsPlaced (Known known alloc) = known.place < length names
IsPlaced (Short short alloc) = list_any (bytes_eq (chars short)) names ≡ false
IsPlaced (Long long) = list_any (bytes_eq (chars (string_bytes long))) names ≡ false
