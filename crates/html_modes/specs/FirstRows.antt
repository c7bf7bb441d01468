-- The first row of a mode that is for a tag.
use Rattle.std.specs.Prelude.{ℕ, suc, Bool, true, false, List, [], ◌∷◌, Option, Some, None}
use Rattle.markup.specs.declared.known_names.KnownName.{KnownName}
use Rattle.html_tokens.specs.declared.tags.TagKind.{TagKind}
use Rattle.html_tokens.specs.declared.tags.TagKind.TheVariants.{StartTag, EndTag}
use Rattle.html_rules.specs.Choice.{choose}
use Rattle.html_rules.specs.Table.{Row, Class, StartTags, EndTags, AnyStartTag, AnyEndTag, AnythingElse}
use Rattle.html_names.specs.SetBits.{has_set}
use Rattle.html_names.specs.SetRows.{html_row}

-- the sets of a name, if it is known
abbrev pub sets_of : Option KnownName → ℕ
sets_of None = 0
sets_of (Some known) = html_row known.place

-- whether a class has a tag of a kind whose name is in these sets
abbrev pub has_tag : TagKind → ℕ → Class → Bool
has_tag StartTag sets (StartTags set) = has_set sets set
has_tag EndTag sets (EndTags set) = has_set sets set
has_tag StartTag sets AnyStartTag = true
has_tag EndTag sets AnyEndTag = true
has_tag kind sets AnythingElse = true
has_tag kind sets class = false

-- how many rows come before the first whose class has such a tag
unfoldable pub rows_before : TagKind → ℕ → List Row → ℕ
rows_before kind sets [] = 0
rows_before kind sets (r ∷ rs) = choose (has_tag kind sets r.on) (λ _. 0) (λ _. suc (rows_before kind sets rs))
