-- Which open elements are wanted.
use Rattle.std.specs.Prelude.{◌≡◌, ◌<◌, Bool, false, ◌&&◌, [], length, not, slice_index_or, ⊤}
use Rattle.markup.specs.KnownNames.{names}
use Rattle.html_rules.specs.ForeignContent.{ends_foreign}
use Rattle.html_rules.specs.Names.{Html}
use Rattle.html_rules.specs.Sets.{mathml_names_of, set_by, svg_names_of}
use Rattle.html_rules.specs.State.{Open, is_in, is_named}
use Rattle.html_rules.specs.declared.rules.Rules.{Rules}
use Rattle.html_rules.specs.declared.tag_set.TagSet.{TagSet}
use Rattle.html_names.specs.Classes.{IsClassOf}
use Rattle.html_stack.specs.declared.wanted.Wanted.{Wanted}
use Rattle.html_stack.specs.declared.wanted.Wanted.TheVariants.{In, Named, Known, EndsForeign, Nothing}

-- whether an element is wanted
abbrev pub passes : Wanted → Open → Bool
passes (In set) x = is_in set x
passes (Named class name) x = is_named name.now x
passes (Known known) x = is_named (slice_index_or names known.place []) x
passes EndsForeign x = ends_foreign x
passes Nothing x = false

-- a name comes with its class, and a known name is one
abbrev pub IsWanted : Wanted → Type 0
IsWanted (Named class name) = IsClassOf Html name.now class
IsWanted (Known known) = known.place < length names
IsWanted _ = ⊤

-- whether an element's end tag is implied, and it is not excepted
abbrev pub closes : TagSet → (Open → Bool) → Open → Bool
closes implied except x = is_in implied x && not (except x)

-- a set of HTML elements alone
pub record IsOfHtml (set : TagSet) : Type 0 where
  pub no_mathml : mathml_names_of set ≡ []
  pub no_svg : svg_names_of set ≡ []
  -- and the same by all rules
  pub same : (rules : Rules) → set_by rules set ≡ set
