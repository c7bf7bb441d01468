-- What an end tag in foreign content comes to.
use Rattle.std.specs.Prelude.{ℕ, Bool, false, ◌||◌, ◌&&◌, List, reverse, take}
use Rattle.html_rules.specs.ForeignContent.{ForeignEnd, Dropped, AsInMode, Closed, ends_foreign}
use Rattle.html_rules.specs.Sets.{by_rules}
use Rattle.html_rules.specs.State.{Open, is_in}
use Rattle.html_rules.specs.declared.rules.Rules.{Rules}
use Rattle.html_rules.specs.declared.tag_set.TagSet.TheVariants as set
use Rattle.html_stack.specs.Stacks.{opens_of}
use Rattle.html_stack.specs.declared.entries.OpenElement.{OpenElement}
use Rattle.html_stack.specs.declared.foreign_end.ForeignEnd.{ForeignEnd as Found}
use Rattle.html_stack.specs.declared.foreign_end.ForeignEnd.TheVariants as found

-- the end that was found, with the elements that stay, which lie the root first
abbrev pub end_of : {H : Type 0} → (H → ℕ) → List (OpenElement H) → Found → ForeignEnd
end_of node xs found.Dropped = Dropped
end_of node xs found.AsInMode = AsInMode
end_of node xs (found.Closed count) = Closed (opens_of node (take count xs))

-- the same, by open elements, the current node first
abbrev pub ends_at : List Open → Found → ForeignEnd
ends_at xs found.Dropped = Dropped
ends_at xs found.AsInMode = AsInMode
ends_at xs (found.Closed count) = Closed (reverse (take count (reverse xs)))

-- whether foreign content ends at an element, by rules and by where HTML may stand in `annotation-xml` (section 13.2.6.5)
abbrev pub ends_foreign_by : Rules → (ℕ → Bool) → Open → Bool
ends_foreign_by rules stands x = ends_foreign x || (by_rules rules false (is_in set.AnnotationXml x) && stands x.number)
