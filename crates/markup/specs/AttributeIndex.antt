-- The places of many attributes by their local names.
use Rattle.std.specs.Prelude.{◌≡◌, ◌&&◌, not, cond, ℕ, List, Option, Some, None, ⊤, is_some}
use Rattle.std.specs.BTreeMap as tree
use Rattle.std.specs.Cmp.Lexicographic.{slice_cmp}
use Rattle.std.specs.Global.{Box}
use Rattle.std.specs.Ordering.{nat_cmp}
use Rattle.std.specs.Str.{bytes_eq}
use Rattle.markup.specs.Attributes.{are_distinct, place_of}
use Rattle.markup.specs.declared.attribute_index.AttributeIndex.{AttributeIndex}
use Rattle.markup.specs.declared.attributes.Attribute.{Attribute}

-- what a map of places says of a local name
abbrev pub place_in : tree.BTreeMap (List ℕ) ℕ → List ℕ → Option ℕ
place_in places name = tree.get (slice_cmp nat_cmp) places name

-- an index says where the attributes are
pub record IsIndex (index : AttributeIndex) (attributes : List Attribute) : Type 0 where
  pub places : (name : List ℕ) → place_in index.places name ≡ place_of name attributes
  pub are_distinct : index.are_distinct ≡ are_distinct attributes

-- the first place, or else the second
abbrev pub first_place : Option ℕ → Option ℕ → Option ℕ
first_place None place = place
first_place (Some first) place = Some first

-- an index has an attribute more: its local name and its place
pub record AddsPlace (name : List ℕ) (place : ℕ) (old new : AttributeIndex) : Type 0 where
  pub places : (other : List ℕ) → place_in new.places other ≡ first_place (place_in old.places other)
      (cond (bytes_eq other name) (Some place) None)
  pub are_distinct : new.are_distinct ≡ (old.are_distinct && not (is_some (place_in old.places name)))

-- the index, where there is one, says where the attributes are
abbrev pub FitsIndex : Option (Box AttributeIndex) → List Attribute → Type 0
FitsIndex None attributes = ⊤
FitsIndex (Some index) attributes = IsIndex index.value attributes
