-- The adoption agency over a sink.
use Rattle.std.specs.Prelude.{◌≡◌, ◌≢◌, ◌<◌, ℕ, Bool, true, false, length, slice_index_or, List, ◌∷◌, map, Option, Some, None}
use Rattle.std.specs.Str.{bytes_eq}
use Rattle.markup.specs.Forest.{Forest, Last, add_error, data_of, is_contents, node_count, put, remove, reparent_children}
use Rattle.markup.specs.Named.{IsTree}
use Rattle.html_rules.specs.Adoption.{Turned, Walk, adopt, adopt_listed, begin_walk, between, furthest_block, is_number}
use Rattle.html_rules.specs.Adoption.{listed_as, opened_after, walk}
use Rattle.html_rules.specs.Choice.{choose}
use Rattle.html_rules.specs.Stack.{in_scope}
use Rattle.html_rules.specs.declared.rules.Rules.{Rules}
use Rattle.html_rules.specs.declared.tag_set.TagSet.TheVariants as set
use Rattle.html_tokens.specs.declared.tags.Tag.{Tag}
use Rattle.html_rules.specs.Formatting.{Listed, last_named, put_after, with_in_place, without_entry}
use Rattle.html_rules.specs.State.{Entry, Element, Open, State, current_is}
use Rattle.html_rules_laws.specs.Soundness.{IsStanding}
use Rattle.html_stack.specs.Inserting.{with_made}
use Rattle.html_stack.specs.Stacks.{entries_of, open_of, opens_of}
use Rattle.html_stack.specs.declared.entries.FormatEntry.{FormatEntry}
use Rattle.html_stack.specs.declared.entries.FormatEntry.TheVariants as held
use Rattle.html_stack.specs.declared.entries.OpenElement.{OpenElement}
use Rattle.html_stack.specs.declared.formatting.copies.Copies.{Copies}
use Rattle.html_stack.specs.declared.inserting.new_element.NewElement.{NewElement}

-- what the walk has come to
abbrev pub walk_of : {H : Type 0} → (H → ℕ) → Forest → List (FormatEntry H) → Copies H → Walk
walk_of node f entries copies = record {
  rules = copies.rules;
  forest = f;
  active_formatting = entries_of node entries;
  copies = map (open_of node) copies.elements.items;
  last_node = node copies.last;
}

-- the newest entry is that of the current node, and its tag has this name
abbrev pub IsCurrentNewest : List ℕ → List Open → List Entry → Type 0
IsCurrentNewest name (x ∷ xs) (Element n tag ∷ entries) = (n ≡ x.number) × (bytes_eq tag.name name ≡ true)
IsCurrentNewest name xs entries = ⊥

-- a node that may leave its parent and be put elsewhere
pub record IsMovable (f : Forest) (n : ℕ) : Type 0 where
  pub tree : IsTree f
  pub there : n < node_count f
  pub plain : is_contents (data_of f n) ≡ false

-- a tree with a new element that takes a node as its child
abbrev pub wrapped : Forest → NewElement → ℕ → Forest
wrapped f e last = put (remove (with_made f e) last) (Last (node_count f)) last

-- a tree with a new element that takes the children of a node, and becomes its only child
abbrev pub adopted : Forest → NewElement → ℕ → Forest
adopted f e block = put (reparent_children (with_made f e) block (node_count f)) (Last block) (node_count f)

-- what stands with the one list stands with the other
abbrev pub KeepsStanding : Forest → List Entry → Forest → List Entry → Type 0
KeepsStanding f entries g others = (xs : List Open) → IsStanding f xs entries → IsStanding g xs others

-- the new entry stands just after that of the first copy, or in place of the formatting element's
abbrev pub IsRelisted : {H : Type 0} → (H → ℕ) → ℕ → ℕ → Tag → Option H → List Entry → List Entry → Type 0
IsRelisted node n new tag None old now = now ≡ with_in_place n (Element new tag) old
IsRelisted node n new tag (Some first) old now = node first ≢ n → now ≡ without_entry n (put_after (node first) (Element new tag) old)

-- a formatting element and its furthest block, by their places
pub record IsTurn {H : Type 0} (node : H → ℕ) (elements : List (OpenElement H)) (entries : List Entry) (from to : ℕ)
    (tag : Tag) (d : OpenElement H) : Type 0 where
  pub listed : listed_as (node (slice_index_or elements from d).handle) entries ≡ Some
      (record { number = node (slice_index_or elements from d).handle; tag = tag })
  pub scope : in_scope set.DefaultScope (is_number (node (slice_index_or elements from d).handle)) (opens_of node elements) ≡ true
  pub block : furthest_block (opened_after (node (slice_index_or elements from d).handle) (opens_of node elements))
      ≡ Some (open_of node (slice_index_or elements to d))

-- a state with another tree, other open elements and another list
abbrev pub with_all : State → Forest → List Open → List Entry → State
with_all s f xs entries = record s { forest = f; open_elems = xs; active_formatting = entries }

-- the turn that the rules make of it
abbrev pub turned : State → Listed → Open → State
turned s formatting_element block = adopt formatting_element block (walk 3 (between formatting_element block s) (begin_walk block s)) s

-- an entry, by its place, is the last since the last marker that was made for a tag of some name
pub record IsFormatting {H : Type 0} (node : H → ℕ) (name : List ℕ) (entries : List (FormatEntry H)) (place : ℕ)
    (handle : H) (tag : Tag) : Type 0 where
  pub within : place < length entries
  pub entry : slice_index_or entries place held.Marker ≡ held.Element handle tag
  pub found : last_named name (entries_of node entries) ≡ Some (record { number = node handle; tag = tag })

-- an entry, by its place, is the newest of its element
pub record IsListedAt {H : Type 0} (node : H → ℕ) (entries : List (FormatEntry H)) (place : ℕ) (handle : H) (tag : Tag) : Type 0 where
  pub within : place < length entries
  pub entry : slice_index_or entries place held.Marker ≡ held.Element handle tag
  pub newest : listed_as (node handle) (entries_of node entries) ≡ Some (record { number = node handle; tag = tag })

-- a tree, with an error more if an element is not the current node
abbrev pub told : ℕ → List Open → Forest → Forest
told n xs f = choose (current_is (is_number n) xs) (λ _. f) (λ _. add_error f)

-- what a turn comes to
abbrev pub came_to : Bool → State → Turned
came_to goes_on s = record { state = s; goes_on = goes_on }

-- what a turn makes of a tree, open elements and a list, with the entry of an element
abbrev pub IsTurnOf : Bool → Rules → ℕ → Bool → Forest → List Open → List Entry → Forest → List Open → List Entry → Type 0
IsTurnOf foster rules n goes_on f xs entries g ys others = (name : List ℕ) (s : State) → s.foster_parenting ≡ foster → s.opts.rules ≡ rules
    → came_to goes_on (with_all s g ys others) ≡ adopt_listed (listed_as n entries) name (with_all s f xs entries)
