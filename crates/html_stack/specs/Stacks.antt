-- The stack's part of the state of the rules.
use Rattle.std.specs.Prelude.{◌≡◌, ℕ, Bool, true, false, List, map, reverse}
use Rattle.markup.specs.Forest.{Forest}
use Rattle.html_rules.specs.State.{Open, Entry, State, Element as Listed, Marker as Mark}
use Rattle.html_rules.specs.declared.insertion_mode.InsertionMode.{InsertionMode}
use Rattle.html_rules.specs.declared.rules.Rules.{Rules}
use Rattle.html_rules_laws.specs.Soundness.{IsStanding}
use Rattle.html_stack.specs.declared.entries.OpenElement.{OpenElement}
use Rattle.html_stack.specs.declared.entries.FormatEntry.{FormatEntry}
use Rattle.html_stack.specs.declared.entries.FormatEntry.TheVariants.{Element, Marker}

-- the open elements, the current node first; the entries of the list, the newest first; the template insertion modes, the current one first
pub record Stacked : Type 0 where
  pub open_elems : List Open
  pub active_formatting : List Entry
  pub template_modes : List InsertionMode
  -- the rules by whose sets open elements are asked
  pub rules : Rules

abbrev pub open_of : {H : Type 0} → (H → ℕ) → OpenElement H → Open
open_of node x = record { number = node x.handle; namespace = x.name.namespace; name = x.name.name; rules = x.name.rules }

abbrev pub entry_of : {H : Type 0} → (H → ℕ) → FormatEntry H → Entry
entry_of node (Element handle tag) = Listed (node handle) tag
entry_of node Marker = Mark

-- elements as they lie, the root first
abbrev pub opens_of : {H : Type 0} → (H → ℕ) → List (OpenElement H) → List Open
opens_of node xs = reverse (map (open_of node) xs)

abbrev pub entries_of : {H : Type 0} → (H → ℕ) → List (FormatEntry H) → List Entry
entries_of node xs = reverse (map (entry_of node) xs)

-- whether an entry is a marker
abbrev pub is_mark : Entry → Bool
is_mark (Listed number tag) = false
is_mark Mark = true

-- a state of the rules with this stack and this tree in place of its own
abbrev pub joined : State → Stacked → Forest → State
joined s stack f = record s {
  forest = f;
  open_elems = stack.open_elems;
  active_formatting = stack.active_formatting;
  template_modes = stack.template_modes;
  opts = record s.opts { rules = stack.rules };
}

-- what a step of the rules does to a state is done to a stack and its tree
abbrev pub Performs : (State → State) → Stacked → Stacked → Forest → Forest → Type 0
Performs step old new f g = (s : State) → joined s new g ≡ step (joined s old f)

-- the same in states whose foster parenting is this
abbrev pub PerformsWith : Bool → (State → State) → Stacked → Stacked → Forest → Forest → Type 0
PerformsWith foster step old new f g = (s : State) → s.foster_parenting ≡ foster → joined s new g ≡ step (joined s old f)

-- the open elements and the entries of a stack stand in a tree
abbrev pub StandsIn : Forest → Stacked → Type 0
StandsIn f stack = IsStanding f stack.open_elems stack.active_formatting
