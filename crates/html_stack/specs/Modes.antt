-- The mode that open elements ask for.
use Rattle.std.specs.Prelude.{◌≡◌, ℕ, Bool, Option, Some, None, is_some, ⊤}
use Rattle.html_rules.specs.Reset.{current_template_mode, mode_of}
use Rattle.html_rules.specs.State.{Open, State}
use Rattle.html_rules.specs.declared.insertion_mode.InsertionMode.{InsertionMode}
use Rattle.html_names.specs.ElementNames.{Named}
use denote.Bor.{Bor}

-- what the rules go by beside the open elements
pub record Knows (s : State) (template_mode : InsertionMode) (has_head : Bool) : Type 0 where
  pub template : current_template_mode s.template_modes ≡ template_mode
  pub head : is_some s.head_elem ≡ has_head

-- the context of a fragment, if there is one, has this name
abbrev pub IsContext : Option Open → Option (Bor Named) → Type 0
IsContext None None = ⊤
IsContext None (Some name) = ⊥
IsContext (Some c) None = ⊥
IsContext (Some c) (Some name) = (c.namespace ≡ name.now.namespace) × (c.name ≡ name.now.name)

-- an element asks for a mode wherever it stands, or leaves it to those before it
abbrev pub MayAsk : State → Open → Option InsertionMode → Type 0
MayAsk s x None = (before : Unit {0} → InsertionMode) → mode_of s x before ≡ before tt
MayAsk s x (Some mode) = (before : Unit {0} → InsertionMode) → mode_of s x before ≡ mode

abbrev pub named_open : ℕ → Named → Open
named_open number name = record { number = number; namespace = name.namespace; name = name.name; rules = name.rules }
