-- The calls of a serializer, and what they make of it one after the other.
use Rattle.std.specs.Prelude.{◌≡◌, ℕ, List, [], ◌∷◌, ◌++◌, Option, Some, None, Result, Ok, Err, ◌⊎◌}
use Rattle.markup.specs.Forest.{NodeData}
use Rattle.markup.specs.Forest.NodeData.{Document, Contents, Doctype, Text, Comment, ProcessingInstruction, Element}
use Rattle.markup.specs.Trees as trees
use Rattle.markup.specs.Trees.{Trees, Nothing}
use Rattle.markup.specs.declared.attributes.Attribute.{Attribute}
use Rattle.markup.specs.declared.names.QualName.{QualName}
use Rattle.markup.specs.declared.fault.ParseFault.{ParseFault}
use Rattle.markup.specs.declared.fault.ParseFault.TheVariants as parse_fault
use Rattle.markup.specs.declared.serializer.SerializeFault.{SerializeFault}
use Rattle.markup.specs.declared.serializer.SerializeFault.TheVariants.{Memory, Failed}

pub data Call : Type 0 where
  StartElem : QualName → List Attribute → Call
  EndElem : QualName → Call
  WriteText : List ℕ → Call
  WriteComment : List ℕ → Call
  WriteDoctype : List ℕ → Call
  WriteProcessingInstruction : List ℕ → List ℕ → Call

-- the calls of a walk of trees, before others
abbrev pub calls_before : Trees → List Call → List Call
calls_before Nothing rest = rest
calls_before (trees.Text text next) rest = WriteText text ∷ calls_before next rest
calls_before (trees.Comment text next) rest = WriteComment text ∷ calls_before next rest
calls_before (trees.ProcessingInstruction target text next) rest = WriteProcessingInstruction target text ∷ calls_before next rest
calls_before (trees.Doctype name public_id system_id next) rest = WriteDoctype name ∷ calls_before next rest
calls_before (trees.Element name attributes template kids next) rest =
    StartElem name attributes ∷ calls_before kids (EndElem name ∷ calls_before next rest)

abbrev pub calls_of : Trees → List Call
calls_of trees = calls_before trees []

-- the calls once a node is met
abbrev pub first_calls : NodeData → List Call
first_calls Document = []
first_calls Contents = []
first_calls (Doctype name public_id system_id) = WriteDoctype name ∷ []
first_calls (Text text) = WriteText text ∷ []
first_calls (Comment text) = WriteComment text ∷ []
first_calls (ProcessingInstruction target text) = WriteProcessingInstruction target text ∷ []
first_calls (Element name attributes template integration_point) = StartElem name attributes ∷ []

-- the end of an element of that name, if there is one, before other calls
abbrev pub ended : Option QualName → List Call → List Call
ended None calls = calls
ended (Some name) calls = EndElem name ∷ calls

-- what a call makes of a state, or why it is refused whatever memory and devices do
abbrev pub Step : Type 0 → Type 0
Step S = S → Call → Result S SerializeFault

-- what a refused call leaves
abbrev pub Refuses : Type 0 → Type 1
Refuses S = S → Call → SerializeFault → S → Type 0

-- a call's answer, and the state after it
abbrev pub Answers : {S R : Type 0} → Step S → Refuses S → S → Call → Result R SerializeFault → S → Type 0
Answers step refuses old call (Ok _) new = step old call ≡ Ok new
Answers step refuses old call (Err fault) new = refuses old call fault new

-- what one step gives, and then the next
abbrev pub and_then : {S : Type 0} → Result S SerializeFault → (S → Result S SerializeFault) → Result S SerializeFault
and_then (Ok state) next = next state
and_then (Err fault) next = Err fault

-- calls in order, up to the first that is refused
abbrev pub run : {S : Type 0} → Step S → S → List Call → Result S SerializeFault
run step s [] = Ok s
run step s (call ∷ calls) = and_then (step s call) (λ next. run step next calls)

-- a walk stopped before these calls: for want of memory of its own, or since the first of them was refused
abbrev pub StopsBefore : {S : Type 0} → Refuses S → S → List Call → SerializeFault → S → Type 0
StopsBefore refuses reached [] fault new = (fault ≡ Memory) × (new ≡ reached)
StopsBefore refuses reached (call ∷ calls) fault new = ((fault ≡ Memory) × (new ≡ reached)) ⊎ refuses reached call fault new

-- so many of the calls were made, and then the walk stopped
pub record Stops {S : Type 0} (step : Step S) (refuses : Refuses S) (old : S) (calls : List Call)
    (fault : SerializeFault) (new : S) : Type 0 where
  pub made : List Call
  pub left : List Call
  pub reached : S
  pub parts : calls ≡ made ++ left
  pub ran : run step old made ≡ Ok reached
  pub stopped : StopsBefore refuses reached left fault new

-- a walk's answer, and the state after it
abbrev pub Walks : {S R : Type 0} → Step S → Refuses S → S → List Call → Result R SerializeFault → S → Type 0
Walks step refuses old calls (Ok _) new = run step old calls ≡ Ok new
Walks step refuses old calls (Err fault) new = Stops step refuses old calls fault new

-- as what a serializer passes on why reading a tree gave up
abbrev pub serialize_fault_of : ParseFault → SerializeFault
serialize_fault_of parse_fault.Memory = Memory
serialize_fault_of _ = Failed
