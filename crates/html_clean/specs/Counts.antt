-- What is not passed on, counted.
use Rattle.std.specs.Prelude.{ℕ, ◌+◌, ◌-◌, ◌^◌, min, Bool, true, false, List, [], ◌∷◌, length, Result, Ok, Err}
use Rattle.markup.specs.Calls.{Call, calls_of}
use Rattle.markup.specs.Trees.{Trees}
use Rattle.markup.specs.declared.attributes.Attribute.{Attribute}
use Rattle.markup.specs.declared.serializer.SerializeFault.{SerializeFault}
use Rattle.markup.specs.Calls.Call.{StartElem, WriteComment, WriteProcessingInstruction}
use Rattle.html_clean.specs.Calls.{hides, open_after}
use Rattle.html_clean.specs.Policies.{added_attributes, fate, kept_attributes}
use Rattle.html_clean.specs.declared.counts.Cleaned.{Cleaned}
use Rattle.html_clean.specs.declared.elements.Fate.{Fate}
use Rattle.html_clean.specs.declared.elements.Fate.TheVariants.{Kept, Dropped, Unwrapped}
use Rattle.html_clean.specs.declared.filter.Opened.{Opened}
use Rattle.html_clean.specs.declared.policy.Policy.{Policy}

-- a number, and so many more, as far as 64 bits go
abbrev pub counted_up : ℕ → ℕ → ℕ
counted_up count more = min (count + more) (2 ^ 64 - 1)

-- after a start tag, which may be hidden, of an element that lost so many attributes
abbrev pub start_counted : Bool → Fate → ℕ → Cleaned → Cleaned
start_counted true fate lost counts = counts
start_counted false Kept lost counts = record counts { attributes = counted_up counts.attributes lost }
start_counted false Dropped lost counts = record counts { dropped = counted_up counts.dropped 1 }
start_counted false Unwrapped lost counts = record counts { unwrapped = counted_up counts.unwrapped 1 }

abbrev pub comment_counted : Bool → Cleaned → Cleaned
comment_counted true counts = counts
comment_counted false counts = record counts { comments = counted_up counts.comments 1 }

-- how many attributes of an element aren't kept; those that are added in their place are none of them
abbrev pub lost_attributes : Policy → List ℕ → List Attribute → ℕ
lost_attributes policy element attributes =
    length attributes - (length (kept_attributes policy element attributes) - length (added_attributes policy element))

-- after a call
abbrev pub counted : Policy → List Opened → Cleaned → Call → Cleaned
counted policy stack counts (StartElem name attributes) = start_counted (hides stack) (fate policy name)
    (lost_attributes policy name.local attributes) counts
counted policy stack counts (WriteComment text) = comment_counted (hides stack) counts
counted policy stack counts (WriteProcessingInstruction target text) = comment_counted (hides stack) counts
counted policy stack counts _ = counts

-- after calls, one after the other
abbrev pub all_counted : Policy → List Opened → Cleaned → List Call → Cleaned
all_counted policy stack counts [] = counts
all_counted policy stack counts (call ∷ calls) = all_counted policy (open_after policy stack call) (counted policy stack counts call) calls

abbrev pub nothing_counted : Cleaned
nothing_counted = record { unwrapped = 0; dropped = 0; attributes = 0; comments = 0 }

-- what cleaning takes away of trees
abbrev pub counts_of : Policy → Trees → Cleaned
counts_of policy trees = all_counted policy [] nothing_counted (calls_of trees)

-- an answer, with what was counted
abbrev pub with_counts : {R : Type 0} → Cleaned → Result R SerializeFault → Result Cleaned SerializeFault
with_counts counts (Ok _) = Ok counts
with_counts counts (Err fault) = Err fault
