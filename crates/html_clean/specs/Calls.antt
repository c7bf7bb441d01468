-- Which of the calls that a filter is told it passes on.
use Rattle.std.specs.Prelude.{ℕ, Bool, true, false, ◌&&◌, not, List, [], ◌∷◌, Option, Some, None, is_some}
use Rattle.markup.specs.Calls.{Call}
use Rattle.markup.specs.Calls.Call.{StartElem, EndElem, WriteText}
use Rattle.markup.specs.declared.names.QualName.{QualName}
use Rattle.html_clean.specs.Names.{is_void}
use Rattle.html_clean.specs.Policies.{fate, kept_attributes, text_at}
use Rattle.html_clean.specs.declared.elements.Fate.{Fate}
use Rattle.html_clean.specs.declared.elements.Fate.TheVariants.{Kept, Dropped, Unwrapped}
use Rattle.html_clean.specs.declared.filter.Opened.{Opened}
use Rattle.html_clean.specs.declared.policy.Policy.{Policy}

-- of the elements that have begun and not ended, the last one first: whether it was passed on, and whether what stands in it is not
abbrev pub hides : List Opened → Bool
hides [] = false
hides (last ∷ stack) = last.hides

abbrev pub passes : List Opened → Bool
passes [] = false
passes (last ∷ stack) = last.passes

abbrev pub rest_of : List Opened → List Opened
rest_of [] = []
rest_of (last ∷ stack) = stack

abbrev pub opened_by : Bool → Fate → Bool → Opened
opened_by true fate void = record { passes = false; hides = true }
opened_by false Kept void = record { passes = true; hides = void }
opened_by false Dropped void = record { passes = false; hides = true }
opened_by false Unwrapped void = record { passes = false; hides = false }

abbrev pub opened : Policy → List Opened → QualName → Opened
opened policy stack name = opened_by (hides stack) (fate policy name) (is_void name.local)

abbrev pub open_after : Policy → List Opened → Call → List Opened
open_after policy stack (StartElem name attributes) = opened policy stack name ∷ stack
open_after policy stack (EndElem name) = rest_of stack
open_after policy stack _ = stack

abbrev pub if_passed : Bool → Call → Option Call
if_passed true call = Some call
if_passed false call = None

abbrev pub text_passed : Bool → List ℕ → Option Call
text_passed true text = None
text_passed false [] = None
text_passed false (c ∷ cs) = Some (WriteText (c ∷ cs))

-- what is passed on for a call, in front of which nothing was passed on, or something
abbrev pub passed : Policy → List Opened → Bool → Call → Option Call
passed policy stack front (StartElem name attributes) = if_passed (opened policy stack name).passes
    (StartElem name (kept_attributes policy name.local attributes))
passed policy stack front (EndElem name) = if_passed (passes stack) (EndElem name)
passed policy stack front (WriteText text) = text_passed (hides stack) (text_at front text)
passed policy stack front _ = None

-- whether nothing was passed on yet, after a call for which this is
abbrev pub front_after : Bool → Option Call → Bool
front_after front on = front && not (is_some on)

abbrev pub call_before : Option Call → List Call → List Call
call_before None calls = calls
call_before (Some call) calls = call ∷ calls

-- what is passed on for calls, in order
abbrev pub filtered : Policy → List Opened → Bool → List Call → List Call
filtered policy stack front [] = []
filtered policy stack front (call ∷ calls) =
    let on = passed policy stack front call in
    call_before on (filtered policy (open_after policy stack call) (front_after front on) calls)
