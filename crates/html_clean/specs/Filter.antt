-- The filter as a state, and what each call makes of it.
use Rattle.std.specs.Prelude.{◌≡◌, Bool, List, Option, Some, None, Result, Ok, Err, ◌⊎◌}
use Rattle.markup.specs.Calls.{Call, Refuses, Step}
use Rattle.markup.specs.declared.serializer.SerializeFault.{SerializeFault}
use Rattle.markup.specs.declared.serializer.SerializeFault.TheVariants.{Memory}
use Rattle.html_clean.specs.Calls.{front_after, open_after, passed}
use Rattle.html_clean.specs.Counts.{counted}
use Rattle.html_clean.specs.declared.counts.Cleaned.{Cleaned}
use Rattle.html_clean.specs.declared.filter.Opened.{Opened}
use Rattle.html_clean.specs.declared.policy.Policy.{Policy}

pub record Filtering (S : Type 0) : Type 0 where
  pub policy : Policy
  -- the serializer that is told what is kept
  pub inner : S
  -- the elements that have begun and not ended, the last one first
  pub stack : List Opened
  -- whether nothing was passed on yet
  pub front : Bool
  -- what was not passed on
  pub counts : Cleaned

-- a call that is passed on, or none
abbrev pub pass : {S : Type 0} → Step S → S → Option Call → Result S SerializeFault
pass step s None = Ok s
pass step s (Some call) = step s call

abbrev pub IsPassRefused : {S : Type 0} → Refuses S → S → Option Call → SerializeFault → S → Type 0
IsPassRefused refuses old None fault new = ⊥
IsPassRefused refuses old (Some call) fault new = refuses old call fault new

-- memory was wanted before a call was passed on, or the call that was passed on is refused
abbrev pub IsStopped : {S : Type 0} → Refuses S → S → Option Call → SerializeFault → S → Type 0
IsStopped refuses old on fault new = ((fault ≡ Memory) × (new ≡ old)) ⊎ IsPassRefused refuses old on fault new

-- an answer to a call that is passed on, or to none, and the state after it
abbrev pub Passes : {S R : Type 0} → Step S → Refuses S → S → Option Call → Result R SerializeFault → S → Type 0
Passes step refuses old on (Ok _) new = pass step old on ≡ Ok new
Passes step refuses old on (Err fault) new = IsStopped refuses old on fault new

-- what is passed on for a call
abbrev pub passed_by : {S : Type 0} → Filtering S → Call → Option Call
passed_by f call = passed f.policy f.stack f.front call

-- a filter after a call, by what the serializer is after it
abbrev pub after_call : {S : Type 0} → Filtering S → Call → S → Filtering S
after_call f call inner = record {
  policy = f.policy;
  inner = inner;
  stack = open_after f.policy f.stack call;
  front = front_after f.front (passed_by f call);
  counts = counted f.policy f.stack f.counts call;
}

abbrev pub after_pass : {S : Type 0} → Filtering S → Call → Result S SerializeFault → Result (Filtering S) SerializeFault
after_pass f call (Ok inner) = Ok (after_call f call inner)
after_pass f call (Err fault) = Err fault

abbrev pub step_over : {S : Type 0} → Step S → Step (Filtering S)
step_over step f call = after_pass f call (pass step f.inner (passed_by f call))

abbrev pub refuses_over : {S : Type 0} → Refuses S → Refuses (Filtering S)
refuses_over refuses old call fault new = IsStopped refuses old.inner (passed_by old call) fault new.inner
