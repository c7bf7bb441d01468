-- A walk that tells a filter is a walk of the filtered calls that tells the serializer.
use Rattle.std.proofs.Common.{◌≡◌, ◌∙◌, List, [], ◌∷◌, ◌++◌, Option, Some, None, Result, Ok, Err, refl, sym, ap, inl, inr}
use Rattle.std.specs.Prelude.{IfOk}
use Rattle.markup.specs.Calls.{Call, Refuses, Step, StopsBefore, Walks, and_then, run}
use Rattle.markup.specs.declared.serializer.SerializeFault.{SerializeFault}
use Rattle.markup.specs.declared.serializer.SerializeFault.TheVariants.{Memory}
use Rattle.html_clean.specs.Calls.{call_before, filtered, front_after, open_after}
use Rattle.html_clean.specs.Counts.{all_counted, with_counts}
use Rattle.html_clean.specs.declared.counts.Cleaned.{Cleaned}
use Rattle.html_clean.specs.Filter.{Filtering, IsStopped, after_call, after_pass, pass, passed_by, refuses_over, step_over}

module _ {S : Type 0} (step : Step S) (refuses : Refuses S) where
  -- calls were made, of which these were passed on
  record Ran (f : Filtering S) (calls made : List Call) (rest : List Call → List Call) (reached : Filtering S) : Type 0 where
    inner : run step f.inner made ≡ Ok reached.inner
    split : (left : List Call) → rest left ≡ made ++ filtered reached.policy reached.stack reached.front left
    counts : reached.counts ≡ all_counted f.policy f.stack f.counts calls

  abbrev RanAll : Filtering S → List Call → Filtering S → Type 0
  RanAll f calls reached = Ran f calls (filtered f.policy f.stack f.front calls)
      (λ left. filtered f.policy f.stack f.front (calls ++ left)) reached

  -- what is passed on for calls after a call
  abbrev later_calls : Filtering S → Call → List Call → List Call
  later_calls f call calls = filtered f.policy (open_after f.policy f.stack call) (front_after f.front (passed_by f call)) calls

  -- by what is passed on for the first call, and what the serializer makes of it
  ran-passed : (f : Filtering S) (call : Call) (calls : List Call) (reached : Filtering S) (on : Call)
      (r : Result S SerializeFault) → step f.inner on ≡ r
      → ((next : Filtering S) → run (step_over step) next calls ≡ Ok reached → RanAll next calls reached)
      → and_then (after_pass f call r) (λ next. run (step_over step) next calls) ≡ Ok reached
      → Ran f (call ∷ calls) (on ∷ later_calls f call calls) (λ left. on ∷ later_calls f call (calls ++ left)) reached
  ran-passed f call calls reached on (Err fault) e later h = absurd cc
  ran-passed f call calls reached on (Ok inner) e later h =
      let ran = later (after_call f call inner) h in
      record { inner = rw e ran.inner; split = λ left. ap (λ calls. on ∷ calls) (ran.split left); counts = ran.counts }

  ran-by : (f : Filtering S) (call : Call) (calls : List Call) (reached : Filtering S) (on : Option Call)
      → ((next : Filtering S) → run (step_over step) next calls ≡ Ok reached → RanAll next calls reached)
      → and_then (after_pass f call (pass step f.inner on)) (λ next. run (step_over step) next calls) ≡ Ok reached
      → Ran f (call ∷ calls) (call_before on (later_calls f call calls))
      (λ left. call_before on (later_calls f call (calls ++ left))) reached
  ran-by f call calls reached None later h = let ran = later (after_call f call f.inner) h in
      record { inner = ran.inner; split = ran.split; counts = ran.counts }
  ran-by f call calls reached (Some on) later h = ran-passed f call calls reached on (step f.inner on) refl later h

  same-state : (f reached : Filtering S) → run (step_over step) f [] ≡ Ok reached → f ≡ reached
  same-state f reached h = cc

  ran : (calls : List Call) (reached f : Filtering S) → run (step_over step) f calls ≡ Ok reached → RanAll f calls reached
  ran [] reached f h =
      let e = same-state f reached h in
      record {
        inner = ap (λ (f : Filtering S). Ok f.inner) e;
        split = λ left. ap (λ (f : Filtering S). filtered f.policy f.stack f.front left) e;
        counts = sym (ap (λ (f : Filtering S). f.counts) e);
      }
  ran (call ∷ calls) reached f h = ran-by f call calls reached (passed_by f call) (ran calls reached) h

  wanted : (s new : S) (calls : List Call) (fault : SerializeFault) → fault ≡ Memory → new ≡ s → StopsBefore refuses s calls fault new
  wanted s new [] fault is e = (is, e)
  wanted s new (call ∷ calls) fault is e = inl (is, e)

  refused-by : (s new : S) (on : Option Call) (calls : List Call) (fault : SerializeFault)
      → IsStopped refuses s on fault new → StopsBefore refuses s (call_before on calls) fault new
  refused-by s new on calls fault (inl h) = wanted s new (call_before on calls) fault h.0 h.1
  refused-by s new None calls fault (inr h) = absurd h
  refused-by s new (Some on) calls fault (inr h) = inr h

  stopped-before : (reached new : Filtering S) (left : List Call) (fault : SerializeFault)
      → StopsBefore (refuses_over refuses) reached left fault new
      → StopsBefore refuses reached.inner (filtered reached.policy reached.stack reached.front left) fault new.inner
  stopped-before reached new [] fault h = (h.0, ap (λ (f : Filtering S). f.inner) h.1)
  stopped-before reached new (call ∷ calls) fault (inl h) = wanted reached.inner new.inner
      (filtered reached.policy reached.stack reached.front (call ∷ calls)) fault h.0 (ap (λ (f : Filtering S). f.inner) h.1)
  stopped-before reached new (call ∷ calls) fault (inr h) = refused-by reached.inner new.inner
      (passed_by reached call) (later_calls reached call calls) fault h

  pub walks-filtered : {R : Type 0} (f new : Filtering S) (calls : List Call) (result : Result R SerializeFault)
      → Walks (step_over step) (refuses_over refuses) f calls result new
      → Walks step refuses f.inner (filtered f.policy f.stack f.front calls) result new.inner
  walks-filtered f new calls (Ok x) h = (ran calls new f h).inner
  walks-filtered f new calls (Err fault) h =
      let all = ran h.made h.reached f h.ran in
      record {
        made = filtered f.policy f.stack f.front h.made;
        left = filtered h.reached.policy h.reached.stack h.reached.front h.left;
        reached = h.reached.inner;
        parts = ap (filtered f.policy f.stack f.front) h.parts ∙ all.split h.left;
        ran = all.inner;
        stopped = stopped-before h.reached new h.left fault h.stopped;
      }

  -- the same with what was counted
  pub walks-with : {R : Type 0} (s new : S) (calls : List Call) (counts : Cleaned)
      (result : Result R SerializeFault) → Walks step refuses s calls result new → Walks step refuses s calls
      (with_counts counts result) new
  walks-with s new calls counts (Ok x) h = h
  walks-with s new calls counts (Err fault) h = h

  -- where a walk ends, what was not passed on was counted
  pub walks-counted : {R : Type 0} (f new : Filtering S) (calls : List Call) (counts : Cleaned)
      (result : Result R SerializeFault) → counts ≡ new.counts → Walks (step_over step) (refuses_over refuses) f calls result new
      → IfOk (with_counts counts result) (λ counts. counts ≡ all_counted f.policy f.stack f.counts calls)
  walks-counted f new calls counts (Ok x) e h = e ∙ (ran calls new f h).counts
  walks-counted f new calls counts (Err fault) e h = tt
