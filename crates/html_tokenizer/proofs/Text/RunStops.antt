-- Where runs of text end.
use Rattle.std.proofs.Common.{◌≡◌, ℕ, Bool, true, false, List, Option, Some, None, refl}
use Rattle.html_queue.specs.declared.set.SmallCharSet.{SmallCharSet}
use Rattle.html_tokens.specs.declared.states.State.{State}
use Rattle.html_tokenizer.specs.Stops.{state_stops, stops_of, IsRunAt}
use Rattle.html_tokenizer_parts.specs.declared.held_reference.Ampersand.{Ampersand}
use Rattle.html_tokenizer.specs.declared.tokenizer.Tokenizer.{Tokenizer}
use Rattle.html_tokenizer.specs.Steps.{IsAt}

-- where runs are read, nothing is awaited after "&"
stops-fresh : (exact : Bool) (char_ref : Option Ampersand) (st : State) (set : SmallCharSet)
    → stops_of exact char_ref st ≡ Some set → (char_ref ≡ None) × (state_stops st ≡ Some set)
stops-fresh true char_ref st set are = absurd cc
stops-fresh false None st set are = (refl, are)
stops-fresh false (Some held) st set are = absurd cc

-- where the machine is, and where a run ends there
pub run-at : {K : Type 0} (k : Tokenizer K) (run : List ℕ) → (at : IsRunAt k run) → IsAt k k.state × (state_stops k.state ≡ Some at.stops)
run-at k run at =
    let fresh = stops-fresh k.stream.exact_errors k.char_ref k.state at.stops at.are in
    (record { state = refl; fresh = fresh.0 }, fresh.1)
