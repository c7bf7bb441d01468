-- Runs that are taken from the front of the input at once where no set of stops bounds them.
use Rattle.std.proofs.Common.{◌≡◌, ◌≢◌, ◌∙◌, ℕ, ◌<◌, true, false, nat_eq, List, [], ◌∷◌, ◌++◌, length, take}
use Rattle.std.proofs.Common.{Some, Result, Ok, Err, refl, sym, ap, subst, arith}
use Rattle.std.specs.Prelude.{All, IfErr, OnOk}
use Rattle.std.specs.Char.{is_ascii_alphanumeric}
use Rattle.std.specs.Str.{IsUtf8, chars}
use Rattle.std.proofs.lemmas.Bool.Decides.{nat_tests}
use Rattle.std.proofs.lemmas.List.Elements.{All-cons, All-head, All-nil, All-tail}
use Rattle.std.proofs.lemmas.Str.{encodes-chars}
use Rattle.std.proofs.Math.Seq.{take-append_seam}
use Rattle.html_queue.specs.Queue.{Queue, Takes}
use Rattle.html_queue.proofs.Taking.{filled}
use Rattle.html_tokenizer_parts.specs.Input.{IsUnbroken, coming_in}
use Rattle.html_tokenizer_parts.specs.declared.stream.Stream.{Stream}
use Rattle.html_tokenizer_parts.proofs.InputRuns.{front-comes}
use Rattle.markup.specs.declared.fault.ParseFault.{ParseFault}
use Rattle.markup.specs.declared.fault.ParseFault.TheVariants.{Memory}
use Rattle.html_tokens.specs.declared.sink.TokenSink.{Ghosts}
use Rattle.html_tokens.specs.declared.states.AttrValueKind.{AttrValueKind}
use Rattle.html_tokens.specs.declared.states.RawKind.TheVariants as raw
use Rattle.html_tokens.specs.declared.states.State.{State}
use Rattle.html_tokens.specs.declared.states.State.TheVariants as state
use Rattle.html_tokens.specs.declared.token.Token.TheVariants.{CharacterTokens}
use Rattle.html_tokens.specs.Item.{InData, InRaw}
use Rattle.html_tokens.specs.Sink.{SinkLaws}
use Rattle.html_tokenizer_parts.specs.CharRefs.{fits_in, may_hold}
use Rattle.html_tokenizer_parts.specs.declared.held_reference.Ampersand.TheVariants.{Unknown}
use Rattle.html_tokenizer.specs.declared.front_runs.RunKind.{RunKind}
use Rattle.html_tokenizer.specs.declared.front_runs.RunKind.TheVariants.{Named, CdataText, Brackets}
use Rattle.html_tokenizer.specs.declared.tokenizer.Tokenizer.{Tokenizer}
use Rattle.html_tokenizer.specs.AheadRuns.{IsAheadRun, IsFrontOf, IsWhere, ReadsRun, ends_run}
use Rattle.html_tokenizer.specs.Calls.{KeepsRun}
use Rattle.html_tokenizer.specs.Rest.{rows_of, held_at}
use Rattle.html_tokenizer.specs.Steps.{IsAt, Tells, nothing_owed}
use Rattle.html_tokenizer.proofs.HeldReferences.Ambiguous.{run-kept_unknown, unnamed, unnamed-at}
use Rattle.html_tokenizer.proofs.HeldReferences.AmbiguousStates.{named-held, value-more}
use Rattle.html_tokenizer.proofs.HeldReferences.InText.{data-reads, rcdata-reads}
use Rattle.html_tokenizer.proofs.Steps.Keeping.{fell-same}
use Rattle.html_tokenizer.proofs.Text.CdataSections.{brackets-run_says, cdata-text_says}
use Rattle.html_tokenizer.proofs.Text.Runs.{RunSays, held-kept, place-says, run-held, run-kept}

-- HOW THEY COME

-- no character of a run is a line end
kind-unbroken : (kind : RunKind) (c : ℕ) → ends_run kind c ≡ false → (nat_eq c 10 ≡ false) × (nat_eq c 13 ≡ false)
kind-unbroken Named c goes = (grind (arith, nat_tests, goes), grind (arith, nat_tests, goes))
kind-unbroken CdataText c goes = (grind (arith, nat_tests, goes), grind (arith, nat_tests, goes))
kind-unbroken Brackets c goes = (grind (arith, nat_tests, goes), grind (arith, nat_tests, goes))

run-unbroken : (kind : RunKind) (cs : List ℕ) → All (λ c. ends_run kind c ≡ false) cs → IsUnbroken cs
run-unbroken kind [] lacking = All-nil (λ c. (nat_eq c 10 ≡ false) × (nat_eq c 13 ≡ false))
run-unbroken kind (c ∷ cs) lacking =
    All-cons (λ c. (nat_eq c 10 ≡ false) × (nat_eq c 13 ≡ false)) c cs
    (kind-unbroken kind c (All-head (λ c. ends_run kind c ≡ false) c cs lacking))
    (run-unbroken kind cs (All-tail (λ c. ends_run kind c ≡ false) c cs lacking))

-- A run of this kind was taken from the queue, and comes as it is.
pub record ComesAhead {K : Type 0} (k : Tokenizer K) (kind : RunKind) (made : List ℕ) (from to : Queue) : Type 0 where
  pub run : IsAheadRun (record k { stream = record k.stream { ignore_lf = false } }) kind made
  pub takes : Takes made from to
  pub front : (t : List ℕ) → coming_in k.stream (made ++ t) ≡ made ++ coming_in (record k.stream { ignore_lf = false }) t

where-still : {K : Type 0} (kind : RunKind) (k : Tokenizer K) (stream : Stream) → IsWhere kind k
    → IsWhere kind (record k { stream = stream })
where-still Named k stream at = at
where-still CdataText k stream at = record { state = at.state; fresh = at.fresh }
where-still Brackets k stream at = record { state = at.state; fresh = at.fresh }

pub comes-ahead : {K : Type 0} (k : Tokenizer K) (kind : RunKind) (text spelled run made : List ℕ) (from to : Queue)
    → ReadsRun k kind → text ≡ spelled → IsFrontOf run text → IsUtf8 run → 0 < length run → made ≡ chars run
    → All (λ c. ends_run kind c ≡ false) (chars run)
    → Takes (chars (take (length run) spelled)) from to → ComesAhead k kind made from to
comes-ahead k kind text spelled run made from to reads e at utf8 some is lacking takes =
    let taken : chars (take (length run) spelled) ≡ chars run = ap (λ u. chars (take (length run) u)) (sym e)
    ∙ ap chars (ap (take (length run)) at.whole ∙ take-append_seam run at.rest) in
    let filled : 0 < length (chars run) = filled (chars run) run (encodes-chars run utf8) some in
    rw is (record {
      run = record { at = where-still kind k (record k.stream { ignore_lf = false }) reads.at; filled = filled; lacking = lacking };
      takes = subst (λ u. Takes u from to) taken takes;
      front = λ t. front-comes k.stream (chars run) t reads.unmarked filled (run-unbroken kind (chars run) lacking);
    })

-- LETTERS AND DIGITS OF AN UNKNOWN NAME

is-named : (c : ℕ) → ends_run Named c ≡ false → is_ascii_alphanumeric c ≡ true
is-named c goes = grind (arith, goes)

named-unbroken : (c : ℕ) → ends_run Named c ≡ false → nat_eq c 10 ≡ false
named-unbroken c goes = grind (arith, nat_tests, goes)

module _ {K H : Type 0} (Sink : Ghosts K H) (laws : SinkLaws Sink.is_sound Sink.step Sink.ended Sink.is_quiet) where
  named-says : (st : State) (old : Tokenizer K) (run : List ℕ) → may_hold st ≡ true
      → ((kind : AttrValueKind) → st ≢ state.AttributeValue kind) → 0 < length run
      → All (λ c. ends_run Named c ≡ false) run → RunSays Sink st old run
  unfolding held_at
  named-says state.Data old run holds apart filled named =
      place-says Sink laws old InData (ends_run Named) run named-unbroken filled named
      (λ c goes x t. (data-reads old).plain x c t (named-held c (is-named c goes)))
  named-says (state.RawData raw.Rcdata) old run holds apart filled named =
      place-says Sink laws old (InRaw raw.Rcdata) (ends_run Named) run named-unbroken filled named
      (λ c goes x t. (rcdata-reads old).plain x c t (named-held c (is-named c goes)))
  named-says (state.AttributeValue kind) old run holds apart filled named = absurd (apart kind refl)
  named-says _ old run holds apart filled named = absurd cc

  -- they were told as text
  named_text-kept : (old new : Tokenizer K) (run : List ℕ) (result : Result (Unit {0}) ParseFault)
      → old.char_ref ≡ Some Unknown → may_hold old.state ≡ true
      → ((kind : AttrValueKind) → old.state ≢ state.AttributeValue kind) → Sink.is_sound (Sink.view old.sink)
      → 0 < length run → All (λ c. ends_run Named c ≡ false) run → Tells Sink nothing_owed (CharacterTokens run) old
      new result → KeepsRun Sink old new run result
  named_text-kept old new run (Ok x) e holds apart ok filled named told =
      run-kept_unknown Sink old new run (Ok tt) e holds (ap (λ k. k.state) told.changed, ap (λ k. k.char_ref) told.changed ∙ e)
      (run-kept Sink (unnamed Sink old) (unnamed Sink new) run old.state (Ok tt) (unnamed-at Sink old) ok
      (record { gives = told.gives; changed = ap (unnamed Sink) told.changed; sound = told.sound; stays = told.stays; rises = told.rises })
      (named-says old.state (unnamed Sink old) run holds apart filled named))
  named_text-kept old new run (Err fault) e holds apart ok filled named fails =
      run-kept_unknown Sink old new run (Err fault) e holds tt
      (run-kept Sink (unnamed Sink old) (unnamed Sink new) run old.state (Err fault) (unnamed-at Sink old) ok fails
      (named-says old.state (unnamed Sink old) run holds apart filled named))

  -- they were put after a value
  named_value-kept : (old : Tokenizer K) (kind : AttrValueKind) (front run : List ℕ)
      (result : Result (Unit {0}) ParseFault) → old.char_ref ≡ Some Unknown → old.state ≡ state.AttributeValue kind
      → Sink.is_sound (Sink.view old.sink) → All (λ c. ends_run Named c ≡ false) run
      → OnOk result (front ≡ old.attribute_value ++ run) → IfErr result (λ fault. fault ≡ Memory)
      → KeepsRun Sink old (record old { attribute_value = front }) run result
  named_value-kept old kind front run result e is ok named grown fault =
      let there : (front : List ℕ) → IsAt (record (unnamed Sink old) { attribute_value = front })
      (state.AttributeValue kind) = λ front. record { state = is; fresh = refl } in
      run-kept_unknown Sink old (record old { attribute_value = front }) run result e (ap may_hold is) (still result)
      (held-kept Sink (unnamed Sink old) (λ front. record (unnamed Sink old) { attribute_value = front }) front
      (old.attribute_value ++ run) run result grown fault (fell-same Sink old.sink old.sink refl ok)
      (run-held Sink (λ front. record (unnamed Sink old) { attribute_value = front }) (ends_run Named)
      named-unbroken (λ front. ok) (λ front. refl)
      (λ front c goes. value-more Sink kind (record (unnamed Sink old) { attribute_value = front }) c
      (front ++ c ∷ []) (there front) ok (is-named c goes) refl)
      old.attribute_value run named))
    where
      still : (result : Result (Unit {0}) ParseFault) → OnOk result ((old.state ≡ old.state) × (old.char_ref ≡ Some Unknown))
      still (Ok x) = (refl, e)
      still (Err fault) = tt

  -- EACH KIND

  -- a run was told as text
  pub ahead_text-kept : (kind : RunKind) (old new : Tokenizer K) (run : List ℕ)
      (result : Result (Unit {0}) ParseFault) → IsAheadRun old kind run → fits_in (rows_of old) old.char_ref
      old.state ≡ true → Sink.is_sound (Sink.view old.sink) → ((kind : AttrValueKind) → old.state ≢ state.AttributeValue kind)
      → Tells Sink nothing_owed (CharacterTokens run) old new result → KeepsRun Sink old new run result
  ahead_text-kept Named old new run result runs fits ok apart told = named_text-kept old new run result runs.at
      (rw runs.at at fits) apart ok runs.filled runs.lacking told
  ahead_text-kept CdataText old new run result runs fits ok apart told =
      run-kept Sink old new run state.CdataSection result runs.at ok told (cdata-text_says Sink laws old run runs.filled runs.lacking)
  ahead_text-kept Brackets old new run result runs fits ok apart told =
      run-kept Sink old new run state.CdataSectionEnd result runs.at ok told (brackets-run_says Sink laws old run runs.filled runs.lacking)

  -- a run was put after a value
  pub ahead_value-kept : (kind : RunKind) (old : Tokenizer K) (value : AttrValueKind) (front run : List ℕ)
      (result : Result (Unit {0}) ParseFault) → IsAheadRun old kind run → Sink.is_sound (Sink.view old.sink)
      → old.state ≡ state.AttributeValue value
      → OnOk result (front ≡ old.attribute_value ++ run) → IfErr result (λ fault. fault ≡ Memory)
      → KeepsRun Sink old (record old { attribute_value = front }) run result
  ahead_value-kept Named old value front run result runs ok is grown fault = named_value-kept old value front run
      result runs.at is ok runs.lacking grown fault
  ahead_value-kept CdataText old value front run result runs ok is grown fault = let from = runs.at in
      let other : state.CdataSection ≡ state.AttributeValue value = sym from.state ∙ is in absurd cc
  ahead_value-kept Brackets old value front run result runs ok is grown fault = let from = runs.at in
      let other : state.CdataSectionEnd ≡ state.AttributeValue value = sym from.state ∙ is in absurd cc
