-- The end of a reference in text.
use Rattle.std.proofs.Common.{◌≡◌, ◌∙◌, ℕ, Bool, true, false, List, [], ◌∷◌, ◌++◌, Option, Some, Result, refl, sym, ap}
use Rattle.std.specs.List.{list_all}
use Rattle.std.specs.Result.{IsErrAnd}
use Rattle.markup.specs.declared.fault.ParseFault.{ParseFault}
use Rattle.html_tokens.specs.declared.replies.ProcessResult.{ProcessResult}
use Rattle.html_tokens.specs.declared.states.RawKind.TheVariants as raw
use Rattle.html_tokens.specs.declared.states.State.TheVariants as state
use Rattle.html_tokens.specs.declared.token.Token.TheVariants.{CharacterTokens}
use Rattle.html_tokens.specs.declared.sink.TokenSink.{Ghosts}
use Rattle.html_tokens.specs.Item.{grave_if, InData, InRaw}
use Rattle.html_tokens.specs.Notes.{Notes, noting}
use Rattle.html_tokens.specs.Reading.{◌>>=◌, line_number}
use Rattle.html_tokens.specs.Reference.{Reference, fault_of_reference}
use Rattle.html_tokens.specs.Sink.{SinkLaws}
use Rattle.html_tokenizer_parts.specs.CharRefs.{IsDecided, decided, is_faulty, is_held, is_unknown, resolved, resolved_by}
use Rattle.html_tokenizer_parts.specs.declared.held_reference.Ampersand.TheVariants.{Held, Unknown}
use Rattle.html_tokenizer.specs.declared.tokenizer.Tokenizer.{Tokenizer}
use Rattle.html_tokenizer.specs.Rest.{rows_of, standing, held_at}
use Rattle.html_tokenizer.specs.Steps.{owed_for, IsAt, more, Falls, Emitted, Tells, Keeps, reads}
use Rattle.html_tokenizer_parts.proofs.CharRefs.{unknown-slight}
use Rattle.html_tokenizer.proofs.HeldReferences.Faults.{fault-within}
use Rattle.html_tokenizer.proofs.HeldReferences.Ambiguous.{keeps-resolved_unknown}
use Rattle.html_tokenizer.proofs.Errors.RefusedErrors.{tells-less}
use Rattle.html_tokenizer.proofs.Steps.Keeping.{at}
use Rattle.html_tokenizer.proofs.HeldReferences.Holding.{Resolves, keeps-resolved, not-resolved}
use Rattle.html_tokenizer.proofs.HeldReferences.Readings.{ReadsHeld, held-no_null, held-no_open, held-no_reference}
use Rattle.html_tokenizer.proofs.HeldReferences.Readings.{reading-at_end, reading-held}
use Rattle.html_tokenizer.proofs.Steps.Lawful.{noting-lawful, erred-sound, erred-more}
use Rattle.html_tokenizer.specs.Listeners.{listening}

module _ {K : Type 0} (k : Tokenizer K) where
  pub data-reads : ReadsHeld (rows_of k) (standing k InData)
  data-reads = record {
    reference = λ x t. refl;
    plain = λ x c t h. rw (held-no_open c h, held-no_reference c h, held-no_null c h) refl;
  }

  pub rcdata-reads : ReadsHeld (rows_of k) (standing k (InRaw raw.Rcdata))
  rcdata-reads = record {
    reference = λ x t. refl;
    plain = λ x c t h. rw (held-no_open c h, held-no_reference c h, held-no_null c h) refl;
  }

module _ {K H : Type 0} (Sink : Ghosts K H) (laws : SinkLaws Sink.is_sound Sink.step Sink.ended Sink.is_quiet) where
  -- What a reference stands for was told, after the error that the Standard names, if it names one.
  pub reference-told : (told has : Bool) (old new : Tokenizer K) (cs front text : List ℕ) (o : Option Reference)
      (result : Result (Unit {0}) ParseFault) → has ≡ told → has ≡ is_faulty false (rows_of old) cs false
      → text ≡ front ++ resolved_by o cs → front ≡ [] → o ≡ decided false (rows_of old) cs false
      → Tells Sink (owed_for (grave_if told)) (CharacterTokens text) old new result
      → Tells Sink (owed_for (fault_of_reference (rows_of old) cs)) (CharacterTokens (resolved false (rows_of old) cs false)) old new result
  reference-told told has old new cs front text o result e f is none found tells =
      tells-less Sink laws (owed_for (grave_if told)) (owed_for (fault_of_reference (rows_of old) cs)) old new
      (CharacterTokens (resolved false (rows_of old) cs false)) result (fault-within false (rows_of old) cs false told (sym e ∙ f))
      (rw (is ∙ ap (λ front. front ++ resolved_by o cs) none ∙ ap (λ o. resolved_by o cs) found) at tells)

  pub data-resolves : (old : Tokenizer K) (cs : List ℕ) (c : ℕ) → IsDecided (rows_of old) cs c
      → Resolves Sink state.Data old cs c (owed_for (fault_of_reference (rows_of old) cs))
      (CharacterTokens (resolved false (rows_of old) cs false))
  unfolding held_at
  data-resolves old cs c d b s h t = reading-held (λ p. Sink.is_sound p.0) (listening Sink) (rows_of old)
      (noting-lawful Sink.is_sound Sink.step Sink.ended Sink.is_quiet laws) (standing old InData) b s cs
      (erred-sound Sink.is_sound (fault_of_reference (rows_of old) cs) s h) c t (data-reads old) d
      ∙ ap (λ q. noting Sink.step Sink.is_quiet q (CharacterTokens (resolved false (rows_of old) cs false))
      (line_number b) >>= λ p. reads Sink (rows_of old) (standing old InData) b p.0 (c ∷ t))
      (erred-more (fault_of_reference (rows_of old) cs) s)

  rcdata-resolves : (old : Tokenizer K) (cs : List ℕ) (c : ℕ) → IsDecided (rows_of old) cs c
      → Resolves Sink (state.RawData raw.Rcdata) old cs c (owed_for (fault_of_reference (rows_of old) cs))
      (CharacterTokens (resolved false (rows_of old) cs false))
  unfolding held_at
  rcdata-resolves old cs c d b s h t = reading-held (λ p. Sink.is_sound p.0) (listening Sink) (rows_of old)
      (noting-lawful Sink.is_sound Sink.step Sink.ended Sink.is_quiet laws) (standing old (InRaw raw.Rcdata)) b s cs
      (erred-sound Sink.is_sound (fault_of_reference (rows_of old) cs) s h) c t (rcdata-reads old) d
      ∙ ap (λ q. noting Sink.step Sink.is_quiet q (CharacterTokens (resolved false (rows_of old) cs false))
      (line_number b) >>= λ p. reads Sink (rows_of old) (standing old (InRaw raw.Rcdata)) b p.0 (c ∷ t))
      (erred-more (fault_of_reference (rows_of old) cs) s)

  -- the same where the input ends
  pub data-at_end : (old : Tokenizer K) (cs : List ℕ) → list_all is_held cs ≡ true → (b : ℕ) (s : Sink.State × Notes ℕ) → Sink.is_sound s.0
      → at Sink state.Data old b s (38 ∷ cs ++ []) ≡
      (noting Sink.step Sink.is_quiet (s.0, more (owed_for (fault_of_reference (rows_of old) cs)) s.1)
      (CharacterTokens (resolved false (rows_of old) cs false)) (line_number b) >>= λ p. at Sink state.Data old b p.0 [])
  unfolding held_at
  data-at_end old cs held b s h = reading-at_end (λ p. Sink.is_sound p.0) (listening Sink) (rows_of old)
      (noting-lawful Sink.is_sound Sink.step Sink.ended Sink.is_quiet laws) (standing old InData) b s cs
      (erred-sound Sink.is_sound (fault_of_reference (rows_of old) cs) s h) (data-reads old) held
      ∙ ap (λ q. noting Sink.step Sink.is_quiet q (CharacterTokens (resolved false (rows_of old) cs false))
      (line_number b) >>= λ p. reads Sink (rows_of old) (standing old InData) b p.0 [])
      (erred-more (fault_of_reference (rows_of old) cs) s)

  pub rcdata-at_end : (old : Tokenizer K) (cs : List ℕ) → list_all is_held cs ≡ true
      → (b : ℕ) (s : Sink.State × Notes ℕ) → Sink.is_sound s.0
      → at Sink (state.RawData raw.Rcdata) old b s (38 ∷ cs ++ []) ≡
      (noting Sink.step Sink.is_quiet (s.0, more (owed_for (fault_of_reference (rows_of old) cs)) s.1)
      (CharacterTokens (resolved false (rows_of old) cs false)) (line_number b)
      >>= λ p. at Sink (state.RawData raw.Rcdata) old b p.0 [])
  unfolding held_at
  rcdata-at_end old cs held b s h = reading-at_end (λ p. Sink.is_sound p.0) (listening Sink) (rows_of old)
      (noting-lawful Sink.is_sound Sink.step Sink.ended Sink.is_quiet laws) (standing old (InRaw raw.Rcdata)) b s cs
      (erred-sound Sink.is_sound (fault_of_reference (rows_of old) cs) s h) (rcdata-reads old) held
      ∙ ap (λ q. noting Sink.step Sink.is_quiet q (CharacterTokens (resolved false (rows_of old) cs false))
      (line_number b) >>= λ p. reads Sink (rows_of old) (standing old (InRaw raw.Rcdata)) b p.0 [])
      (erred-more (fault_of_reference (rows_of old) cs) s)

  pub data-ended : (old mid new : Tokenizer K) (cs : List ℕ) (c : ℕ) (result : Result (ProcessResult H) ParseFault)
      → IsAt old state.Data → Sink.is_sound (Sink.view old.sink) → IsDecided (rows_of old) cs c
      → Emitted Sink (owed_for (fault_of_reference (rows_of old) cs)) (CharacterTokens (resolved false (rows_of old) cs false)) old mid
      → Keeps Sink mid new c result → Keeps Sink (record old { char_ref = Some (Held cs) }) new c result
  data-ended old mid new cs c result from ok d told h = keeps-resolved Sink old mid new cs c state.Data
      (CharacterTokens (resolved false (rows_of old) cs false)) result from refl ok told (data-resolves old cs c d) h

  -- the same of an unknown name
  pub data-ended_unknown : (old mid new : Tokenizer K) (cs : List ℕ) (c : ℕ)
      (result : Result (ProcessResult H) ParseFault) → IsAt old state.Data → Sink.is_sound (Sink.view old.sink)
      → IsDecided (rows_of old) cs c → is_unknown (rows_of old) cs c ≡ true
      → Emitted Sink (owed_for (fault_of_reference (rows_of old) cs)) (CharacterTokens (resolved false (rows_of old) cs false)) old mid
      → Keeps Sink (record mid { char_ref = Some Unknown }) new c result
      → Keeps Sink (record old { char_ref = Some (Held cs) }) new c result
  data-ended_unknown old mid new cs c result from ok d unknown told h =
      keeps-resolved_unknown Sink old mid new cs c state.Data
      (CharacterTokens (resolved false (rows_of old) cs false)) result from refl ok
      (ap (λ fault. (owed_for fault).is_quiet) (unknown-slight (rows_of old) cs c unknown)) told (data-resolves old cs c d) h

  pub data-failed : (old new : Tokenizer K) (cs : List ℕ) (c : ℕ) (result : Result (ProcessResult H) ParseFault)
      (fault : ParseFault) → IsAt old state.Data → Sink.is_sound (Sink.view old.sink) → IsDecided (rows_of old) cs c
      → IsErrAnd result (λ y. y ≡ fault) → Falls Sink old.sink new.sink
      (Sink.step (Sink.view old.sink) (CharacterTokens (resolved false (rows_of old) cs false)) (line_number old.stream.breaks)) fault
      → Keeps Sink (record old { char_ref = Some (Held cs) }) new c result
  data-failed old new cs c result fault from ok d is fails = not-resolved Sink
      (owed_for (fault_of_reference (rows_of old) cs)) old new cs c state.Data
      (CharacterTokens (resolved false (rows_of old) cs false)) result fault from refl ok is fails (data-resolves old cs c d)

  pub rcdata-ended : (old mid new : Tokenizer K) (cs : List ℕ) (c : ℕ)
      (result : Result (ProcessResult H) ParseFault) → IsAt old (state.RawData raw.Rcdata)
      → Sink.is_sound (Sink.view old.sink) → IsDecided (rows_of old) cs c
      → Emitted Sink (owed_for (fault_of_reference (rows_of old) cs)) (CharacterTokens (resolved false (rows_of old) cs false)) old mid
      → Keeps Sink mid new c result → Keeps Sink (record old { char_ref = Some (Held cs) }) new c result
  rcdata-ended old mid new cs c result from ok d told h = keeps-resolved Sink old mid new cs c
      (state.RawData raw.Rcdata) (CharacterTokens (resolved false (rows_of old) cs false)) result from refl ok told
      (rcdata-resolves old cs c d) h

  pub rcdata-ended_unknown : (old mid new : Tokenizer K) (cs : List ℕ) (c : ℕ)
      (result : Result (ProcessResult H) ParseFault) → IsAt old (state.RawData raw.Rcdata)
      → Sink.is_sound (Sink.view old.sink) → IsDecided (rows_of old) cs c → is_unknown (rows_of old) cs c ≡ true
      → Emitted Sink (owed_for (fault_of_reference (rows_of old) cs)) (CharacterTokens (resolved false (rows_of old) cs false)) old mid
      → Keeps Sink (record mid { char_ref = Some Unknown }) new c result
      → Keeps Sink (record old { char_ref = Some (Held cs) }) new c result
  rcdata-ended_unknown old mid new cs c result from ok d unknown told h =
      keeps-resolved_unknown Sink old mid new cs c (state.RawData raw.Rcdata)
      (CharacterTokens (resolved false (rows_of old) cs false)) result from refl ok
      (ap (λ fault. (owed_for fault).is_quiet) (unknown-slight (rows_of old) cs c unknown)) told (rcdata-resolves old cs c d) h

  pub rcdata-failed : (old new : Tokenizer K) (cs : List ℕ) (c : ℕ) (result : Result (ProcessResult H) ParseFault)
      (fault : ParseFault) → IsAt old (state.RawData raw.Rcdata) → Sink.is_sound (Sink.view old.sink) → IsDecided (rows_of old) cs c
      → IsErrAnd result (λ y. y ≡ fault) → Falls Sink old.sink new.sink
      (Sink.step (Sink.view old.sink) (CharacterTokens (resolved false (rows_of old) cs false)) (line_number old.stream.breaks)) fault
      → Keeps Sink (record old { char_ref = Some (Held cs) }) new c result
  rcdata-failed old new cs c result fault from ok d is fails = not-resolved Sink
      (owed_for (fault_of_reference (rows_of old) cs)) old new cs c (state.RawData raw.Rcdata)
      (CharacterTokens (resolved false (rows_of old) cs false)) result fault from refl ok is fails (rcdata-resolves old cs c d)
