-- How a state's function keeps what is to come by one call that tells a token.
use Rattle.std.proofs.Common.{◌≡◌, ◌∙◌, ℕ, ◌+◌, true, false, nat_eq, List, [], ◌∷◌, ◌++◌, Some, Result, Ok, Err, refl, sym, ap}
use Rattle.std.specs.Result.{IsErrAnd}
use Rattle.std.proofs.lemmas.Result.{err_from_is_err_and}
use Rattle.markup.specs.declared.fault.ParseFault.{ParseFault}
use Rattle.html_tokens.specs.declared.replies.ProcessResult.{ProcessResult}
use Rattle.html_tokens.specs.declared.replies.ProcessResult.TheVariants as flow
use Rattle.html_tokens.specs.declared.states.State.{State}
use Rattle.html_tokens.specs.declared.token.Token.{Token}
use Rattle.html_tokens.specs.declared.sink.TokenSink.{Ghosts}
use Rattle.html_tokens.specs.Notes.{Notes, noting_error}
use Rattle.html_tokens.specs.Reading.{erred_by, line_break, line_number}
use Rattle.html_tokens.specs.Sink.{Refusal}
use Rattle.html_tokenizer_parts.specs.CharRefs.{fits_in, may_hold}
use Rattle.html_tokenizer_parts.specs.declared.held_reference.Ampersand.TheVariants.{Held}
use Rattle.html_tokenizer.specs.declared.tokenizer.Tokenizer.{Tokenizer}
use Rattle.html_tokenizer.specs.Rest.{fault_after, pending, held_at, rows_of}
use Rattle.html_tokenizer.specs.Steps.{Owed, IsAt, more, Falls, Emitted, TakesAs, Took, Keeps, now, nothing_owed}
use Rattle.html_tokenizer.proofs.Errors.Rises.{rises-same}
use Rattle.html_tokenizer.proofs.Steps.Keeping.{at, now-at, Says, took_told, keeps_told, token-fails, stays-same, no-break}
use Rattle.html_tokenizer.specs.Listeners.{listening}

module _ {K H : Type 0} (Sink : Ghosts K H) where
  -- where only the state and what is held were set before a token was told
  told-from : {owed : Owed} (old target new : Tokenizer K) (token : Token) → target.sink ≡ old.sink
      → target.stream ≡ old.stream → Emitted Sink owed token target new → Emitted Sink owed token old (record old { sink = new.sink })
  told-from old target new token same stream told = record {
    gives = λ line e. ap (λ k. Sink.step (Sink.view k) token line) (sym same)
        ∙ told.gives line (e ∙ ap (λ x. line_number x.breaks) (sym stream));
    changed = refl;
    sound = told.sound;
    stays = rw (← same) told.stays;
    rises = rw (← same) told.rises;
  }

  fails-from : (old target new : Tokenizer K) (token : Token) (fault : ParseFault) → target.sink ≡ old.sink
      → target.stream ≡ old.stream → Falls Sink target.sink new.sink
      (Sink.step (Sink.view target.sink) token (line_number target.stream.breaks)) fault
      → Falls Sink old.sink new.sink (Sink.step (Sink.view old.sink) token (line_number old.stream.breaks)) fault
  fails-from old target new token fault same stream h = rw (← same, ← stream) h

  -- The token that is told next could not be told.
  pub not-told : (owed : Owed) (old new : Tokenizer K) (c : ℕ) (st : State) (token : Token) (fault : ParseFault)
      (next : ℕ → Sink.State × Notes ℕ → List ℕ → Result (Sink.State × Notes ℕ) (Refusal × ℕ))
      → IsAt old st → Sink.is_sound (Sink.view old.sink) → Falls Sink old.sink new.sink
      (Sink.step (Sink.view old.sink) token (line_number old.stream.breaks)) fault
      → Says Sink st old c owed token next
      → Keeps Sink old new c (Err fault)
  not-told owed old new c st token fault next from ok fails law = (
    fails.0,
    λ notes t.
        token-fails Sink old.sink new.sink _ (Sink.view old.sink) (more owed notes) token (line_number old.stream.breaks) fault _ fails.1
        (now-at Sink old st old.stream.breaks (Sink.view old.sink, notes) (c ∷ t) from ∙ law old.stream.breaks
        (Sink.view old.sink, notes) ok t),
  )

  -- The state was set, and the character taken as this token.
  pub keeps_taken : (owed : Owed) (old target new : Tokenizer K) (c : ℕ) (st st' : State) (token : Token)
      (result : Result (ProcessResult H) ParseFault) → IsAt old st → IsAt target st' → target.sink ≡ old.sink
      → target.stream ≡ old.stream → Sink.is_sound (Sink.view old.sink)
      → TakesAs Sink owed token target new result
      → Says Sink st old c owed token (λ b s t. at Sink st' target (b + line_break (nat_eq c 10)) s t)
      → Keeps Sink old new c result
  keeps_taken owed old target new c st st' token (Ok flow.Continue) from to same stream ok told law =
      took_told Sink old (record old { sink = new.sink }) new target c st st' token from ok
      (told-from old target new token same stream told) told.changed to stream law
  keeps_taken owed old target new c st st' token (Ok flow.Suspend) from to same stream ok told law = absurd told
  keeps_taken owed old target new c st st' token (Ok (flow.Script handle)) from to same stream ok told law = absurd told
  keeps_taken owed old target new c st st' token (Ok (flow.EncodingIndicator label)) from to same stream ok told law = absurd told
  keeps_taken owed old target new c st st' token (Err fault) from to same stream ok fails law =
      not-told owed old new c st token fault _ from ok (fails-from old target new token fault same stream fails) law

  -- The state was set, a token told, and then the character is taken by that state.
  pub keeps_then : {owed : Owed} (old target mid new : Tokenizer K) (c : ℕ) (st st' : State) (token : Token)
      (result : Result (ProcessResult H) ParseFault) → IsAt old st → IsAt target st' → target.sink ≡ old.sink
      → target.stream ≡ old.stream → Sink.is_sound (Sink.view old.sink)
      → Emitted Sink owed token target mid
      → Says Sink st old c owed token (λ b s t. at Sink st' target b s (c ∷ t))
      → Keeps Sink mid new c result → Keeps Sink old new c result
  keeps_then old target mid new c st st' token result from to same stream ok told law h =
      keeps_told Sink old (record old { sink = mid.sink }) mid new target c st st' token result from ok
      (told-from old target mid token same stream told) told.changed to stream law h

  -- The state was set, and the token that is told next could not be told.
  pub not-told_from : (owed : Owed) (old target new : Tokenizer K) (c : ℕ) (st : State) (token : Token)
      (result : Result (ProcessResult H) ParseFault) (fault : ParseFault) (next : ℕ → Sink.State × Notes ℕ → List ℕ
      → Result (Sink.State × Notes ℕ) (Refusal × ℕ))
      → IsAt old st → target.sink ≡ old.sink → target.stream ≡ old.stream → Sink.is_sound (Sink.view old.sink)
      → IsErrAnd result (λ y. y ≡ fault)
      → Falls Sink target.sink new.sink (Sink.step (Sink.view target.sink) token (line_number target.stream.breaks)) fault
      → Says Sink st old c owed token next
      → Keeps Sink old new c result
  not-told_from owed old target new c st token result fault next from same stream ok is fails law =
      let p = err_from_is_err_and result is in
      rw (p.1, p.2) (not-told owed old new c st token fault next from ok (fails-from old target new token fault same stream fails) law)

  -- what is to come where a reference has begun
  begun : (k : Tokenizer K) (st : State) (b : ℕ) (s : Sink.State × Notes ℕ) (t : List ℕ) → k.state ≡ st
      → k.char_ref ≡ Some (Held []) → now Sink k b s t ≡ at Sink st k b s (38 ∷ t)
  begun k st b s t e f = ap (λ r. held_at (listening Sink) k.state k b (erred_by noting_error (fault_after r) s)
      (pending r ++ t)) f ∙ ap (λ x. held_at (listening Sink) x k b s (38 ∷ t)) e

  -- A reference begins.
  pub took_reference : (old new : Tokenizer K) (c : ℕ) (st : State) → IsAt old st → may_hold st ≡ true
      → nat_eq c 10 ≡ false → new.state ≡ st → new.char_ref ≡ Some (Held []) → new.stream ≡ old.stream
      → new.sink ≡ old.sink → Sink.is_sound (Sink.view old.sink)
      → ((b : ℕ) (s : Sink.State × Notes ℕ) (t : List ℕ) → at Sink st old b s (c ∷ t) ≡ at Sink st new b s (38 ∷ t))
      → Took Sink old new c flow.Continue
  took_reference old new c st from fits unbroken state held stream same ok law = record {
    owed = nothing_owed;
    rises = rises-same Sink.errors old.sink new.sink same;
    same = λ notes t.
        now-at Sink old st old.stream.breaks (Sink.view old.sink, notes) (c ∷ t) from
        ∙ law old.stream.breaks (Sink.view old.sink, notes) t
        ∙ sym (begun new st old.stream.breaks (Sink.view old.sink, notes) t state held)
        ∙ ap (λ k. now Sink new old.stream.breaks (Sink.view k, notes) t) (sym same)
        ∙ ap (λ n. now Sink new n (Sink.view new.sink, notes) t) (sym (no-break old.stream.breaks c unbroken));
    stream = stream;
    sound = rw same ok;
    fits = ap (λ r. fits_in (rows_of new) r new.state) held ∙ (ap may_hold state ∙ fits);
    stays = stays-same Sink old.sink new.sink same;
    paused = tt;
  }
