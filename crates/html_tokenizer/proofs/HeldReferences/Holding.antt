-- How the machine goes on with a reference that it holds.
use Rattle.std.proofs.Common.{◌≡◌, ◌∙◌, ℕ, true, List, [], ◌∷◌, ◌++◌, Option, Some, Result, refl, sym, subst, ap, append_assoc}
use Rattle.std.proofs.lemmas.Bool.{and_parts}
use Rattle.std.specs.Result.{IsErrAnd}
use Rattle.std.proofs.lemmas.Result.{err_from_is_err_and}
use Rattle.markup.specs.declared.fault.ParseFault.{ParseFault}
use Rattle.html_tokens.specs.declared.replies.ProcessResult.{ProcessResult}
use Rattle.html_tokens.specs.declared.replies.ProcessResult.TheVariants as flow
use Rattle.html_tokens.specs.declared.states.AttrValueKind.TheVariants as value
use Rattle.html_tokens.specs.declared.states.RawKind.TheVariants as raw
use Rattle.html_tokens.specs.declared.states.State.{State}
use Rattle.html_tokens.specs.declared.states.State.TheVariants as state
use Rattle.html_tokens.specs.declared.token.Token.{Token}
use Rattle.html_tokens.specs.declared.sink.TokenSink.{Ghosts}
use Rattle.html_tokens.specs.declared.table.ReferenceRow.{ReferenceRow}
use Rattle.html_tokens.specs.Notes.{Notes, noting}
use Rattle.html_tokens.specs.Reading.{◌>>=◌, line_number}
use Rattle.html_tokenizer_parts.specs.CharRefs.{fits_in, is_held, is_held_front, may_go_on, may_hold}
use Rattle.html_tokenizer_parts.specs.declared.held_reference.Ampersand.{Ampersand}
use Rattle.html_tokenizer_parts.specs.declared.held_reference.Ampersand.TheVariants.{Held, Unknown}
use Rattle.html_tokenizer.specs.declared.tokenizer.Tokenizer.{Tokenizer}
use Rattle.std.specs.Prelude.{◌&&◌}
use Rattle.html_tokenizer.specs.Rest.{held_at, rows_of}
use Rattle.html_tokenizer.specs.Steps.{Owed, and_heard, IsAt, more as more_noted, Falls, Emitted, Took, Keeps, now, nothing_owed}
use Rattle.html_tokenizer.proofs.Steps.Keeping.{at, keeps-behind, no-break, now-target, token-fails, told-next, stays-same}
use Rattle.html_tokenizer.proofs.HeldReferences.Readings.{held-unbroken}
use Rattle.html_tokenizer.proofs.Errors.Rises.{rises-same}

-- a reference that is held where it fits is the beginning of one, and the machine is where it may be held
pub fits-held : (rows : List ReferenceRow) (r : Option Ampersand) (cs : List ℕ) (st : State) → r ≡ Some (Held cs)
    → fits_in rows r st ≡ true → (is_held_front rows cs ≡ true) × (may_hold st ≡ true)
fits-held rows r cs st e fits = and_parts (is_held_front rows cs) (may_hold st) (subst (λ x. fits_in rows x st ≡ true) e fits)

-- an unknown name is after `&` where a reference may be held
pub fits-unknown : (rows : List ReferenceRow) (r : Option Ampersand) (st : State) → r ≡ Some Unknown
    → fits_in rows r st ≡ true → may_hold st ≡ true
fits-unknown rows r st e fits = subst (λ x. fits_in rows x st ≡ true) e fits

module _ {K H : Type 0} (Sink : Ghosts K H) where
  -- The reference that is held does not matter to what its state makes of a text.
  pub held-other_reference : (st : State) → may_hold st ≡ true → (k : Tokenizer K) (r : Option Ampersand) (b : ℕ)
      (s : Sink.State × Notes ℕ) (t : List ℕ)
      → at Sink st (record k { char_ref = r }) b s t ≡ at Sink st k b s t
  unfolding held_at
  held-other_reference state.Data h k r b s t = refl
  held-other_reference (state.RawData raw.Rcdata) h k r b s t = refl
  held-other_reference (state.AttributeValue value.Unquoted) h k r b s t = refl
  held-other_reference (state.AttributeValue value.SingleQuoted) h k r b s t = refl
  held-other_reference (state.AttributeValue value.DoubleQuoted) h k r b s t = refl
  held-other_reference _ h k r b s t = absurd cc

  -- what is to come where a reference is held
  pub now-held : (k : Tokenizer K) (st : State) (cs : List ℕ) (b : ℕ) (s : Sink.State × Notes ℕ) (t : List ℕ)
      → k.state ≡ st → may_hold st ≡ true
      → now Sink (record k { char_ref = Some (Held cs) }) b s t ≡ at Sink st k b s (38 ∷ cs ++ t)
  now-held k st cs b s t e h =
      ap (λ x. at Sink x (record k { char_ref = Some (Held cs) }) b s (38 ∷ cs ++ t)) e
      ∙ held-other_reference st h k (Some (Held cs)) b s (38 ∷ cs ++ t)

  -- A character more is held.
  pub took-held : (old : Tokenizer K) (c : ℕ) (cs more : List ℕ) → may_hold old.state ≡ true
      → Sink.is_sound (Sink.view old.sink) → is_held c ≡ true → may_go_on (rows_of old) cs c ≡ true → more ≡ cs ++ c ∷ []
      → Took Sink (record old { char_ref = Some (Held cs) }) (record old { char_ref = Some (Held more) }) c flow.Continue
  took-held old c cs more fits ok held front is = record {
    owed = nothing_owed;
    rises = rises-same Sink.errors old.sink old.sink refl;
    same = λ notes t.
        now-held old old.state cs old.stream.breaks (Sink.view old.sink, notes) (c ∷ t) refl fits
        ∙ ap (λ u. at Sink old.state old old.stream.breaks (Sink.view old.sink, notes) (38 ∷ u))
        (sym (append_assoc cs (c ∷ []) t) ∙ ap (λ m. m ++ t) (sym is))
        ∙ sym (now-held old old.state more old.stream.breaks (Sink.view old.sink, notes) t refl fits)
        ∙ ap (λ n. now Sink (record old { char_ref = Some (Held more) }) n (Sink.view old.sink, notes) t)
        (sym (no-break old.stream.breaks c (held-unbroken c held)));
    stream = refl;
    sound = ok;
    fits = ap (λ m. is_held_front (rows_of old) m && may_hold old.state) is ∙ (ap (λ b. b && may_hold old.state) front ∙ fits);
    stays = stays-same Sink old.sink old.sink refl;
    paused = tt;
  }

  -- What was held is told as this token, and then the character comes.
  abbrev pub Resolves : State → Tokenizer K → List ℕ → ℕ → Owed → Token → Type 0
  Resolves st k cs c owed token = (b : ℕ) (s : Sink.State × Notes ℕ) → Sink.is_sound s.0 → (t : List ℕ)
      → at Sink st k b s (38 ∷ cs ++ c ∷ t) ≡ (noting Sink.step Sink.is_quiet (s.0, more_noted owed s.1) token
      (line_number b) >>= λ p. at Sink st k b p.0 (c ∷ t))

  -- what is to come where what was held was told
  pub now-resolved : {owed : Owed} (old mid : Tokenizer K) (cs : List ℕ) (c : ℕ) (st : State) (token : Token)
      → IsAt old st → may_hold st ≡ true → Sink.is_sound (Sink.view old.sink)
      → Emitted Sink owed token old mid → Resolves st old cs c owed token → (notes : Notes ℕ) (t : List ℕ)
      → now Sink (record old { char_ref = Some (Held cs) }) old.stream.breaks (Sink.view old.sink, notes)
      (c ∷ t) ≡ now Sink mid old.stream.breaks
      (Sink.view mid.sink, more_noted (and_heard (Sink.is_quiet (Sink.view old.sink) token) owed) notes) (c ∷ t)
  now-resolved {owed} old mid cs c st token from fits ok told law notes t =
      let heard = and_heard (Sink.is_quiet (Sink.view old.sink) token) owed in
      now-held old st cs old.stream.breaks (Sink.view old.sink, notes) (c ∷ t) from.state fits
      ∙ law old.stream.breaks (Sink.view old.sink, notes) ok t
      ∙ told-next Sink owed old mid token notes (λ s. at Sink st old old.stream.breaks s (c ∷ t)) told
      ∙ sym (now-target Sink old mid.sink st old.stream.breaks (Sink.view mid.sink, more_noted heard notes) (c ∷ t) from)
      ∙ sym (ap (λ k. now Sink k old.stream.breaks (Sink.view mid.sink, more_noted heard notes) (c ∷ t)) told.changed)

  pub keeps-resolved : {owed : Owed} (old mid new : Tokenizer K) (cs : List ℕ) (c : ℕ) (st : State) (token : Token)
      (result : Result (ProcessResult H) ParseFault) → IsAt old st → may_hold st ≡ true → Sink.is_sound (Sink.view old.sink)
      → Emitted Sink owed token old mid → Resolves st old cs c owed token
      → Keeps Sink mid new c result → Keeps Sink (record old { char_ref = Some (Held cs) }) new c result
  keeps-resolved {owed} old mid new cs c st token result from fits ok told law h =
      keeps-behind Sink (and_heard (Sink.is_quiet (Sink.view old.sink) token) owed)
      (record old { char_ref = Some (Held cs) }) mid new c result (ap (λ k. k.stream) told.changed) told.stays
      told.rises (now-resolved old mid cs c st token from fits ok told law) h

  -- What was held could not be told.
  pub not-resolved : (owed : Owed) (old new : Tokenizer K) (cs : List ℕ) (c : ℕ) (st : State) (token : Token)
      (result : Result (ProcessResult H) ParseFault) (fault : ParseFault) → IsAt old st → may_hold st ≡ true
      → Sink.is_sound (Sink.view old.sink)
      → IsErrAnd result (λ y. y ≡ fault) → Falls Sink old.sink new.sink
      (Sink.step (Sink.view old.sink) token (line_number old.stream.breaks)) fault → Resolves st old cs c owed token
      → Keeps Sink (record old { char_ref = Some (Held cs) }) new c result
  not-resolved owed old new cs c st token result fault from fits ok is fails law =
      let p = err_from_is_err_and result is in
      rw (p.1, p.2) (
        fails.0,
        λ notes t.
            token-fails Sink old.sink new.sink _ (Sink.view old.sink) (more_noted owed notes) token
            (line_number old.stream.breaks) fault _ fails.1
            (now-held old st cs old.stream.breaks (Sink.view old.sink, notes) (c ∷ t) from.state fits
            ∙ law old.stream.breaks (Sink.view old.sink, notes) ok t),
      )
