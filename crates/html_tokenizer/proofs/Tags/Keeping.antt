-- How a state's function keeps what is to come: characters that end no line, odd ones, and references in values.
use Rattle.std.proofs.Common.{◌≡◌, ◌∙◌, ℕ, Bool, true, false, nat_eq, List, [], ◌∷◌, Result, Some, refl, sym, ap}
use Rattle.html_tokens.specs.Item.{Slight, slight_if}
use Rattle.html_tokens.specs.Notes.{Notes, noting_error}
use Rattle.html_tokens.specs.Reading.{erred_by}
use Rattle.html_tokens.specs.declared.replies.ProcessResult.TheVariants as flow
use Rattle.html_tokens.specs.declared.states.State.{State}
use Rattle.html_tokens.specs.declared.sink.TokenSink.{Ghosts}
use Rattle.html_tokens.specs.Sink.{Refusal}
use Rattle.html_tokenizer_parts.specs.CharRefs.{may_hold}
use Rattle.html_tokenizer_parts.specs.declared.held_reference.Ampersand.TheVariants.{Held}
use Rattle.html_tokenizer.specs.declared.tokenizer.Tokenizer.{Tokenizer}
use Rattle.html_tokenizer.specs.Steps.{IsAt, Took, nothing_owed}
use Rattle.html_tokenizer.proofs.Steps.Keeping.{stays-same, no-break, at, now-at, took, state-absorbs, Absorbs}
use Rattle.html_tokenizer.proofs.Steps.Readings.{sum-zero}
use Rattle.html_tokenizer.proofs.Errors.Rises.{rises-same}

module _ {K H : Type 0} (Sink : Ghosts K H) where
  -- The character is taken, which ends no line, and the machine stands in st'.
  pub took_here : (old new : Tokenizer K) (c : ℕ) (st st' : State) → IsAt old st → IsAt new st'
      → new.stream ≡ old.stream → new.sink ≡ old.sink → Sink.is_sound (Sink.view old.sink) → nat_eq c 10 ≡ false
      → ((b : ℕ) (s : Sink.State × Notes ℕ) (t : List ℕ) → at Sink st old b s (c ∷ t) ≡ at Sink st' new b s t)
      → Took Sink old new c flow.Continue
  took_here old new c st st' from to stream same ok unbroken law =
      took Sink old new c st st' from to stream same ok
      (λ b s t. law b s t ∙ ap (λ n. at Sink st' new n s t) (sym (no-break b c unbroken)))

  -- "&" is taken, and with it a reference may begin.
  pub took_reference : (old : Tokenizer K) (st : State) → IsAt old st → may_hold st ≡ true → Sink.is_sound (Sink.view old.sink)
      → ((b : ℕ) (s : Sink.State × Notes ℕ) (t : List ℕ) → at Sink st (record old { char_ref = Some (Held []) }) b s
      t ≡ at Sink st old b s t)
      → Took Sink old (record old { char_ref = Some (Held []) }) 38 flow.Continue
  took_reference old st from fits ok same =
      let new = record old { char_ref = Some (Held []) } in
      record {
        owed = nothing_owed;
        rises = rises-same Sink.errors old.sink old.sink refl;
        same = λ notes t.
            now-at Sink old st old.stream.breaks (Sink.view old.sink, notes) (38 ∷ t) from
            ∙ sym (same old.stream.breaks (Sink.view old.sink, notes) (38 ∷ t))
            ∙ ap (λ x. at Sink x new old.stream.breaks (Sink.view old.sink, notes) (38 ∷ t)) (sym from.state)
            ∙ ap (λ n. at Sink old.state new n (Sink.view old.sink, notes) (38 ∷ t)) (sym (sum-zero old.stream.breaks));
        stream = refl;
        sound = ok;
        fits = ap may_hold from.state ∙ fits;
        stays = stays-same Sink old.sink old.sink refl;
        paused = tt;
      }

  -- What is noted of a character that is odd here is the same where something slight was noted before.
  pub absorbs_odd : (old : Tokenizer K) (c : ℕ) (st : State) (odd : Bool) (next : ℕ → Sink.State × Notes ℕ → List ℕ
      → Result (Sink.State × Notes ℕ) (Refusal × ℕ)) → IsAt old st → odd ≡ true
      → ((b : ℕ) (s : Sink.State × Notes ℕ) (t : List ℕ) → at Sink st old b s (c ∷ t) ≡ next b (erred_by noting_error (slight_if odd) s) t)
      → Absorbs Sink old c
  absorbs_odd old c st odd next from is law = state-absorbs Sink old c st from (λ b s t.
      law b s t
      ∙ ap (λ odd. next b (erred_by noting_error (slight_if odd) s) t) is
      ∙ ap (λ odd. next b (erred_by noting_error (slight_if odd) (noting_error Slight s)) t) (sym is)
      ∙ sym (law b (noting_error Slight s) t))
