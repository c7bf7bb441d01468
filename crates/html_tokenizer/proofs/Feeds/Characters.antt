-- A character is taken, and its line counted.
use Rattle.std.proofs.Common.{[], ◌≡◌, ◌∙◌, ℕ, ◌+◌, Bool, true, false, nat_eq, List, ◌∷◌, ◌++◌, Option, Result, Err, refl, sym, ap}
use Rattle.std.specs.Prelude.{min, if◌then◌else◌}
use Rattle.std.specs.Result.{IsErrAnd}
use Rattle.std.proofs.lemmas.Result.{err_from_is_err_and}
use Rattle.markup.specs.declared.fault.ParseFault.{ParseFault}
use Rattle.html_tokens.specs.declared.replies.ProcessResult.{ProcessResult}
use Rattle.html_tokens.specs.declared.replies.ProcessResult.TheVariants as flow
use Rattle.html_tokens.specs.declared.sink.TokenSink.{Ghosts}
use Rattle.html_tokens.specs.Notes.{Notes, noting_error}
use Rattle.html_tokens.specs.Reading.{erred_by, line_break}
use Rattle.html_tokenizer_parts.specs.Input.{counted}
use Rattle.html_tokenizer.specs.Calls.{Passed, Passes, owed_for_text}
use Rattle.html_tokenizer_parts.specs.declared.held_reference.Ampersand.{Ampersand}
use Rattle.html_tokenizer_parts.specs.declared.stream.Stream.{Stream}
use Rattle.html_tokenizer.specs.declared.tokenizer.Tokenizer.{Tokenizer}
use Rattle.html_tokenizer.specs.Rest.{fault_after, pending}
use Rattle.html_tokenizer.specs.Steps.{Owed, now, noted_by, PausesAt, Erred, Errs, Took, Keeps, nothing_owed}
use Rattle.html_tokenizer.proofs.Steps.Keeping.{held-other, erred-now, stays-then, fell-behind, fails-along, fails-before}
use Rattle.html_tokenizer.proofs.Errors.Rises.{rises-then}
use Rattle.html_tokenizer.proofs.Steps.AllRefused.{now-refused}
use Rattle.html_tokenizer.proofs.Steps.Lines.{held-lines, lines-capped}
use Rattle.html_tokenizer.proofs.Steps.Readings.{sum-zero}
use Rattle.html_tokenizer.proofs.Steps.RefusedReadings.{every-fails}
use Rattle.html_tokenizer.specs.Listeners.{listening}

module _ {K H : Type 0} (Sink : Ghosts K H) where
  -- The machine with what it held is the machine.
  pub advanced : (old new : Tokenizer K) (r : Option Ampersand) (c : ℕ)
      (result : Result (ProcessResult H) ParseFault) → r ≡ old.char_ref → Keeps Sink (record old { char_ref = r })
      new c result → Keeps Sink old new c result
  advanced old new r c result e h = rw e at h

  counted-by : (k : Tokenizer K) (b : ℕ) (s : Sink.State × Notes ℕ) (t : List ℕ) (breaks : Bool)
      → now Sink k (b + line_break breaks) s t ≡ now Sink k (if breaks then min (b + 1) 0xffff_ffff_ffff_ffff else b) s t
  counted-by k b s t true = held-lines (listening Sink) k.state k (b + 1) (min (b + 1) 0xffff_ffff_ffff_ffff)
      (erred_by noting_error (fault_after k.char_ref) s) (pending k.char_ref ++ t) (lines-capped (b + 1))
  counted-by k b s t false = ap (λ n. now Sink k n s t) (sum-zero b)

  -- a pause is where it was, whatever is known of the input
  pub notes-counted : (k : Tokenizer K) (stream : Stream) (c : ℕ) (result : ProcessResult H)
      → PausesAt Sink result c k → PausesAt Sink result c (record k { stream = stream })
  notes-counted k stream c flow.Continue h = tt
  notes-counted k stream c flow.Suspend h = absurd h
  notes-counted k stream c (flow.Script handle) h = (h.0, record { state = h.1.state; fresh = h.1.fresh }, h.2)
  notes-counted k stream c (flow.EncodingIndicator label) h = (h.0, record { state = h.1.state; fresh = h.1.fresh }, h.2)

  -- what is to come of a character that was taken is so too where its line is counted
  counted-same : (old mid : Tokenizer K) (c : ℕ) (result : ProcessResult H) (h : Took Sink old mid c result) (notes : Notes ℕ) (t : List ℕ)
      → now Sink old old.stream.breaks (Sink.view old.sink, notes) (c ∷ t) ≡ now Sink
      (record mid { stream = record mid.stream { breaks = counted mid.stream.breaks c } })
      (counted mid.stream.breaks c) (Sink.view mid.sink, noted_by Sink.number h.owed notes result) t
  counted-same old mid c result h notes t =
      let new : Tokenizer K = record mid { stream = record mid.stream { breaks = counted mid.stream.breaks c } } in
      h.same notes t
      ∙ counted-by mid old.stream.breaks (Sink.view mid.sink, noted_by Sink.number h.owed notes result) t (nat_eq c 10)
      ∙ sym (held-other (listening Sink) mid.state mid mid.sink new.stream (counted old.stream.breaks c)
      (erred_by noting_error (fault_after mid.char_ref)
      (Sink.view mid.sink, noted_by Sink.number h.owed notes result)) (pending mid.char_ref ++ t) refl)
      ∙ ap (λ x. now Sink new (counted x.breaks c) (Sink.view mid.sink, noted_by Sink.number h.owed notes result) t) (sym h.stream)

  -- what is to come is so too where an error of the character was told
  erred-same : {owed : Owed} (old erred : Tokenizer K) (notes : Notes ℕ) (t : List ℕ) → Erred Sink owed old erred
      → now Sink old old.stream.breaks (Sink.view old.sink, notes) t ≡ now Sink erred erred.stream.breaks (Sink.view erred.sink, notes) t
  erred-same old erred notes t e = erred-now Sink old erred old.stream.breaks notes t e
      ∙ ap (λ (k : Tokenizer K). now Sink erred k.stream.breaks (Sink.view erred.sink, notes) t) (sym e.changed)

  -- The character was taken after its own error, if it is told, and then its line was counted.
  pub passed : (old erred mid : Tokenizer K) (stream : Stream) (c : ℕ) (result : ProcessResult H)
      → Erred Sink (owed_for_text old.stream.exact_errors (c ∷ [])) old erred → Took Sink erred mid c result
      → stream ≡ record mid.stream { breaks = counted mid.stream.breaks c } → Passed Sink old (record mid { stream = stream }) c result
  passed old erred mid stream c result e h is = rw is (
      let same-stream = ap (λ (k : Tokenizer K). k.stream) e.changed in
      record {
        owed = h.owed;
        rises = rises-then Sink.errors old.sink erred.sink mid.sink e.rises h.rises;
        same = λ notes t. erred-same old erred notes (c ∷ t) e ∙ counted-same erred mid c result h notes t;
        stream = ap {A = Stream} (λ x. record x { breaks = counted mid.stream.breaks c }) (h.stream ∙ same-stream);
        sound = h.sound;
        fits = h.fits;
        stays = stays-then Sink old.sink erred.sink mid.sink e.stays h.stays;
        paused = notes-counted mid (record mid.stream { breaks = counted mid.stream.breaks c }) c result h.paused;
      })

  -- The character could not be taken.
  pub not-passed : {owed : Owed} (old erred mid : Tokenizer K) (c : ℕ) (fault : ParseFault)
      (result : Result (ProcessResult H) ParseFault) → Erred Sink owed old erred → Keeps Sink erred mid c (Err fault)
      → IsErrAnd result (λ y. y ≡ fault) → Passes Sink old mid c result
  not-passed old erred mid c fault result e h is =
      let p = err_from_is_err_and result is in
      rw (p.1, p.2) (
        fell-behind Sink old.sink erred.sink mid.sink e.stays h.0,
        λ notes t. fails-along Sink old.sink mid.sink _ _ fault (erred-same old erred notes (c ∷ t) e)
            (fails-before Sink old.sink erred.sink mid.sink _ fault e.stays (h.1 notes t)),
      )

  -- The error of the character could not be told, so nothing could.
  pub error-refused : (old mid : Tokenizer K) (c : ℕ) (fault : ParseFault)
      (result : Result (ProcessResult H) ParseFault) → Errs Sink nothing_owed old mid (Err fault)
      → IsErrAnd result (λ y. y ≡ fault) → Passes Sink old mid c result
  error-refused old mid c fault result fails is =
      let p = err_from_is_err_and result is in
      rw (p.1, p.2) (
        fails.0,
        λ notes t.
            every-fails Sink old.sink mid.sink (Sink.view old.sink) fault
            (now Sink old old.stream.breaks (Sink.view old.sink, notes) (c ∷ t)) fails.1
            (λ h. now-refused Sink old old.stream.breaks notes (c ∷ t) h),
      )
