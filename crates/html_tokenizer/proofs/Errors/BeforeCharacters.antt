-- What an error in front of a character leaves.
use Rattle.std.proofs.Common.{ℕ, Bool, List, [], ◌∷◌, ◌++◌, ◌≡◌, ◌∙◌, ap, Option, Result, Ok, Err}
use Rattle.std.specs.Result.{IsErrAnd}
use Rattle.std.proofs.lemmas.Result.{err_from_is_err_and}
use Rattle.markup.specs.declared.fault.ParseFault.{ParseFault}
use Rattle.html_tokens.specs.declared.replies.ProcessResult.{ProcessResult}
use Rattle.html_tokens.specs.declared.sink.TokenSink.{Ghosts}
use Rattle.html_tokens.specs.Item.{grave_if}
use Rattle.html_tokenizer_parts.specs.declared.held_reference.Ampersand.{Ampersand}
use Rattle.html_tokenizer.specs.declared.tokenizer.Tokenizer.{Tokenizer}
use Rattle.html_tokenizer.specs.Calls.{KeepsRun}
use Rattle.html_tokenizer.specs.Steps.{now, Owed, Erred, Errs, Keeps, nothing_owed, owed_for, owed_for_each, together}
use Rattle.html_tokenizer.proofs.Steps.Keeping.{stays-then, fell-behind, fails-before}
use Rattle.html_tokenizer.proofs.Steps.AllRefused.{now-refused}
use Rattle.html_tokenizer.proofs.Steps.RefusedReadings.{every-fails}
use Rattle.html_tokenizer.proofs.Errors.Rises.{IsNoMore, rises-then, rises-less, each-more}

module _ {K H : Type 0} (Sink : Ghosts K H) where
  -- An error could not be told, so nothing that is to come could, whatever reference was held.
  pub keeps_refused : (old new : Tokenizer K) (held : Option Ampersand) (c : ℕ) (fault : ParseFault)
      (result : Result (ProcessResult H) ParseFault) → Errs Sink nothing_owed old new (Err fault)
      → IsErrAnd result (λ y. y ≡ fault) → Keeps Sink (record old { char_ref = held }) new c result
  keeps_refused old new held c fault result fails is =
      let p = err_from_is_err_and result is in
      let k : Tokenizer K = record old { char_ref = held } in
      rw (p.1, p.2) (
        fails.0,
        λ notes t.
            every-fails Sink old.sink new.sink (Sink.view old.sink) fault
            (now Sink k old.stream.breaks (Sink.view old.sink, notes) (c ∷ t)) fails.1
            (λ h. now-refused Sink k old.stream.breaks notes (c ∷ t) h),
      )

  -- The same of a run.
  pub run_refused : (old new : Tokenizer K) (run : List ℕ) (fault : ParseFault)
      (result : Result (Unit {0}) ParseFault) → Errs Sink nothing_owed old new (Err fault)
      → IsErrAnd result (λ y. y ≡ fault) → KeepsRun Sink old new run result
  run_refused old new run fault result fails is =
      let p = err_from_is_err_and result is in
      rw (p.1, p.2) (
        fails.0,
        λ notes t.
            every-fails Sink old.sink new.sink (Sink.view old.sink) fault
            (now Sink old old.stream.breaks (Sink.view old.sink, notes) (run ++ t)) fails.1
            (λ h. now-refused Sink old old.stream.breaks notes (run ++ t) h),
      )

  -- Errors were told, and then more.
  pub erred-then : {m n : Owed} (old mid new : Tokenizer K) → Erred Sink m old mid → Erred Sink n mid new
      → Erred Sink (together n m) old new
  erred-then old mid new h k = record {
    sink = k.sink ∙ h.sink;
    changed = k.changed ∙ ap {A = Tokenizer K} (λ x. record x { sink = new.sink }) h.changed;
    stays = stays-then Sink old.sink mid.sink new.sink h.stays k.stays;
    rises = rises-then Sink.errors old.sink mid.sink new.sink h.rises k.rises;
  }

  -- An error for each character of a text that passes, and then of one more.
  pub erred-each : (passes : ℕ → Bool) (front : List ℕ) (c : ℕ) (old mid new : Tokenizer K)
      → Erred Sink (owed_for_each passes front) old mid → Erred Sink (owed_for (grave_if (passes c))) mid new
      → Erred Sink (owed_for_each passes (front ++ c ∷ [])) old new
  erred-each passes front c old mid new h k =
      let both = erred-then old mid new h k in
      record {
        sink = both.sink;
        changed = both.changed;
        stays = both.stays;
        rises = rises-less Sink.errors old.sink new.sink (each-more passes front c) both.rises;
      }

  -- What was told tells what says no more.
  pub errs-less : {m : Owed} (n : Owed) (old new : Tokenizer K) (result : Result (Unit {0}) ParseFault)
      → IsNoMore n m → Errs Sink m old new result → Errs Sink n old new result
  errs-less n old new (Ok x) less h = record {
    sink = h.sink;
    changed = h.changed;
    stays = h.stays;
    rises = rises-less Sink.errors old.sink new.sink less h.rises;
  }
  errs-less n old new (Err fault) less h = h

  -- Errors were told, and then more were to be.
  pub errs-then : {m : Owed} (k n : Owed) (old mid new : Tokenizer K) (result : Result (Unit {0}) ParseFault)
      → IsNoMore n (together k m) → Erred Sink m old mid → Errs Sink k mid new result → Errs Sink n old new result
  errs-then k n old mid new (Ok x) less h more =
      let both = erred-then old mid new h more in
      record {
        sink = both.sink;
        changed = both.changed;
        stays = both.stays;
        rises = rises-less Sink.errors old.sink new.sink less both.rises;
      }
  errs-then k n old mid new (Err fault) less h more = (
    fell-behind Sink old.sink mid.sink new.sink h.stays more.0,
    λ token line. rw (← h.sink) (fails-before Sink old.sink mid.sink new.sink _ fault h.stays (more.1 token line)),
  )

  -- An error could not be told, so what was to be told was not.
  pub errs-not : (n : Owed) (old new : Tokenizer K) (fault : ParseFault) (result : Result (Unit {0}) ParseFault)
      → Errs Sink nothing_owed old new (Err fault) → IsErrAnd result (λ y. y ≡ fault) → Errs Sink n old new result
  errs-not n old new fault result fails is =
      let p = err_from_is_err_and result is in
      rw (p.1, p.2) fails

  -- Errors were told, and then one could not be told.
  pub errs-behind : {m : Owed} (n : Owed) (old mid new : Tokenizer K) (fault : ParseFault)
      (result : Result (Unit {0}) ParseFault) → Erred Sink m old mid → Errs Sink nothing_owed mid new (Err fault)
      → IsErrAnd result (λ y. y ≡ fault) → Errs Sink n old new result
  errs-behind n old mid new fault result h fails is =
      let p = err_from_is_err_and result is in
      rw (p.1, p.2) (
        fell-behind Sink old.sink mid.sink new.sink h.stays fails.0,
        λ token line. rw (← h.sink) (fails-before Sink old.sink mid.sink new.sink _ fault h.stays (fails.1 token line)),
      )
