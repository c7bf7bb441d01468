-- What is held was told, and then the end of the input.
use Rattle.std.proofs.Common.{◌≡◌, ◌∙◌, ℕ, [], Result, Ok, Err, sym, ap}
use Rattle.std.specs.Result.{IsErrAnd}
use Rattle.std.proofs.lemmas.Result.{err_from_is_err_and}
use Rattle.markup.specs.declared.fault.ParseFault.{ParseFault}
use Rattle.markup.specs.declared.fault.ParseFault.TheVariants.{Memory, TokenInText, Ended, Shape, Failed}
use Rattle.html_tokens.specs.declared.token.Token.TheVariants.{EOFToken}
use Rattle.html_tokens.specs.declared.sink.TokenSink.{Ghosts}
use Rattle.html_tokens.specs.Notes.{Notes, noting_end}
use Rattle.html_tokens.specs.Reading.{line_number}
use Rattle.html_tokenizer.specs.Calls.{to_come, at_end, Closed, Closes, TellsEnd}
use Rattle.html_tokenizer.specs.declared.tokenizer.Tokenizer.{Tokenizer}
use Rattle.html_tokenizer.specs.Steps.{Fails, FailsAmong, TellsAmong, nothing_owed, and_heard, together, more}
use Rattle.html_tokenizer.proofs.Steps.Keeping.{stays-then, fell-behind, fails_before, token_fails, told-next}
use Rattle.html_tokenizer.proofs.Errors.Rises.{more-more, rises-then}

module _ {K H : Type 0} (Sink : Ghosts K H) where
  -- what is to come where all that was held was told
  closed-now : (old mid : Tokenizer K) (h : Closed Sink old mid) (notes : Notes ℕ)
      → to_come Sink old notes [] ≡ at_end Sink mid.stream.breaks (Sink.view mid.sink, more h.owed notes)
  closed-now old mid h notes = h.same notes ∙ ap (λ x. at_end Sink x.breaks (Sink.view mid.sink, more h.owed notes)) (sym h.stream)

  -- The end was told, or could not be told.
  pub ended : (old mid new : Tokenizer K) (result : Result (Unit {0}) ParseFault) → Closed Sink old mid
      → TellsAmong Sink (λ token. Unit {0}) nothing_owed EOFToken mid new result
      → TellsEnd Sink old new result
  ended old mid new (Ok x) h told = record {
    owed = together (and_heard (Sink.is_quiet (Sink.view mid.sink) EOFToken) nothing_owed) h.owed;
    rises = rises-then Sink.errors old.sink mid.sink new.sink h.rises told.rises;
    same = λ notes.
        closed-now old mid h notes
        ∙ told-next Sink nothing_owed mid new EOFToken (more h.owed notes) (λ s. Ok (noting_end Sink.ended s)) told
        ∙ ap (λ n. Ok (Sink.ended (Sink.view new.sink), n))
        (more-more (and_heard (Sink.is_quiet (Sink.view mid.sink) EOFToken) nothing_owed) h.owed notes);
    stream = ap (λ k. k.stream) told.changed ∙ h.stream;
    sound = told.sound;
    stays = stays-then Sink old.sink mid.sink new.sink h.stays told.stays;
  }
  ended old mid new (Err fault) h fails = record {
    fell = fell-behind Sink old.sink mid.sink new.sink h.stays fails.0;
    fails = λ notes.
        fails_before Sink (λ token. Unit {0}) old.sink mid.sink new.sink _ fault h.stays
        (token_fails Sink (λ token. Unit {0}) mid.sink new.sink _ (Sink.view mid.sink) (more h.owed notes) EOFToken
        (line_number mid.stream.breaks) fault _ fails.1 (closed-now old mid h notes));
  }

  any-token : (old new : K) {A F : Type 0} (given : Result A F) (fault : ParseFault)
      → Fails Sink old new given fault → FailsAmong Sink (λ token. Unit {0}) old new given fault
  any-token old new given Memory h = tt
  any-token old new given TokenInText h = (h.0, record { token = h.1.token; is_among = tt; line = h.1.line; is = h.1.is })
  any-token old new given Ended h = (h.0, record { token = h.1.token; is_among = tt; line = h.1.line; is = h.1.is })
  any-token old new given Shape h = (h.0, record { token = h.1.token; is_among = tt; line = h.1.line; is = h.1.is })
  any-token old new given Failed h = h

  -- What was held could not be told.
  pub not-closed : (old new : Tokenizer K) (fault : ParseFault) (result : Result (Unit {0}) ParseFault)
      → Closes Sink old new (Err fault) → IsErrAnd result (λ y. y ≡ fault) → TellsEnd Sink old new result
  not-closed old new fault result h is =
      let p = err_from_is_err_and result is in
      rw (p.1, p.2) (record { fell = h.0; fails = λ notes. any-token old.sink new.sink _ fault (h.1 notes) })
