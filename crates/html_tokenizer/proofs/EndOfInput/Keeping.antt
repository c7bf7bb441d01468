-- How the end of the input is told: what is still to come over no further text.
use Rattle.std.proofs.Common.{◌≡◌, ◌∙◌, ℕ, [], Option, Result, Ok, Err, refl, sym, ap}
use Rattle.std.specs.Result.{IsErrAnd}
use Rattle.std.proofs.lemmas.Result.{err_from_is_err_and}
use Rattle.markup.specs.declared.fault.ParseFault.{ParseFault}
use Rattle.html_tokens.specs.declared.states.State.{State}
use Rattle.html_tokens.specs.declared.token.Token.{Token}
use Rattle.html_tokens.specs.declared.token.Token.TheVariants.{EOFToken}
use Rattle.html_tokens.specs.declared.sink.TokenSink.{Ghosts}
use Rattle.html_tokens.specs.Notes.{Notes, noting, noting_error}
use Rattle.html_tokens.specs.Reading.{◌>>=◌, line_number, erred_by}
use Rattle.html_tokenizer.specs.Calls.{at_end, Closes}
use Rattle.html_tokenizer_parts.specs.declared.held_reference.Ampersand.{Ampersand}
use Rattle.html_tokenizer.specs.declared.tokenizer.Tokenizer.{Tokenizer}
use Rattle.html_tokenizer.specs.Steps.{Owed, IsAt, more, Tells, Errs, now, nothing_owed, Emitted, owed_for, and_heard, together}
use Rattle.html_tokenizer.proofs.Steps.Keeping.{at, now-at, bind-err, token-fails, told-next, stays-then, fell-behind}
use Rattle.html_tokenizer.proofs.Steps.Keeping.{fails-along, fails-before, sound_erred}
use Rattle.html_tokenizer.proofs.Errors.Rises.{IsNoMore, more-more, rises-then, rises-less}
use Rattle.html_tokenizer.proofs.Steps.Lawful.{erred-more}
use Rattle.html_tokenizer.proofs.Steps.RefusedReadings.{noting-refused, every-fails}
use Rattle.html_tokens.specs.Item.{Fault}

module _ {K H : Type 0} (Sink : Ghosts K H) where
  -- Nothing is to come but the end, after this fault if there is one.
  abbrev pub OnlyEnds : Option Fault → State → Tokenizer K → Type 0
  OnlyEnds fault st k = (b : ℕ) (s : Sink.State × Notes ℕ) → at Sink st k b s [] ≡ at_end Sink b (erred_by noting_error fault s)

  -- This token is to come after what it owes, and then the end.
  abbrev pub TellsLast : State → Tokenizer K → Owed → Token → Type 0
  TellsLast st k owed token = (b : ℕ) (s : Sink.State × Notes ℕ) → Sink.is_sound s.0
      → at Sink st k b s [] ≡ (noting Sink.step Sink.is_quiet (s.0, more owed s.1) token (line_number b) >>= λ p. at_end Sink b p.0)

  -- This token is to come, and then the end after this fault if there is one.
  abbrev pub TellsThen : Option Fault → State → Tokenizer K → Token → Type 0
  TellsThen fault st k token = (b : ℕ) (s : Sink.State × Notes ℕ) → Sink.is_sound s.0
      → at Sink st k b s [] ≡ (noting Sink.step Sink.is_quiet s token (line_number b) >>= λ p. at_end Sink b
      (erred_by noting_error fault p.0))

  -- The token that is to come last was told, or could not be told. The reference that was held is no part of it.
  pub closes_last : (owed : Owed) (old new : Tokenizer K) (held : Option Ampersand) (token : Token) (result : Result (Unit {0}) ParseFault)
      → ((notes : Notes ℕ) → now Sink (record old { char_ref = held }) old.stream.breaks (Sink.view old.sink, notes)
      [] ≡ (noting Sink.step Sink.is_quiet (Sink.view old.sink, more owed notes) token
      (line_number old.stream.breaks) >>= λ p. at_end Sink old.stream.breaks p.0))
      → Tells Sink owed token old new result
      → Closes Sink (record old { char_ref = held }) new result
  closes_last owed old new held token (Ok x) law told = record {
    owed = and_heard (Sink.is_quiet (Sink.view old.sink) token) owed;
    rises = told.rises;
    same = λ notes. law notes ∙ told-next Sink owed old new token notes (λ s. at_end Sink old.stream.breaks s) told;
    stream = ap (λ k. k.stream) told.changed;
    sound = told.sound;
    stays = told.stays;
  }
  closes_last owed old new held token (Err fault) law fails = (
    fails.0,
    λ notes.
        token-fails Sink old.sink new.sink _ (Sink.view old.sink) (more owed notes) token
        (line_number old.stream.breaks) fault _ fails.1 (law notes),
  )

  -- the same where none is held
  pub closes_told : (owed : Owed) (old new : Tokenizer K) (st : State) (token : Token)
      (result : Result (Unit {0}) ParseFault) → IsAt old st → Sink.is_sound (Sink.view old.sink) → TellsLast st old owed token
      → Tells Sink owed token old new result → Closes Sink old new result
  closes_told owed old new st token result from ok law told = closes_last owed old new old.char_ref token result
      (λ notes. now-at Sink old st old.stream.breaks (Sink.view old.sink, notes) [] from ∙ law old.stream.breaks
      (Sink.view old.sink, notes) ok) told

  -- An error is told where nothing is to come but the end, or could not be told.
  pub closes_end : (told owed : Owed) (old new : Tokenizer K) (held : Option Ampersand)
      (result : Result (Unit {0}) ParseFault) → IsNoMore owed told → Sink.is_sound (Sink.view old.sink)
      → ((notes : Notes ℕ) → now Sink (record old { char_ref = held }) old.stream.breaks (Sink.view old.sink, notes)
      [] ≡ at_end Sink old.stream.breaks (Sink.view old.sink, more owed notes))
      → Errs Sink told old new result
      → Closes Sink (record old { char_ref = held }) new result
  closes_end told owed old new held (Ok x) less ok law h = record {
    owed = owed;
    rises = rises-less Sink.errors old.sink new.sink less h.rises;
    same = λ notes. law notes ∙ ap (λ s. at_end Sink old.stream.breaks (s, more owed notes)) (sym h.sink);
    stream = ap (λ k. k.stream) h.changed;
    sound = sound_erred Sink old new h ok;
    stays = h.stays;
  }
  closes_end told owed old new held (Err fault) less ok law fails = (
    fails.0,
    λ notes.
        fails-along Sink old.sink new.sink _ _ fault (law notes)
        (every-fails Sink old.sink new.sink (Sink.view old.sink) fault
        (at_end Sink old.stream.breaks (Sink.view old.sink, more owed notes)) fails.1
        (λ h. bind-err (noting Sink.step Sink.is_quiet (Sink.view old.sink, more owed notes) EOFToken
        (line_number old.stream.breaks)) _
        (noting-refused Sink (Sink.view old.sink) (more owed notes) h EOFToken (line_number old.stream.breaks)))),
  )

  -- the same where none is held, and the end comes after a fault
  pub closes_errs : (fault : Option Fault) (told : Owed) (old new : Tokenizer K) (st : State)
      (result : Result (Unit {0}) ParseFault) → IsNoMore (owed_for fault) told → IsAt old st
      → Sink.is_sound (Sink.view old.sink) → OnlyEnds fault st old
      → Errs Sink told old new result → Closes Sink old new result
  closes_errs fault told old new st result less from ok law h = closes_end told (owed_for fault) old new old.char_ref result less ok
      (λ notes. now-at Sink old st old.stream.breaks (Sink.view old.sink, notes) [] from ∙ law old.stream.breaks
      (Sink.view old.sink, notes) ∙ ap (λ s. at_end Sink old.stream.breaks s) (erred-more fault (Sink.view old.sink, notes))) h

  -- That token could not be told.
  pub closes_untold : (fault : Option Fault) (old new : Tokenizer K) (st : State) (token : Token)
      (told : ParseFault) (result : Result (Unit {0}) ParseFault) → IsAt old st → Sink.is_sound (Sink.view old.sink)
      → TellsThen fault st old token
      → Tells Sink nothing_owed token old new (Err told) → IsErrAnd result (λ y. y ≡ told) → Closes Sink old new result
  closes_untold fault old new st token told result from ok law fails is =
      let p = err_from_is_err_and result is in
      rw (p.1, p.2) (
        fails.0,
        λ notes.
            token-fails Sink old.sink new.sink _ (Sink.view old.sink) notes token (line_number old.stream.breaks)
            told (λ p. at_end Sink old.stream.breaks (erred_by noting_error fault p.0)) fails.1
            (now-at Sink old st old.stream.breaks (Sink.view old.sink, notes) [] from ∙ law old.stream.breaks
            (Sink.view old.sink, notes) ok),
      )

  behind : (fault : Option Fault) (told owed : Owed) (old mid new : Tokenizer K) (token : Token)
      (result : Result (Unit {0}) ParseFault) → IsNoMore (owed_for fault) told → Emitted Sink nothing_owed token old
      mid → Errs Sink told mid new result
      → ((notes : Notes ℕ) → now Sink old old.stream.breaks (Sink.view old.sink, notes) [] ≡ at_end Sink
      old.stream.breaks (Sink.view mid.sink, more (owed_for fault) (more owed notes)))
      → owed ≡ and_heard (Sink.is_quiet (Sink.view old.sink) token) nothing_owed → Closes Sink old new result
  behind fault told owed old mid new token (Ok x) less first h law is = record {
    owed = together (owed_for fault) owed;
    rises = rises-then Sink.errors old.sink mid.sink new.sink (rw is first.rises) (rises-less Sink.errors mid.sink new.sink less h.rises);
    same = λ notes.
        law notes
        ∙ ap (λ s. at_end Sink old.stream.breaks (s, more (owed_for fault) (more owed notes))) (sym h.sink)
        ∙ ap (λ n. at_end Sink old.stream.breaks (Sink.view new.sink, n)) (more-more (owed_for fault) owed notes);
    stream = ap (λ k. k.stream) h.changed ∙ ap (λ k. k.stream) first.changed;
    sound = sound_erred Sink mid new h first.sound;
    stays = stays-then Sink old.sink mid.sink new.sink first.stays h.stays;
  }
  behind fault told owed old mid new token (Err error) less first fails law is = (
    fell-behind Sink old.sink mid.sink new.sink first.stays fails.0,
    λ notes.
        fails-along Sink old.sink new.sink _ _ error (law notes)
        (fails-before Sink old.sink mid.sink new.sink _ error first.stays
        (every-fails Sink mid.sink new.sink (Sink.view mid.sink) error
        (at_end Sink old.stream.breaks (Sink.view mid.sink, more (owed_for fault) (more owed notes))) fails.1
        (λ h. bind-err (noting Sink.step Sink.is_quiet (Sink.view mid.sink, more (owed_for fault) (more owed notes))
        EOFToken (line_number old.stream.breaks)) _
        (noting-refused Sink (Sink.view mid.sink) (more (owed_for fault) (more owed notes)) h EOFToken
        (line_number old.stream.breaks))))),
  )

  -- The token was told, and then the error of the end, or that error could not be told.
  pub closes_then : (fault : Option Fault) (told : Owed) (old mid new : Tokenizer K) (st : State) (token : Token)
      (result : Result (Unit {0}) ParseFault) → IsNoMore (owed_for fault) told → IsAt old st
      → Sink.is_sound (Sink.view old.sink) → TellsThen fault st old token
      → Emitted Sink nothing_owed token old mid → Errs Sink told mid new result → Closes Sink old new result
  closes_then fault told old mid new st token result less from ok law first errs =
      let owed = and_heard (Sink.is_quiet (Sink.view old.sink) token) nothing_owed in
      let ends-behind : (notes : Notes ℕ) → now Sink old old.stream.breaks (Sink.view old.sink, notes)
      [] ≡ at_end Sink old.stream.breaks (Sink.view mid.sink, more (owed_for fault) (more owed notes)) =
      λ notes.
      now-at Sink old st old.stream.breaks (Sink.view old.sink, notes) [] from
      ∙ law old.stream.breaks (Sink.view old.sink, notes) ok
      ∙ told-next Sink nothing_owed old mid token notes (λ s. at_end Sink old.stream.breaks (erred_by noting_error fault s)) first
      ∙ ap (λ s. at_end Sink old.stream.breaks s) (erred-more fault (Sink.view mid.sink, more owed notes)) in
      behind fault told owed old mid new token result less first errs ends-behind refl
