-- What the end of the input makes of a token that is told there.
use Rattle.std.proofs.Common.{◌≡◌, ◌∙◌, ℕ, List, [], take, drop, Result, Ok, Err, sym, ap, Option}
use Rattle.markup.specs.declared.fault.ParseFault.{ParseFault}
use Rattle.html_tokens.specs.declared.replies.TokenSinkResult.TheVariants as reply
use Rattle.html_tokens.specs.declared.states.State.{State}
use Rattle.html_tokens.specs.declared.token.Token.{Token}
use Rattle.html_tokens.specs.declared.sink.TokenSink.{Ghosts}
use Rattle.html_tokens.specs.Item.{Item, InData, token_item, Fault}
use Rattle.html_tokens.specs.Notes.{Notes, noted, noting, noting_error, heard}
use Rattle.html_tokens.specs.Reading.{erred_by, line_number, line_breaks, reading_from}
use Rattle.html_tokens.specs.Sink.{◌>>=◌, SinkLaws}
use Rattle.html_tokenizer.specs.Calls.{at_end, Closes}
use Rattle.html_tokenizer.specs.declared.tokenizer.Tokenizer.{Tokenizer}
use Rattle.html_tokenizer.specs.Rest.{rows_of, standing}
use Rattle.html_tokenizer.specs.Steps.{owed_for, Owed, IsAt, more, IsNoTag, Falls, Tells, and_heard, reads, plays}
use Rattle.html_tokenizer.proofs.Steps.Keeping.{at, now-at, token-fails}
use Rattle.html_tokenizer.proofs.Steps.Lawful.{noting-lawful, erred-sound, erred-more}
use Rattle.html_tokenizer.proofs.Steps.Readings.{play-end}
use Rattle.html_tokenizer.proofs.Errors.Rises.{heard-more}
use Rattle.html_tokenizer.specs.Listeners.{listening}

module _ {K H : Type 0} (Sink : Ghosts K H) where
  -- where the input ends, a token is told, and then the end
  abbrev pub EndTells : State → Tokenizer K → Owed → Token → Type 0
  EndTells st old owed token = (b : ℕ) (s : Sink.State × Notes ℕ) → Sink.is_sound s.0 → at Sink st old b s
      [] ≡ (noting Sink.step Sink.is_quiet (s.0, more owed s.1) token (line_number b) >>= λ p. at_end Sink b p.0)

  -- The token was told, with other fields of the machine but the same sink and stream, or could not be told.
  pub closes-told : (owed : Owed) (old target new : Tokenizer K) (st : State) (token : Token)
      (result : Result (Unit {0}) ParseFault) → IsAt old st → target.sink ≡ old.sink → target.stream ≡ old.stream
      → Sink.is_sound (Sink.view old.sink)
      → Tells Sink owed token target new result → EndTells st old owed token → Closes Sink old new result
  closes-told owed old target new st token (Ok x) from same stream ok told law =
      let gives : Sink.step (Sink.view old.sink) token (line_number old.stream.breaks) ≡ Ok
      (Sink.view new.sink, reply.Continue) =
      ap (λ k. Sink.step (Sink.view k) token (line_number old.stream.breaks)) (sym same)
      ∙ told.gives (line_number old.stream.breaks) (ap (λ x. line_number x.breaks) (sym stream)) in
      record {
        owed = and_heard (Sink.is_quiet (Sink.view old.sink) token) owed;
        rises = rw (← same) told.rises;
        same = λ notes.
            now-at Sink old st old.stream.breaks (Sink.view old.sink, notes) [] from
            ∙ law old.stream.breaks (Sink.view old.sink, notes) ok
            ∙ ap (λ r. noted (heard (Sink.is_quiet (Sink.view old.sink) token) (more owed notes)) r
            >>= λ p. at_end Sink old.stream.breaks p.0) gives
            ∙ ap (λ n. at_end Sink old.stream.breaks (Sink.view new.sink, n))
            (heard-more (Sink.is_quiet (Sink.view old.sink) token) owed notes);
        stream = ap (λ k. k.stream) told.changed ∙ stream;
        sound = told.sound;
        stays = rw (← same) told.stays;
      }
  closes-told owed old target new st token (Err fault) from same stream ok fails law =
      let f : Falls Sink old.sink new.sink (Sink.step (Sink.view old.sink) token (line_number old.stream.breaks))
      fault = rw (← same, ← stream) fails in (
        f.0,
        λ notes. token-fails Sink old.sink new.sink _ (Sink.view old.sink) (more owed notes) token
            (line_number old.stream.breaks) fault _ f.1
            (now-at Sink old st old.stream.breaks (Sink.view old.sink, notes) [] from ∙ law old.stream.breaks
            (Sink.view old.sink, notes) ok),
      )

module _ {K H : Type 0} (Sink : Ghosts K H) (laws : SinkLaws Sink.is_sound Sink.step Sink.ended Sink.is_quiet) where
  -- what an item makes of the sink that is a token but no tag, breaks no line, and takes all that is left
  pub end-item : (fault : Option Fault) (old : Tokenizer K) (b : ℕ) (s : Sink.State × Notes ℕ) → Sink.is_sound s.0
      → (token : Token) (u : List ℕ) (n : ℕ) (i : Item) → IsNoTag token → i ≡ token_item fault token n
      (standing old InData) → line_breaks (take n u) ≡ 0 → drop n u ≡ []
      → plays Sink (rows_of old) i b s u ≡ (noting Sink.step Sink.is_quiet (s.0, more (owed_for fault) s.1) token
      (line_number b) >>= λ p. at_end Sink b p.0)
  unfolding reading_from
  end-item fault old b s h token u n i none is unbroken left =
      play-end (λ p. Sink.is_sound p.0) (listening Sink) (rows_of old)
      (noting-lawful Sink.is_sound Sink.step Sink.ended Sink.is_quiet laws) fault i token n
      (standing old InData) b s (erred-sound Sink.is_sound fault s h) u none is unbroken
      ∙ ap (λ x. noting Sink.step Sink.is_quiet (erred_by noting_error fault s) token (line_number b)
      >>= λ p. reads Sink (rows_of old) (standing old InData) b p.0 x) left
      ∙ ap (λ q. noting Sink.step Sink.is_quiet q token (line_number b) >>= λ p. at_end Sink b p.0) (erred-more fault s)
