-- Where a sink refuses every token, a reading is refused.
use Rattle.std.proofs.Common.{◌≡◌, ℕ, zero, suc, ◌+◌, ◌-◌, List, [], ◌∷◌, take, Option, Some, None, Result}
use Rattle.std.specs.Prelude.{IsErr}
use Rattle.std.specs.Result.{IsErrAnd}
use Rattle.std.proofs.lemmas.Result.{err_from_is_err_and}
use Rattle.markup.specs.declared.fault.ParseFault.{ParseFault}
use Rattle.markup.specs.declared.fault.ParseFault.TheVariants.{Memory, TokenInText, Ended, Shape, Failed}
use Rattle.html_tokens.specs.declared.replies.ProcessResult.{ProcessResult}
use Rattle.html_tokens.specs.declared.replies.TokenSinkResult.TheVariants.{Continue}
use Rattle.html_tokens.specs.declared.states.State.{State}
use Rattle.html_tokens.specs.declared.token.Token.{Token}
use Rattle.html_tokens.specs.declared.token.Token.TheVariants.{EOFToken}
use Rattle.html_tokens.specs.declared.sink.TokenSink.{Ghosts}
use Rattle.html_tokens.specs.Item.{Fault, Stand, fault_at_end}
use Rattle.html_tokens.specs.Items.{item}
use Rattle.html_tokens.specs.Notes.{Notes, NotedStep, noting, noting_error, heard}
use Rattle.html_tokens.specs.Reading.{erred_by, said, next_stand, line_breaks, reading_from}
use Rattle.html_tokens.specs.Sink.{◌>>=◌, Reply, Refusal}
use Rattle.html_tokens.specs.Table.{Row}
use Rattle.html_tokenizer.specs.declared.tokenizer.Tokenizer.{Tokenizer}
use Rattle.html_tokenizer.specs.Steps.{IsAt, Fails, FallsAll, Keeps}
use Rattle.html_tokenizer.proofs.Steps.Keeping.{at, now-at, fails-along, bind-err, noted-err, err-noted}
use Rattle.html_tokenizer.specs.Listeners.{Listener}

module _ {T : Type 0} (step : NotedStep T) where
  abbrev pub AllRefused : T → Type 0
  AllRefused s = (token : Token) (line : ℕ) → IsErr (step s token line)

module _ {T : Type 0} (to : Listener T) (rows : List Row) (errs : (fault : Fault) (s : T) → AllRefused to.step s
    → AllRefused to.step (to.erred fault s)) where
  pub erred-refused : (fault : Option Fault) (s : T) → AllRefused to.step s → AllRefused to.step (erred_by to.erred fault s)
  erred-refused None s h = h
  erred-refused (Some fault) s h = errs fault s h

  pub said-refused : (fault : Option Fault) (s : T) → AllRefused to.step s → (token : Option Token) (b : ℕ)
      (next : T × Reply → Result T (Refusal × ℕ))
      → ((q : T) → AllRefused to.step q → (reply : Reply) → IsErr (next (q, reply)))
      → IsErr (said to.step to.erred fault token b s >>= next)
  said-refused fault s h None b next k = k (erred_by to.erred fault s) (erred-refused fault s h) Continue
  said-refused fault s h (Some token) b next k = bind-err _ next (erred-refused fault s h token _)

  pub reading-refused : (s : T) → AllRefused to.step s → (n : ℕ) (st : Stand) (b : ℕ) (t : List ℕ)
      → IsErr (reading_from to.step to.erred to.cdata to.ends rows n st b s t)
  unfolding reading_from
  reading-refused s h n st b [] = bind-err _ _ (erred-refused (fault_at_end st.place) s h EOFToken _)
  reading-refused s h zero st b (c ∷ t) =
      let i = item rows (to.cdata s) st c t in
      let read = b + line_breaks (take i.len (c ∷ t)) in
      said-refused i.fault s h i.token read (λ p. reading_from to.step to.erred to.cdata to.ends rows (i.len - 1)
      (next_stand i.next p.1) read p.0 t) (λ q g reply. reading-refused q g (i.len - 1) (next_stand i.next reply) read t)
  reading-refused s h (suc n) st b (c ∷ t) = reading-refused s h n st b t

module _ {K H : Type 0} (Sink : Ghosts K H) where
  -- a sink of which something is noted refuses what the sink refuses
  pub noting-refused : (s : Sink.State) (notes : Notes ℕ)
      → ((token : Token) (line : ℕ) → IsErr (Sink.step s token line)) → (token : Token) (line : ℕ)
      → IsErr (noting Sink.step Sink.is_quiet (s, notes) token line)
  noting-refused s notes h token line = noted-err (heard (Sink.is_quiet s token) notes) (Sink.step s token line) (h token line)

  -- the same after a fault
  pub noting-errs : (fault : Fault) (s : Sink.State × Notes ℕ) → AllRefused (noting Sink.step Sink.is_quiet) s
      → AllRefused (noting Sink.step Sink.is_quiet) (noting_error fault s)
  noting-errs fault s h token line = noted-err _ (Sink.step s.0 token line)
      (err-noted (heard (Sink.is_quiet s.0 token) s.1) (Sink.step s.0 token line) (h token line))

  pub every-fails : (old new : K) (s : Sink.State) (fault : ParseFault) {A F : Type 0} (given : Result A F)
      → ((token : Token) (line : ℕ) → Fails Sink old new (Sink.step s token line) fault)
      → (((token : Token) (line : ℕ) → IsErr (Sink.step s token line)) → IsErr given) → Fails Sink old new given fault
  every-fails old new s Memory given h k = tt
  every-fails old new s TokenInText given h k = (k (λ token line. (h token line).0), (h EOFToken 0).1)
  every-fails old new s Ended given h k = (k (λ token line. (h token line).0), (h EOFToken 0).1)
  every-fails old new s Shape given h k = (k (λ token line. (h token line).0), (h EOFToken 0).1)
  every-fails old new s Failed given h k = h EOFToken 0

  -- An error could not be told, and what was to come is refused where every token is.
  pub keeps_failed : (old new : Tokenizer K) (c : ℕ) (st : State) (result : Result (ProcessResult H) ParseFault)
      (fault : ParseFault) → IsAt old st → IsErrAnd result (λ y. y ≡ fault)
      → FallsAll Sink old.sink new.sink fault
      → ((b : ℕ) (s : Sink.State × Notes ℕ)
      → ((token : Token) (line : ℕ) → IsErr (noting Sink.step Sink.is_quiet s token line)) → (t : List ℕ)
      → IsErr (at Sink st old b s (c ∷ t)))
      → Keeps Sink old new c result
  keeps_failed old new c st result fault from is fails law =
      let p = err_from_is_err_and result is in
      rw (p.1, p.2) (
        fails.0,
        λ notes t.
            fails-along Sink old.sink new.sink _ _ fault (now-at Sink old st old.stream.breaks (Sink.view old.sink, notes) (c ∷ t) from)
            (every-fails old.sink new.sink (Sink.view old.sink) fault
            (at Sink st old old.stream.breaks (Sink.view old.sink, notes) (c ∷ t)) fails.1
            (λ h. law old.stream.breaks (Sink.view old.sink, notes) (noting-refused (Sink.view old.sink) notes h) t)),
      )
