-- How an item that is a token but no tag ends, and how the machine moves on within one.
use Rattle.std.proofs.Common.{◌≡◌, ◌∙◌, ℕ, ◌+◌, true, false, nat_eq, List, ◌∷◌, take, drop, Result, sym, ap, Option, Some}
use Rattle.std.specs.Prelude.{is_some}
use Rattle.std.specs.Result.{IsErrAnd}
use Rattle.markup.specs.declared.fault.ParseFault.{ParseFault}
use Rattle.html_tokens.specs.declared.replies.ProcessResult.{ProcessResult}
use Rattle.html_tokens.specs.declared.replies.ProcessResult.TheVariants as flow
use Rattle.html_tokens.specs.declared.states.State.{State}
use Rattle.html_tokens.specs.declared.states.State.TheVariants as state
use Rattle.html_tokens.specs.declared.token.Token.{Token}
use Rattle.html_tokens.specs.declared.sink.TokenSink.{Ghosts}
use Rattle.html_tokens.specs.Item.{Item, InData, longer, token_item, Fault, Slight}
use Rattle.html_tokens.specs.Notes.{Notes, noting}
use Rattle.html_tokens.specs.Reading.{line_number, line_break, line_breaks}
use Rattle.html_tokens.specs.Sink.{◌>>=◌, SinkLaws}
use Rattle.html_tokenizer.specs.declared.tokenizer.Tokenizer.{Tokenizer}
use Rattle.html_tokenizer.specs.Rest.{rows_of, standing}
use Rattle.html_tokenizer.specs.Steps.{owed_for, Owed, IsAt, more, IsNoTag, Falls, Emitted, Took, Keeps, reads, plays}
use Rattle.html_tokenizer.proofs.Steps.Lawful.{noting-lawful, erred-sound, erred-more, slight-absorbed}
use Rattle.html_tokenizer.proofs.Steps.Readings.{play-is, play-end, sum-zero, play-absorbs}
use Rattle.html_tokenizer.proofs.Steps.Keeping.{Says, at, took_emitted, failed, no-break}
use Rattle.html_tokenizer.specs.Listeners.{listening}

module _ {K H : Type 0} (Sink : Ghosts K H) (laws : SinkLaws Sink.is_sound Sink.step Sink.ended Sink.is_quiet) where
  -- A token is told next, which ">" ends, and then the machine is this one, in data.
  abbrev pub EndSays : State → Tokenizer K → Tokenizer K → Owed → Token → Type 0
  EndSays st old source owed token = Says Sink st old 62 owed token (λ b s t. at Sink state.Data source (b + line_break (nat_eq 62 10)) s t)

  -- what such an item makes of the sink
  pub end-says : (fault : Option Fault) (old : Tokenizer K) (b : ℕ) (s : Sink.State × Notes ℕ) → Sink.is_sound s.0
      → (token : Token) (t u : List ℕ) (n : ℕ) (i : Item) → IsNoTag token → i ≡ token_item fault token n
      (standing old InData) → line_breaks (take n u) ≡ 0 → drop n u ≡ t
      → plays Sink (rows_of old) i b s u ≡ (noting Sink.step Sink.is_quiet (s.0, more (owed_for fault) s.1) token
      (line_number b) >>= λ p. reads Sink (rows_of old) (standing old InData) (b + 0) p.0 t)
  end-says fault old b s h token t u n i none is unbroken left =
      play-end (λ p. Sink.is_sound p.0) (listening Sink) (rows_of old)
      (noting-lawful Sink.is_sound Sink.step Sink.ended Sink.is_quiet laws) fault i token n
      (standing old InData) b s (erred-sound Sink.is_sound fault s h) u none is unbroken
      ∙ ap (λ q. noting Sink.step Sink.is_quiet q token (line_number b) >>= λ p. reads Sink (rows_of old)
      (standing old InData) b p.0 (drop n u)) (erred-more fault s)
      ∙ ap (λ x. noting Sink.step Sink.is_quiet (s.0, more (owed_for fault) s.1) token (line_number b)
      >>= λ p. reads Sink (rows_of old) (standing old InData) b p.0 x) left
      ∙ ap (λ x. noting Sink.step Sink.is_quiet (s.0, more (owed_for fault) s.1) token (line_number b)
      >>= λ p. reads Sink (rows_of old) (standing old InData) x p.0 t) (sym (sum-zero b))

  -- The token was told, or could not be told.
  pub emitted-took : {owed : Owed} (old source new : Tokenizer K) (c : ℕ) (st : State) (token : Token) → c ≡ 62
      → IsAt old st → Sink.is_sound (Sink.view old.sink) → source.sink ≡ old.sink → source.stream ≡ old.stream → IsAt source state.Data
      → Emitted Sink owed token source new → EndSays st old source owed token → Took Sink old new c flow.Continue
  emitted-took old source new c st token e from ok same stream to told says =
      rw e (took_emitted Sink old source new 62 st state.Data token from ok same stream to told says)

  pub emitted-failed : (owed : Owed) (old source new : Tokenizer K) (c : ℕ) (st : State) (token : Token)
      (result : Result (ProcessResult H) ParseFault) (fault : ParseFault) → c ≡ 62 → IsAt old st
      → Sink.is_sound (Sink.view old.sink) → IsErrAnd result (λ y. y ≡ fault)
      → Falls Sink old.sink new.sink (Sink.step (Sink.view old.sink) token (line_number old.stream.breaks)) fault
      → EndSays st old source owed token → Keeps Sink old new c result
  emitted-failed owed old source new c st token result fault e from ok is fails says =
      rw e (failed Sink owed old new 62 st token result fault _ from ok is fails says)

  -- an item, whether no line break is counted or none
  pub same-text : (old : Tokenizer K) (i : Item) (b : ℕ) (s : Sink.State × Notes ℕ) (u : List ℕ)
      → plays Sink (rows_of old) i b s u ≡ plays Sink (rows_of old) i (b + 0) s u
  same-text old i b s u = ap (λ x. plays Sink (rows_of old) i x s u) (sym (sum-zero b))

  -- an item after a character that breaks no line
  pub behind-one : (old : Tokenizer K) (d : ℕ) → nat_eq d 10 ≡ false → (i j : Item) (b : ℕ)
      (s : Sink.State × Notes ℕ) (u : List ℕ) → i ≡ longer j → plays Sink (rows_of old) i b s (d ∷ u) ≡ plays Sink (rows_of old) j b s u
  behind-one old d e i j b s u is = play-is (listening Sink) (rows_of old) i j b s d u is
      ∙ ap (λ x. plays Sink (rows_of old) j x s u) (no-break b d e)

  -- an item after one character more
  pub behind-any : (old : Tokenizer K) (i j : Item) (b : ℕ) (s : Sink.State × Notes ℕ) (c : ℕ) (t : List ℕ)
      → i ≡ longer j → plays Sink (rows_of old) i b s (c ∷ t) ≡ plays Sink (rows_of old) j (b + line_break (nat_eq c 10)) s t
  behind-any old i j b s c t is = play-is (listening Sink) (rows_of old) i j b s c t is

  -- what is slight before an item with a fault changes nothing
  pub item-absorbs : (old : Tokenizer K) (i : Item) (b : ℕ) (s : Sink.State × Notes ℕ) (u : List ℕ)
      → is_some i.fault ≡ true → plays Sink (rows_of old) i b s u ≡ plays Sink (rows_of old) i b (s.0, more (owed_for (Some Slight)) s.1) u
  item-absorbs old i b s u h = play-absorbs (listening Sink) (rows_of old) slight-absorbed i b s u h
      ∙ ap (λ q. plays Sink (rows_of old) i b q u) (erred-more (Some Slight) s)
