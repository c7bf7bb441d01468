-- A character that is not ">" ends no tag, so no pause follows it.
use Rattle.std.proofs.Common.{◌≡◌, ◌≢◌, ℕ, Bool, false, [], ◌∷◌, Result, Ok, Err, refl}
use Rattle.std.specs.Result.{IsErrAnd}
use Rattle.std.proofs.lemmas.Result.{err_from_is_err_and}
use Rattle.markup.specs.declared.fault.ParseFault.{ParseFault}
use Rattle.html_tokens.specs.declared.replies.ProcessResult.{ProcessResult}
use Rattle.html_tokens.specs.declared.replies.ProcessResult.TheVariants as flow
use Rattle.html_tokens.specs.declared.sink.TokenSink.{Ghosts}
use Rattle.html_tokenizer.specs.Calls.{Passed, Passes, answered, owed_for_text}
use Rattle.html_tokenizer_parts.specs.Input.{counted}
use Rattle.html_tokenizer.specs.Going.{KeepsOn, PassesOn}
use Rattle.html_tokenizer_parts.specs.declared.stream.Stream.{Stream}
use Rattle.html_tokenizer.specs.declared.tokenizer.Tokenizer.{Tokenizer}
use Rattle.html_tokenizer.specs.Steps.{Erred, Errs, Keeps, Owed, Rises, Took, nothing_owed}
use Rattle.html_tokenizer.proofs.Steps.Keeping.{stays-same}
use Rattle.html_tokenizer.proofs.Errors.Rises.{rises-same}
use Rattle.html_tokenizer.proofs.Feeds.Characters.{error-refused, not-passed, passed}

module _ {K H : Type 0} (Sink : Ghosts K H) where
  pub goes-on : (old new : Tokenizer K) (c : ℕ) (result : ProcessResult H) → c ≢ 62 → Took Sink old new c result
      → Took Sink old new c flow.Continue
  goes-on old new c flow.Continue other h = h
  goes-on old new c flow.Suspend other h = absurd h.paused
  goes-on old new c (flow.Script handle) other h = absurd (other h.paused.0)
  goes-on old new c (flow.EncodingIndicator label) other h = absurd (other h.paused.0)

  -- the character could not be taken
  pub stays-behind : (old new : Tokenizer K) (c : ℕ) (fault : ParseFault) (result : Result (Unit {0}) ParseFault)
      → Keeps Sink old new c (Err fault) → IsErrAnd result (λ y. y ≡ fault) → KeepsOn Sink old new c result
  stays-behind old new c fault result h is =
      let p = err_from_is_err_and result is in
      rw (p.1, p.2) h

  pub on-refused : {owed : Owed} (old erred mid : Tokenizer K) (c : ℕ) (fault : ParseFault)
      (result : Result (Unit {0}) ParseFault) → Erred Sink owed old erred → KeepsOn Sink erred mid c (Err fault)
      → IsErrAnd result (λ y. y ≡ fault) → PassesOn Sink old mid c result
  on-refused old erred mid c fault result e h is =
      let p = err_from_is_err_and result is in
      let fails : Passes Sink old mid c (Err fault) = not-passed Sink old erred mid c fault (Err fault) e h refl in
      rw (p.1, p.2) fails

  -- its error could not be told
  pub on-untold : (old mid : Tokenizer K) (c : ℕ) (fault : ParseFault) (result : Result (Unit {0}) ParseFault)
      → Errs Sink nothing_owed old mid (Err fault) → IsErrAnd result (λ y. y ≡ fault) → PassesOn Sink old mid c result
  on-untold old mid c fault result e is =
      let p = err_from_is_err_and result is in
      let fails : Passes Sink old mid c (Err fault) = error-refused Sink old mid c fault (Err fault) e refl in
      rw (p.1, p.2) fails

  -- no pause followed
  on-passed : (old new : Tokenizer K) (c : ℕ) (result : Result (Unit {0}) ParseFault)
      → PassesOn Sink old new c result → Passes Sink old new c (answered flow.Continue result)
  on-passed old new c (Ok x) h = h
  on-passed old new c (Err fault) h = h

  pub on-answered : (old new : Tokenizer K) (c : ℕ) (answer : ProcessResult H)
      (result : Result (Unit {0}) ParseFault) → answer ≡ flow.Continue → PassesOn Sink old new c result
      → Passes Sink old new c (answered answer result)
  on-answered old new c answer result e h = rw e (on-passed old new c result h)

  -- the character could not be taken
  pub close-failed : (old new : Tokenizer K) (c : ℕ) (fault : ParseFault) (answer : ProcessResult H)
      (result : Result (Unit {0}) ParseFault) → Passes Sink old new c (Err fault) → IsErrAnd result (λ y. y ≡ fault)
      → Passes Sink old new c (answered answer result)
  close-failed old new c fault answer result h is =
      let p = err_from_is_err_and result is in
      rw (p.1, p.2) h

  -- CHARACTERS OF DATA

  -- a character is no error on its own where such are not told
  plain-unforbidden : (exact : Bool) (c : ℕ) (k : K) → exact ≡ false → Rises Sink.errors (owed_for_text exact (c ∷ [])) k k
  plain-unforbidden exact c k e = rw e (rises-same Sink.errors k k refl)

  unerred : (old : Tokenizer K) (c : ℕ) → old.stream.exact_errors ≡ false
      → Erred Sink (owed_for_text old.stream.exact_errors (c ∷ [])) old old
  unerred old c plain = record {
    sink = refl;
    changed = refl;
    stays = stays-same Sink old.sink old.sink refl;
    rises = plain-unforbidden old.stream.exact_errors c old.sink plain;
  }

  pub data-passes : (old mid : Tokenizer K) (stream : Stream) (c : ℕ) (result : ProcessResult H) → c ≢ 62
      → old.stream.exact_errors ≡ false → Took Sink old mid c result → stream ≡ record mid.stream
      { breaks = counted mid.stream.breaks c } → Passed Sink old (record mid { stream = stream }) c flow.Continue
  data-passes old mid stream c result other plain h is = passed Sink old old mid stream c flow.Continue
      (unerred old c plain) (goes-on old mid c result other h) is

  pub data-refused : (old mid : Tokenizer K) (c : ℕ) (fault : ParseFault) (result : Result (Unit {0}) ParseFault)
      → old.stream.exact_errors ≡ false → Keeps Sink old mid c (Err fault) → IsErrAnd result (λ y. y ≡ fault)
      → PassesOn Sink old mid c result
  data-refused old mid c fault result plain h is = on-refused old old mid c fault result (unerred old c plain) h is
