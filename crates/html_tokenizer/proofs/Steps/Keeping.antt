-- How one state's function keeps what is to come.
use Rattle.std.proofs.Common.{◌≡◌, ◌∙◌, ℕ, ◌+◌, Bool, true, false, nat_eq, List, ◌∷◌, ◌++◌, Result, Ok, Err, refl, sym, ap, arith}
use Rattle.std.specs.Prelude.{IsErr, Some}
use Rattle.std.specs.Result.{IsErrAnd}
use Rattle.std.proofs.lemmas.Result.{err_from_is_err_and}
use Rattle.markup.specs.declared.fault.ParseFault.{ParseFault}
use Rattle.markup.specs.declared.fault.ParseFault.TheVariants.{Memory, TokenInText, Ended, Shape, Failed}
use Rattle.html_tokens.specs.declared.replies.ProcessResult.{ProcessResult}
use Rattle.html_tokens.specs.declared.replies.ProcessResult.TheVariants as flow
use Rattle.html_tokens.specs.declared.states.State.{State}
use Rattle.html_tokens.specs.declared.token.Token.{Token}
use Rattle.html_tokens.specs.declared.token.Token.TheVariants.{TagToken}
use Rattle.html_tokens.specs.Item.{Slight, grave_if, slight_if, InData}
use Rattle.html_tokens.specs.Notes.{Notes, heard, noted, noting, noting_error}
use Rattle.html_tokens.specs.Reading.{◌>>=◌, erred_by, line_break, line_number, next_stand}
use Rattle.html_tokens.specs.Sink.{Reply, Refusal}
use Rattle.html_tokens.specs.Tags.{after_tag, is_faulty_tag}
use Rattle.html_tokens.specs.declared.states.RawKind.TheVariants as raw
use Rattle.html_tokens.specs.declared.states.ScriptEscapeKind.TheVariants as script
use Rattle.html_tokens.specs.declared.states.DoctypeIdKind.TheVariants as id
use Rattle.html_tokens.specs.declared.states.AttrValueKind.TheVariants as value
use Rattle.html_tokens.specs.declared.states.State.TheVariants as state
use Rattle.html_tokens.specs.declared.sink.TokenSink.{Ghosts}
use Rattle.html_tokenizer_parts.specs.CharRefs.{fits_in}
use Rattle.html_tokenizer_parts.specs.declared.stream.Stream.{Stream}
use Rattle.html_tokenizer.specs.declared.tokenizer.Tokenizer.{Tokenizer}
use Rattle.html_tokenizer.specs.Rest.{rows_of, standing, fault_after, pending, held_at}
use Rattle.html_tokenizer.proofs.Steps.Lawful.{erred-more}
use Rattle.html_tokenizer.proofs.Steps.Readings.{sum-zero}
use Rattle.html_tokenizer.specs.Steps.{Owed, nothing_owed, owed_for, and_heard, together, owed_by, IsAt, paused_by, more}
use Rattle.html_tokenizer.specs.Steps.{noted_by, Rises, now, Stays, Fell, FailsAmong, Fails, Falls, IsOfText, Emitted, Erred}
use Rattle.html_tokenizer.specs.Steps.{Took, Keeps, EndsTag, reads}
use Rattle.html_tokenizer.proofs.Errors.Rises.{more-more, heard-more, rises-slight, rises-then, rises-less}
use Rattle.html_tokenizer.specs.Listeners.{Listener, listening}

-- a character that is no line break ends no line
pub no-break : (b c : ℕ) → nat_eq c 10 ≡ false → b + line_break (nat_eq c 10) ≡ b
no-break b c h = rw h (sum-zero b)

pub bind-err : {A B F : Type 0} (r : Result A F) (f : A → Result B F) → IsErr r → IsErr (r >>= f)
bind-err (Ok x) f h = cc
bind-err (Err e) f h = refl

pub noted-err : {S : Type 0} (notes : Notes ℕ) (r : Result (S × Reply) Refusal) → IsErr r → IsErr (noted notes r)
noted-err notes (Ok x) h = cc
noted-err notes (Err e) h = refl

pub err-noted : {S : Type 0} (notes : Notes ℕ) (r : Result (S × Reply) Refusal) → IsErr (noted notes r) → IsErr r
err-noted notes (Ok p) h = cc
err-noted notes (Err e) h = refl

-- where no reference is held, none is held in a state that has none
pub fits-at : {K : Type 0} (k : Tokenizer K) (st : State) → IsAt k st → fits_in (rows_of k) k.char_ref k.state ≡ true
fits-at k st h = ap (λ r. fits_in (rows_of k) r k.state) h.fresh

-- what is slight is not quiet
quiet-not_odd : (odd : Bool) → (owed_for (slight_if odd)).is_quiet ≡ true → odd ≡ false
quiet-not_odd true h = absurd cc
quiet-not_odd false h = refl

module _ {K H : Type 0} (Sink : Ghosts K H) where
  -- nothing was told
  pub stays-same : (old new : K) → new ≡ old → Stays Sink old new
  stays-same old new e = record { failed = λ h. ap Sink.has_failed (sym e) ∙ h; loans = ap Sink.references e }

  pub stays-then : (old mid new : K) → Stays Sink old mid → Stays Sink mid new → Stays Sink old new
  stays-then old mid new h k = record { failed = λ x. h.failed (k.failed x); loans = k.loans ∙ h.loans }

  pub fell-behind : (old mid new : K) → Stays Sink old mid → Fell Sink mid new → Fell Sink old new
  fell-behind old mid new h k = record { sound = k.sound; loans = k.loans ∙ h.loans }

  -- a call failed that left the sink as it was
  pub fell-same : (old new : K) → new ≡ old → Sink.is_sound (Sink.view old) → Fell Sink old new
  fell-same old new e ok = record { sound = λ h. rw e ok; loans = ap Sink.references e }

  abbrev pub at : State → Tokenizer K → ℕ → Sink.State × Notes ℕ → List ℕ → Result (Sink.State × Notes ℕ) (Refusal × ℕ)
  at st k b s t = held_at (listening Sink) st k b s t

  pub now-at : (k : Tokenizer K) (st : State) (b : ℕ) (s : Sink.State × Notes ℕ) (t : List ℕ) → IsAt k st → now Sink k b s t ≡ at st k b s t
  now-at k st b s t h = ap (λ r. held_at (listening Sink) k.state k b (erred_by noting_error (fault_after r) s)
      (pending r ++ t)) h.fresh ∙ ap (λ x. held_at (listening Sink) x k b s t) h.state

  -- The character is taken, which may be odd, and the machine stands in st'; it is quiet only where it is not odd.
  pub noted_odd : (odd : Bool) (old new : Tokenizer K) (c : ℕ) (st st' : State) → IsAt old st → IsAt new st'
      → new.stream ≡ old.stream → new.sink ≡ old.sink → Sink.is_sound (Sink.view old.sink)
      → ((b : ℕ) (s : Sink.State × Notes ℕ) (t : List ℕ) → at st old b s (c ∷ t) ≡ at st' new
      (b + line_break (nat_eq c 10)) (erred_by noting_error (slight_if odd) s) t)
      → (took : Took Sink old new c flow.Continue) × (took.owed.is_quiet ≡ true → odd ≡ false)
  noted_odd odd old new c st st' from to stream same ok law = (
    record {
      owed = owed_for (slight_if odd);
      rises = rises-slight Sink.errors odd old.sink new.sink same;
      same = λ notes t.
          now-at old st old.stream.breaks (Sink.view old.sink, notes) (c ∷ t) from
          ∙ law old.stream.breaks (Sink.view old.sink, notes) t
          ∙ ap (λ s. at st' new (old.stream.breaks + line_break (nat_eq c 10)) s t) (erred-more (slight_if odd) (Sink.view old.sink, notes))
          ∙ sym (now-at new st' (old.stream.breaks + line_break (nat_eq c 10))
          (Sink.view old.sink, more (owed_for (slight_if odd)) notes) t to)
          ∙ ap (λ k. now Sink new (old.stream.breaks + line_break (nat_eq c 10))
          (Sink.view k, more (owed_for (slight_if odd)) notes) t) (sym same);
      stream = stream;
      sound = rw same ok;
      fits = fits-at new st' to;
      stays = stays-same old.sink new.sink same;
      paused = tt;
    },
    quiet-not_odd odd,
  )

  -- the same, where nothing is said of that
  pub took_odd : (odd : Bool) (old new : Tokenizer K) (c : ℕ) (st st' : State) → IsAt old st → IsAt new st'
      → new.stream ≡ old.stream → new.sink ≡ old.sink → Sink.is_sound (Sink.view old.sink)
      → ((b : ℕ) (s : Sink.State × Notes ℕ) (t : List ℕ) → at st old b s (c ∷ t) ≡ at st' new
      (b + line_break (nat_eq c 10)) (erred_by noting_error (slight_if odd) s) t)
      → Took Sink old new c flow.Continue
  took_odd odd old new c st st' from to stream same ok law = (noted_odd odd old new c st st' from to stream same ok law).0

  -- The character is taken, and the machine stands in st'.
  pub took : (old new : Tokenizer K) (c : ℕ) (st st' : State) → IsAt old st → IsAt new st' → new.stream ≡ old.stream
      → new.sink ≡ old.sink → Sink.is_sound (Sink.view old.sink)
      → ((b : ℕ) (s : Sink.State × Notes ℕ) (t : List ℕ) → at st old b s (c ∷ t) ≡ at st' new (b + line_break (nat_eq c 10)) s t)
      → Took Sink old new c flow.Continue
  took old new c st st' from to stream same ok law = took_odd false old new c st st' from to stream same ok law

  -- What a failed call was to give comes first in this.
  pub fails-first : (among : Token → Type 0) (old new : K) {A B F G : Type 0} (r : Result A F) (given : Result B G)
      (fault : ParseFault) → (IsErr r → IsErr given) → FailsAmong Sink among old new r fault → FailsAmong Sink among old new given fault
  fails-first among old new r given Memory h f = tt
  fails-first among old new r given TokenInText h f = (h f.0, f.1)
  fails-first among old new r given Ended h f = (h f.0, f.1)
  fails-first among old new r given Shape h f = (h f.0, f.1)
  fails-first among old new r given Failed h f = f

-- The sink and what is known of the input but the table do not matter to what is held.
module _ {K T : Type 0} (to : Listener T) where
  pub held-other : (st : State) (k : Tokenizer K) (sink : K) (stream : Stream) (b : ℕ) (s : T) (t : List ℕ)
      → stream.table ≡ k.stream.table → held_at to st (record k { sink = sink; stream = stream }) b s t ≡ held_at to st k b s t
  unfolding held_at
  held-other state.Data k sink stream b s t e = rw e refl
  held-other state.Plaintext k sink stream b s t e = rw e refl
  held-other state.TagOpen k sink stream b s t e = rw e refl
  held-other state.EndTagOpen k sink stream b s t e = rw e refl
  held-other state.TagName k sink stream b s t e = rw e refl
  held-other (state.RawData kind) k sink stream b s t e = rw e refl
  held-other (state.RawLessThanSign (raw.ScriptDataEscaped script.DoubleEscaped)) k sink stream b s t e = rw e refl
  held-other (state.RawLessThanSign (raw.ScriptDataEscaped script.Escaped)) k sink stream b s t e = rw e refl
  held-other (state.RawLessThanSign raw.Rcdata) k sink stream b s t e = rw e refl
  held-other (state.RawLessThanSign raw.Rawtext) k sink stream b s t e = rw e refl
  held-other (state.RawLessThanSign raw.ScriptData) k sink stream b s t e = rw e refl
  held-other (state.RawEndTagOpen kind) k sink stream b s t e = rw e refl
  held-other (state.RawEndTagName kind) k sink stream b s t e = rw e refl
  held-other (state.ScriptDataEscapeStart script.Escaped) k sink stream b s t e = rw e refl
  held-other (state.ScriptDataEscapeStart script.DoubleEscaped) k sink stream b s t e = rw e refl
  held-other state.ScriptDataEscapeStartDash k sink stream b s t e = rw e refl
  held-other (state.ScriptDataEscapedDash kind) k sink stream b s t e = rw e refl
  held-other (state.ScriptDataEscapedDashDash kind) k sink stream b s t e = rw e refl
  held-other state.ScriptDataDoubleEscapeEnd k sink stream b s t e = rw e refl
  held-other state.BeforeAttributeName k sink stream b s t e = rw e refl
  held-other state.AttributeName k sink stream b s t e = rw e refl
  held-other state.AfterAttributeName k sink stream b s t e = rw e refl
  held-other state.BeforeAttributeValue k sink stream b s t e = rw e refl
  held-other (state.AttributeValue value.Unquoted) k sink stream b s t e = rw e refl
  held-other (state.AttributeValue value.SingleQuoted) k sink stream b s t e = rw e refl
  held-other (state.AttributeValue value.DoubleQuoted) k sink stream b s t e = rw e refl
  held-other state.AfterAttributeValueQuoted k sink stream b s t e = rw e refl
  held-other state.SelfClosingStartTag k sink stream b s t e = rw e refl
  held-other state.BogusComment k sink stream b s t e = rw e refl
  held-other state.MarkupDeclarationOpen k sink stream b s t e = rw e refl
  held-other state.CommentStart k sink stream b s t e = rw e refl
  held-other state.CommentStartDash k sink stream b s t e = rw e refl
  held-other state.Comment k sink stream b s t e = rw e refl
  held-other state.CommentLessThanSign k sink stream b s t e = rw e refl
  held-other state.CommentLessThanSignBang k sink stream b s t e = rw e refl
  held-other state.CommentLessThanSignBangDash k sink stream b s t e = rw e refl
  held-other state.CommentLessThanSignBangDashDash k sink stream b s t e = rw e refl
  held-other state.CommentEndDash k sink stream b s t e = rw e refl
  held-other state.CommentEnd k sink stream b s t e = rw e refl
  held-other state.CommentEndBang k sink stream b s t e = rw e refl
  held-other state.Doctype k sink stream b s t e = rw e refl
  held-other state.BeforeDoctypeName k sink stream b s t e = rw e refl
  held-other state.DoctypeName k sink stream b s t e = rw e refl
  held-other state.AfterDoctypeName k sink stream b s t e = rw e refl
  held-other (state.AfterDoctypeKeyword id.Public) k sink stream b s t e = rw e refl
  held-other (state.AfterDoctypeKeyword id.System) k sink stream b s t e = rw e refl
  held-other (state.BeforeDoctypeIdentifier id.Public) k sink stream b s t e = rw e refl
  held-other (state.BeforeDoctypeIdentifier id.System) k sink stream b s t e = rw e refl
  held-other (state.DoctypeIdentifierDoubleQuoted id.Public) k sink stream b s t e = rw e refl
  held-other (state.DoctypeIdentifierDoubleQuoted id.System) k sink stream b s t e = rw e refl
  held-other (state.DoctypeIdentifierSingleQuoted id.Public) k sink stream b s t e = rw e refl
  held-other (state.DoctypeIdentifierSingleQuoted id.System) k sink stream b s t e = rw e refl
  held-other (state.AfterDoctypeIdentifier id.Public) k sink stream b s t e = rw e refl
  held-other (state.AfterDoctypeIdentifier id.System) k sink stream b s t e = rw e refl
  held-other state.BetweenDoctypePublicAndSystemIdentifiers k sink stream b s t e = rw e refl
  held-other state.BogusDoctype k sink stream b s t e = rw e refl
  held-other state.CdataSection k sink stream b s t e = rw e refl
  held-other state.CdataSectionBracket k sink stream b s t e = rw e refl
  held-other state.CdataSectionEnd k sink stream b s t e = rw e refl

module _ {K H : Type 0} (Sink : Ghosts K H) where
  -- What is to come where a token is told next, after its error if it is faulty, and what follows then.
  abbrev pub Says : State → Tokenizer K → ℕ → Owed → Token
      → (ℕ → Sink.State × Notes ℕ → List ℕ → Result (Sink.State × Notes ℕ) (Refusal × ℕ)) → Type 0
  Says st old c owed token next = (b : ℕ) (s : Sink.State × Notes ℕ) → Sink.is_sound s.0 → (t : List ℕ)
      → at Sink st old b s (c ∷ t) ≡ (noting Sink.step Sink.is_quiet (s.0, more owed s.1) token (line_number b) >>= λ p. next b p.0 t)

  pub fails-along : (old new : K) {A F : Type 0} (a b : Result A F) (fault : ParseFault) → a ≡ b
      → Fails Sink old new b fault → Fails Sink old new a fault
  fails-along old new a b fault e f = rw e f

  -- What was to be told was refused, and so is all that was to come.
  pub token_fails : (among : Token → Type 0) (old new : K) {A : Type 0} (given : Result A (Refusal × ℕ))
      (s : Sink.State) (notes : Notes ℕ) (token : Token) (line : ℕ) (fault : ParseFault)
      (next : (Sink.State × Notes ℕ) × Reply → Result A (Refusal × ℕ))
      → FailsAmong Sink among old new (Sink.step s token line) fault
      → given ≡ (noting Sink.step Sink.is_quiet (s, notes) token line >>= next) → FailsAmong Sink among old new given fault
  token_fails among old new given s notes token line fault next fails e =
      rw e (fails-first Sink among old new (Sink.step s token line) _ fault
      (λ h. bind-err (noting Sink.step Sink.is_quiet (s, notes) token line) next
      (noted-err (heard (Sink.is_quiet s token) notes) (Sink.step s token line) h)) fails)

  -- the same of a token of the text
  pub token-fails : (old new : K) {A : Type 0} (given : Result A (Refusal × ℕ)) (s : Sink.State) (notes : Notes ℕ)
      (token : Token) (line : ℕ) (fault : ParseFault) (next : (Sink.State × Notes ℕ) × Reply → Result A (Refusal × ℕ))
      → Fails Sink old new (Sink.step s token line) fault
      → given ≡ (noting Sink.step Sink.is_quiet (s, notes) token line >>= next) → Fails Sink old new given fault
  token-fails old new given s notes token line fault next fails e = token_fails IsOfText old new given s notes token line fault next fails e

  -- The call that tells a token failed, and it was to be told next.
  pub failed : (owed : Owed) (old new : Tokenizer K) (c : ℕ) (st : State) (token : Token)
      (result : Result (ProcessResult H) ParseFault) (fault : ParseFault) (next : ℕ → Sink.State × Notes ℕ → List ℕ
      → Result (Sink.State × Notes ℕ) (Refusal × ℕ))
      → IsAt old st → Sink.is_sound (Sink.view old.sink) → IsErrAnd result (λ y. y ≡ fault)
      → Falls Sink old.sink new.sink (Sink.step (Sink.view old.sink) token (line_number old.stream.breaks)) fault
      → Says st old c owed token next
      → Keeps Sink old new c result
  failed owed old new c st token result fault next from ok is fails law =
      let p = err_from_is_err_and result is in
      rw (p.1, p.2) (
        fails.0,
        λ notes t.
            token-fails old.sink new.sink _ (Sink.view old.sink) (more owed notes) token (line_number old.stream.breaks) fault _ fails.1
            (now-at Sink old st old.stream.breaks (Sink.view old.sink, notes) (c ∷ t) from ∙ law old.stream.breaks
            (Sink.view old.sink, notes) ok t),
      )

  -- what is to come where a token was told after what is owed
  pub told-next : {owed : Owed} (owing : Owed) (old mid : Tokenizer K) (token : Token) (notes : Notes ℕ)
      (next : Sink.State × Notes ℕ → Result (Sink.State × Notes ℕ) (Refusal × ℕ)) → Emitted Sink owed token old mid
      → (noting Sink.step Sink.is_quiet (Sink.view old.sink, more owing notes) token (line_number old.stream.breaks)
      >>= λ p. next p.0) ≡ next (Sink.view mid.sink, more (and_heard (Sink.is_quiet (Sink.view old.sink) token) owing) notes)
  told-next owing old mid token notes next told =
      ap (λ r. noted (heard (Sink.is_quiet (Sink.view old.sink) token) (more owing notes)) r >>= λ p. next p.0)
      (told.gives (line_number old.stream.breaks) refl)
      ∙ ap (λ n. next (Sink.view mid.sink, n)) (heard-more (Sink.is_quiet (Sink.view old.sink) token) owing notes)

  -- The machine with another sink is where it was.
  pub now-target : (k : Tokenizer K) (sink : K) (st : State) (b : ℕ) (s : Sink.State × Notes ℕ) (t : List ℕ)
      → IsAt k st → now Sink (record k { sink = sink }) b s t ≡ at Sink st k b s t
  now-target k sink st b s t h = held-other (listening Sink) k.state k sink k.stream b
      (erred_by noting_error (fault_after k.char_ref) s) (pending k.char_ref ++ t) refl ∙ now-at Sink k st b s t h

  -- A token was told, and the machine stands in st'. The target is the machine as it was, with the fields that changed.
  pub took_told : {owed : Owed} (old mid new target : Tokenizer K) (c : ℕ) (st st' : State) (token : Token)
      → IsAt old st → Sink.is_sound (Sink.view old.sink) → Emitted Sink owed token old mid
      → new ≡ record target { sink = mid.sink } → IsAt target st' → target.stream ≡ old.stream
      → Says st old c owed token (λ b s t. at Sink st' target (b + line_break (nat_eq c 10)) s t)
      → Took Sink old new c flow.Continue
  took_told {owed} old mid new target c st st' token from ok told is to stream law = rw is (record {
    owed = and_heard (Sink.is_quiet (Sink.view old.sink) token) owed;
    rises = told.rises;
    same = λ notes t.
        now-at Sink old st old.stream.breaks (Sink.view old.sink, notes) (c ∷ t) from
        ∙ law old.stream.breaks (Sink.view old.sink, notes) ok t
        ∙ told-next owed old mid token notes (λ s. at Sink st' target (old.stream.breaks + line_break (nat_eq c 10)) s t) told
        ∙ sym (now-target target mid.sink st' (old.stream.breaks + line_break (nat_eq c 10))
        (Sink.view mid.sink, more (and_heard (Sink.is_quiet (Sink.view old.sink) token) owed) notes) t to);
    stream = stream;
    sound = told.sound;
    fits = fits-at target st' to;
    stays = told.stays;
    paused = tt;
  })

  -- A token was told by the machine with other fields, where it stays.
  pub took_emitted : {owed : Owed} (old source new : Tokenizer K) (c : ℕ) (st st' : State) (token : Token)
      → IsAt old st → Sink.is_sound (Sink.view old.sink) → source.sink ≡ old.sink → source.stream ≡ old.stream → IsAt source st'
      → Emitted Sink owed token source new
      → Says st old c owed token (λ b s t. at Sink st' source (b + line_break (nat_eq c 10)) s t)
      → Took Sink old new c flow.Continue
  took_emitted {owed} old source new c st st' token from ok same stream to told law =
      let told' : Emitted Sink owed token (record source { sink = old.sink; stream = old.stream }) new = rw (← same, ← stream) told in
      let source' : Tokenizer K = record source { sink = old.sink; stream = old.stream } in
      let is : source' ≡ source = rw (← same, ← stream) refl in
      record {
        owed = and_heard (Sink.is_quiet (Sink.view old.sink) token) owed;
        rises = told'.rises;
        same = λ notes t.
            now-at Sink old st old.stream.breaks (Sink.view old.sink, notes) (c ∷ t) from
            ∙ law old.stream.breaks (Sink.view old.sink, notes) ok t
            ∙ told-next owed source' new token notes (λ s. at Sink st' source (old.stream.breaks + line_break (nat_eq c 10)) s t) told'
            ∙ sym (now-target source new.sink st' (old.stream.breaks + line_break (nat_eq c 10))
            (Sink.view new.sink, more (and_heard (Sink.is_quiet (Sink.view old.sink) token) owed) notes) t to)
            ∙ sym (ap (λ k. now Sink k (old.stream.breaks + line_break (nat_eq c 10))
            (Sink.view k.sink, more (and_heard (Sink.is_quiet (Sink.view old.sink) token) owed) notes) t) told.changed);
        stream = ap (λ k. k.stream) told.changed ∙ stream;
        sound = told.sound;
        fits = ap (λ k. fits_in (rows_of k) k.char_ref k.state) told.changed ∙ fits-at source st' to;
        stays = told'.stays;
        paused = tt;
      }

  -- A sink that has failed, if the one before it had, fails as that does.
  pub fails_before : (among : Token → Type 0) (before after new : K) {A F : Type 0} (given : Result A F)
      (fault : ParseFault) → Stays Sink before after → FailsAmong Sink among after new given fault
      → FailsAmong Sink among before new given fault
  fails_before among before after new given Memory stays f = f
  fails_before among before after new given TokenInText stays f = f
  fails_before among before after new given Ended stays f = f
  fails_before among before after new given Shape stays f = f
  fails_before among before after new given Failed stays f = stays.failed f

  -- the same of a token of the text
  pub fails-before : (before after new : K) {A F : Type 0} (given : Result A F) (fault : ParseFault)
      → Stays Sink before after → Fails Sink after new given fault → Fails Sink before new given fault
  fails-before before after new given fault stays f = fails_before IsOfText before after new given fault stays f

  -- The character goes on to where the machine makes of it, and of all that follows, what was to be made, with so many faulty items told.
  pub keeps-behind : (owed : Owed) (old mid new : Tokenizer K) (c : ℕ)
      (result : Result (ProcessResult H) ParseFault) → mid.stream ≡ old.stream → Stays Sink old.sink mid.sink
      → Rises Sink.errors owed old.sink mid.sink
      → ((notes : Notes ℕ) (t : List ℕ) → now Sink old old.stream.breaks (Sink.view old.sink, notes)
      (c ∷ t) ≡ now Sink mid old.stream.breaks (Sink.view mid.sink, more owed notes) (c ∷ t))
      → Keeps Sink mid new c result → Keeps Sink old new c result
  keeps-behind owed old mid new c (Ok result) stream stays rises e h = record {
    owed = together h.owed owed;
    rises = rises-then Sink.errors old.sink mid.sink new.sink rises h.rises;
    same = λ notes t. e notes t ∙ rw (← stream) (h.same (more owed notes) t)
        ∙ ap (λ n. now Sink new (old.stream.breaks + line_break (nat_eq c 10))
        (Sink.view new.sink, record n { pauses = paused_by Sink.number notes.pauses result }) t) (more-more h.owed owed notes);
    stream = h.stream ∙ stream;
    sound = h.sound;
    fits = h.fits;
    stays = stays-then Sink old.sink mid.sink new.sink stays h.stays;
    paused = h.paused;
  }
  keeps-behind owed old mid new c (Err fault) stream stays rises e h = (
    fell-behind Sink old.sink mid.sink new.sink stays h.0,
    λ notes t. fails-along old.sink new.sink _ _ fault (e notes t)
        (rw (← stream) (fails-before old.sink mid.sink new.sink _ fault stays (h.1 (more owed notes) t))),
  )

  -- the same with none
  pub keeps-along : (old mid new : Tokenizer K) (c : ℕ) (result : Result (ProcessResult H) ParseFault)
      → mid.stream ≡ old.stream → Stays Sink old.sink mid.sink → Rises Sink.errors nothing_owed old.sink mid.sink
      → ((notes : Notes ℕ) (t : List ℕ) → now Sink old old.stream.breaks (Sink.view old.sink, notes)
      (c ∷ t) ≡ now Sink mid old.stream.breaks (Sink.view mid.sink, notes) (c ∷ t))
      → Keeps Sink mid new c result → Keeps Sink old new c result
  keeps-along old mid new c result stream stays rises e h = keeps-behind nothing_owed old mid new c result stream stays rises e h

  -- The character, which may be odd here, is taken by another state, which nothing led to but the machine's own fields.
  pub keeps_odd : (odd : Bool) (old mid new : Tokenizer K) (c : ℕ) (st st' : State)
      (result : Result (ProcessResult H) ParseFault) → IsAt old st → IsAt mid st' → mid.stream ≡ old.stream → mid.sink ≡ old.sink
      → ((b : ℕ) (s : Sink.State × Notes ℕ) (t : List ℕ) → at Sink st old b s (c ∷ t) ≡ at Sink st' mid b
      (erred_by noting_error (slight_if odd) s) (c ∷ t))
      → Keeps Sink mid new c result → Keeps Sink old new c result
  keeps_odd odd old mid new c st st' result from to stream same law h =
      keeps-behind (owed_for (slight_if odd)) old mid new c result stream (stays-same Sink old.sink mid.sink same)
      (rises-slight Sink.errors odd old.sink mid.sink same) (λ notes t.
      now-at Sink old st old.stream.breaks (Sink.view old.sink, notes) (c ∷ t) from
      ∙ law old.stream.breaks (Sink.view old.sink, notes) t
      ∙ ap (λ s. at Sink st' mid old.stream.breaks s (c ∷ t)) (erred-more (slight_if odd) (Sink.view old.sink, notes))
      ∙ sym (now-at Sink mid st' old.stream.breaks (Sink.view old.sink, more (owed_for (slight_if odd)) notes) (c ∷ t) to)
      ∙ ap (λ k. now Sink mid old.stream.breaks (Sink.view k, more (owed_for (slight_if odd)) notes) (c ∷ t)) (sym same)) h

  -- The character is taken by another state, which nothing led to but the machine's own fields.
  pub keeps_silent : (old mid new : Tokenizer K) (c : ℕ) (st st' : State)
      (result : Result (ProcessResult H) ParseFault) → IsAt old st → IsAt mid st' → mid.stream ≡ old.stream → mid.sink ≡ old.sink
      → ((b : ℕ) (s : Sink.State × Notes ℕ) (t : List ℕ) → at Sink st old b s (c ∷ t) ≡ at Sink st' mid b s (c ∷ t))
      → Keeps Sink mid new c result → Keeps Sink old new c result
  keeps_silent old mid new c st st' result from to stream same law h = keeps_odd false old mid new c st st' result from to stream same law h

  -- A token was told, and then the character is taken by another state.
  pub keeps_told : {owed : Owed} (old mid on new target : Tokenizer K) (c : ℕ) (st st' : State) (token : Token)
      (result : Result (ProcessResult H) ParseFault) → IsAt old st → Sink.is_sound (Sink.view old.sink) → Emitted Sink owed token old mid
      → on ≡ record target { sink = mid.sink } → IsAt target st' → target.stream ≡ old.stream
      → Says st old c owed token (λ b s t. at Sink st' target b s (c ∷ t))
      → Keeps Sink on new c result → Keeps Sink old new c result
  keeps_told {owed} old mid on new target c st st' token result from ok told is to stream law h =
      keeps-behind (and_heard (Sink.is_quiet (Sink.view old.sink) token) owed) old on new c result
      (ap (λ k. k.stream) is ∙ stream) (rw is told.stays) (rw is told.rises) (λ notes t.
      now-at Sink old st old.stream.breaks (Sink.view old.sink, notes) (c ∷ t) from
      ∙ law old.stream.breaks (Sink.view old.sink, notes) ok t
      ∙ told-next owed old mid token notes (λ s. at Sink st' target old.stream.breaks s (c ∷ t)) told
      ∙ sym (now-target target mid.sink st' old.stream.breaks
      (Sink.view mid.sink, more (and_heard (Sink.is_quiet (Sink.view old.sink) token) owed) notes) (c ∷ t) to)
      ∙ sym (ap (λ k. now Sink k old.stream.breaks
      (Sink.view k.sink, more (and_heard (Sink.is_quiet (Sink.view old.sink) token) owed) notes) (c ∷ t)) is)) h

  -- The tag was told, and the character ended it.
  pub took_tag : (old new : Tokenizer K) (c : ℕ) (st : State) (result : Result (ProcessResult H) ParseFault)
      → IsAt old st → c ≡ 62 → EndsTag Sink old new result
      → ((b : ℕ) (s : Sink.State × Notes ℕ) → Sink.is_sound s.0 → (t : List ℕ) → at Sink st old b s (c ∷ t)
      ≡ (noting Sink.step Sink.is_quiet (s.0, more (owed_for (grave_if (is_faulty_tag old.tag))) s.1)
      (TagToken old.tag) (line_number b) >>= λ p. reads Sink (rows_of old)
      (next_stand (after_tag (standing old InData) old.tag) p.1) b p.0 t))
      → Sink.is_sound (Sink.view old.sink) → Keeps Sink old new c result
  took_tag old new c st (Ok result) from close h law ok = record {
    owed = owed_by Sink old;
    rises = h.rises;
    same = λ notes t.
        now-at Sink old st old.stream.breaks (Sink.view old.sink, notes) (c ∷ t) from
        ∙ law old.stream.breaks (Sink.view old.sink, notes) ok t
        ∙ h.same notes t
        ∙ ap (λ n. now Sink new n (Sink.view new.sink, noted_by Sink.number (owed_by Sink old) notes result) t)
        (sym (no-break old.stream.breaks c (ap (λ x. nat_eq x 10) close)));
    stream = h.stream;
    sound = h.sound;
    fits = h.fits;
    stays = h.stays;
    paused = rw close h.paused;
  }
  took_tag old new c st (Err fault) from close h law ok = (
    h.0,
    λ notes t.
        token-fails old.sink new.sink _ (Sink.view old.sink)
        (more (owed_for (grave_if (is_faulty_tag old.tag))) notes) (TagToken old.tag) (line_number old.stream.breaks) fault _ h.1
        (now-at Sink old st old.stream.breaks (Sink.view old.sink, notes) (c ∷ t) from ∙ law old.stream.breaks
        (Sink.view old.sink, notes) ok t),
  )

  -- An error that was told changes nothing that is to come.
  pub erred-now : {owed : Owed} (old mid : Tokenizer K) (b : ℕ) (notes : Notes ℕ) (t : List ℕ)
      → Erred Sink owed old mid → now Sink old b (Sink.view old.sink, notes) t ≡ now Sink mid b (Sink.view mid.sink, notes) t
  erred-now old mid b notes t h =
      ap (λ s. now Sink old b (s, notes) t) (sym h.sink)
      ∙ sym (held-other (listening Sink) old.state old mid.sink old.stream b
      (erred_by noting_error (fault_after old.char_ref) (Sink.view mid.sink, notes)) (pending old.char_ref ++ t) refl)
      ∙ sym (ap (λ k. now Sink k b (Sink.view mid.sink, notes) t) h.changed)

  pub at_erred : {owed : Owed} (old mid : Tokenizer K) (st : State) → Erred Sink owed old mid → IsAt old st → IsAt mid st
  at_erred old mid st h at = record { state = ap (λ k. k.state) h.changed ∙ at.state; fresh = ap (λ k. k.char_ref) h.changed ∙ at.fresh }

  pub sound_erred : {owed : Owed} (old mid : Tokenizer K) → Erred Sink owed old mid
      → Sink.is_sound (Sink.view old.sink) → Sink.is_sound (Sink.view mid.sink)
  sound_erred old mid h ok = rw h.sink ok

  -- What is to come where the machine reads this character is the same where something slight was noted before.
  abbrev pub Absorbs : Tokenizer K → ℕ → Type 0
  Absorbs k c = (b : ℕ) (s : Sink.State × Notes ℕ) (t : List ℕ) → now Sink k b s (c ∷ t) ≡ now Sink k b
      (s.0, more (owed_for (Some Slight)) s.1) (c ∷ t)

  -- It is so where the state reads it so.
  pub state-absorbs : (old : Tokenizer K) (c : ℕ) (st : State) → IsAt old st
      → ((b : ℕ) (s : Sink.State × Notes ℕ) (t : List ℕ) → at Sink st old b s (c ∷ t) ≡ at Sink st old b
      (s.0, more (owed_for (Some Slight)) s.1) (c ∷ t)) → Absorbs old c
  state-absorbs old c st from law b s t =
      now-at Sink old st b s (c ∷ t) from
      ∙ law b s t
      ∙ sym (now-at Sink old st b (s.0, more (owed_for (Some Slight)) s.1) (c ∷ t) from)

  -- An error of an odd character was told, and then the character is taken, whose reading notes that it is odd.
  pub keeps_erred : (odd : Bool) (old mid new : Tokenizer K) (c : ℕ) (result : Result (ProcessResult H) ParseFault)
      → Erred Sink (owed_for (grave_if odd)) old mid → (odd ≡ true → Absorbs old c) → Keeps Sink mid new c result
      → Keeps Sink old new c result
  keeps_erred true old mid new c result h absorbs k =
      keeps-behind (owed_for (Some Slight)) old mid new c result (ap (λ k. k.stream) h.changed) h.stays
      (rises-less Sink.errors old.sink mid.sink (record { faults = omega arith; quiet = λ e. absurd cc }) h.rises)
      (λ notes t. absorbs refl old.stream.breaks (Sink.view old.sink, notes) t ∙ erred-now old mid old.stream.breaks
      (more (owed_for (Some Slight)) notes) (c ∷ t) h) k
  keeps_erred false old mid new c result h absorbs k =
      keeps-along old mid new c result (ap (λ k. k.stream) h.changed) h.stays h.rises
      (λ notes t. erred-now old mid old.stream.breaks notes (c ∷ t) h) k

  -- An error was told for a faulty item that gives no token, and the character is taken by another state.
  pub took_faulty : {owed : Owed} (old mid new : Tokenizer K) (c : ℕ) (st st' : State) → IsAt old st → IsAt new st'
      → Sink.is_sound (Sink.view old.sink) → Erred Sink owed old mid → new.stream ≡ mid.stream → new.sink ≡ mid.sink
      → ((b : ℕ) (s : Sink.State × Notes ℕ) (t : List ℕ) → at Sink st old b s (c ∷ t) ≡ at Sink st' new
      (b + line_break (nat_eq c 10)) (s.0, more owed s.1) t)
      → Took Sink old new c flow.Continue
  took_faulty {owed} old mid new c st st' from to ok h stream same law = record {
    owed = owed;
    rises = rw same h.rises;
    same = λ notes t.
        now-at Sink old st old.stream.breaks (Sink.view old.sink, notes) (c ∷ t) from
        ∙ law old.stream.breaks (Sink.view old.sink, notes) t
        ∙ ap (λ s. at Sink st' new (old.stream.breaks + line_break (nat_eq c 10)) (s, more owed notes) t) (sym (ap Sink.view same ∙ h.sink))
        ∙ sym (now-at Sink new st' (old.stream.breaks + line_break (nat_eq c 10)) (Sink.view new.sink, more owed notes) t to);
    stream = stream ∙ ap (λ k. k.stream) h.changed;
    sound = rw (ap Sink.view same ∙ h.sink) ok;
    fits = fits-at new st' to;
    stays = rw same h.stays;
    paused = tt;
  }
