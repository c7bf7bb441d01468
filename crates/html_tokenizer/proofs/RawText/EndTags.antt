-- "<" and "</" in raw text, which may begin the fitting end tag.
use Rattle.std.proofs.Common.{◌≡◌, ◌∙◌, ℕ, ◌+◌, true, false, nat_eq, List, [], ◌∷◌, Result, refl, sym, ap}
use Rattle.std.specs.Prelude.{◌&&◌, ◌⊎◌}
use Rattle.std.specs.Char.{is_ascii_alphabetic}
use Rattle.std.proofs.lemmas.Bool.{ne_eqb}
use Rattle.std.specs.Result.{IsErrAnd}
use Rattle.markup.specs.declared.fault.ParseFault.{ParseFault}
use Rattle.html_tokens.specs.declared.replies.ProcessResult.{ProcessResult}
use Rattle.html_tokens.specs.declared.replies.ProcessResult.TheVariants as flow
use Rattle.html_tokens.specs.declared.states.RawKind.{RawKind}
use Rattle.html_tokens.specs.declared.states.RawKind.TheVariants as raw
use Rattle.html_tokens.specs.declared.states.ScriptEscapeKind.TheVariants as script
use Rattle.html_tokens.specs.declared.states.State.TheVariants as state
use Rattle.html_tokens.specs.declared.token.Token.TheVariants.{CharacterTokens}
use Rattle.html_tokens.specs.declared.sink.TokenSink.{Ghosts}
use Rattle.html_tokens.specs.Notes.{Notes, noting}
use Rattle.html_tokens.specs.Item.{InRaw}
use Rattle.html_tokens.specs.RawText.{is_fitting_end, ends_at_tag, next_kind}
use Rattle.html_tokens.specs.Reading.{◌>>=◌, line_number, line_break}
use Rattle.html_tokens.specs.Sink.{SinkLaws}
use Rattle.html_tokenizer.specs.declared.tokenizer.Tokenizer.{Tokenizer}
use Rattle.html_tokenizer.specs.Rest.{rows_of, standing, held_at}
use Rattle.html_tokenizer.specs.Steps.{IsAt, Falls, Emitted, TakesAs, Took, Keeps, nothing_owed}
use Rattle.html_tokenizer_parts.specs.Words.{FittingEnd, may_escape, kind_after}
use Rattle.html_tokenizer.proofs.Steps.Lawful.{noting-lawful}
use Rattle.html_tokenizer.proofs.Steps.Readings.{sum-zero}
use Rattle.html_tokenizer.proofs.Steps.Runs.{reading-text, reading-two}
use Rattle.html_tokenizer.proofs.Steps.Keeping.{Says, took, keeps_silent, at, no-break}
use Rattle.html_tokenizer.proofs.Steps.Telling.{keeps_taken, keeps_then, not-told_from}
use Rattle.html_tokenizer_parts.proofs.RawKinds.{and-none, letter-no_open, letter-no_reference, letter-no_null, letter-no_break}
use Rattle.html_tokenizer_parts.proofs.RawKinds.{letter-no_slash, kind-same, kind-open, kind-slash, fitting-slash}
use Rattle.html_tokenizer.proofs.RawText.States.{raw_text, plain-item, open-item, held-open}
use Rattle.html_tokenizer.proofs.RawText.Scripts.{char-says, kind-says}
use Rattle.html_tokenizer.specs.Listeners.{listening}

module _ {K H : Type 0} (Sink : Ghosts K H) (laws : SinkLaws Sink.is_sound Sink.step Sink.ended Sink.is_quiet) where
  -- "<" and then another character are told, and the text has this kind after them
  pub two-says : (old : Tokenizer K) (kind : RawKind) (b : ℕ) (s : Sink.State × Notes ℕ) → Sink.is_sound s.0
      → (c : ℕ) (t : List ℕ) → nat_eq c 60 ≡ false → nat_eq c 38 ≡ false → nat_eq c 0 ≡ false → nat_eq c 10 ≡ false
      → (ends_at_tag kind && is_fitting_end old.raw_end.name (c ∷ t)) ≡ false
      → raw_text Sink old kind b s (60 ∷ c ∷ t) ≡ (noting Sink.step Sink.is_quiet s (CharacterTokens (60 ∷ c ∷ []))
      (line_number b) >>= λ p. raw_text Sink old (kind_after kind (60 ∷ c ∷ []) t) b p.0 t)
  two-says old kind b s h c t e f z n fits =
      let mid = next_kind kind 60 (c ∷ t) in
      reading-two (λ p. Sink.is_sound p.0) (listening Sink) (rows_of old)
      (noting-lawful Sink.is_sound Sink.step Sink.ended Sink.is_quiet laws) (standing old (InRaw kind))
      (standing old (InRaw mid)) (standing old (InRaw (next_kind mid c t))) b s h 60 c t (line_number b) refl n
      (λ x. open-item old kind x (c ∷ t) fits) (λ x. plain-item old mid x c t e f z)

  pub fits-none : (k : Tokenizer K) (kind : RawKind) (t : List ℕ) → is_fitting_end k.raw_end.name t ≡ false
      → (ends_at_tag kind && is_fitting_end k.raw_end.name t) ≡ false
  fits-none k kind t e = rw e (and-none (ends_at_tag kind))

  -- "/" after "<"
  pub slash-taken : (old : Tokenizer K) (kind : RawKind) (c : ℕ) → IsAt old (state.RawLessThanSign kind)
      → Sink.is_sound (Sink.view old.sink) → ends_at_tag kind ≡ true → c ≡ 47
      → Took Sink old (record old { state = state.RawEndTagOpen kind }) c flow.Continue
  unfolding held_at
  slash-taken old kind c from ok h e = rw e (took Sink old (record old { state = state.RawEndTagOpen kind }) 47
      (state.RawLessThanSign kind) (state.RawEndTagOpen kind) from (record { state = refl; fresh = from.fresh }) refl refl ok
      (λ b s t. held-open Sink old kind b s (47 ∷ t) h ∙ ap (λ n. raw_text Sink old kind n s (60 ∷ 47 ∷ t)) (sym (sum-zero b))))

  -- "<" was text
  less-says : (old : Tokenizer K) (kind : RawKind) (c : ℕ) → ends_at_tag kind ≡ true → may_escape kind c ≡ false
      → nat_eq c 47 ≡ false → Says Sink (state.RawLessThanSign kind) old c nothing_owed (CharacterTokens (60 ∷ []))
      (λ b s t. at Sink (state.RawData kind) (record old { state = state.RawData kind }) b s (c ∷ t))
  unfolding held_at
  less-says old kind c e p f b s h t =
      held-open Sink old kind b s (c ∷ t) e
      ∙ reading-text (λ p. Sink.is_sound p.0) (listening Sink) (rows_of old)
      (noting-lawful Sink.is_sound Sink.step Sink.ended Sink.is_quiet laws) (standing old (InRaw kind))
      (standing old (InRaw (next_kind kind 60 (c ∷ t)))) b s h 60 (c ∷ t) (line_number b) refl
      (open-item old kind (Sink.asks_cdata s.0) (c ∷ t) (fits-none old kind (c ∷ t) (fitting-slash old.raw_end.name c t f)))
      ∙ ap (λ k. noting Sink.step Sink.is_quiet s (CharacterTokens (60 ∷ [])) (line_number b)
      >>= λ p. raw_text Sink old k b p.0 (c ∷ t)) (kind-open kind c t p)

  pub less-kept : (old mid new : Tokenizer K) (kind : RawKind) (c : ℕ)
      (result : Result (ProcessResult H) ParseFault) → IsAt old (state.RawLessThanSign kind)
      → Sink.is_sound (Sink.view old.sink) → ends_at_tag kind ≡ true → may_escape kind c ≡ false → (c ≡ 47 → ⊥)
      → Emitted Sink nothing_owed (CharacterTokens (60 ∷ [])) (record old { state = state.RawData kind }) mid
      → Keeps Sink mid new c result → Keeps Sink old new c result
  less-kept old mid new kind c result from ok e p f told h = keeps_then Sink old
      (record old { state = state.RawData kind }) mid new c (state.RawLessThanSign kind) (state.RawData kind)
      (CharacterTokens (60 ∷ [])) result from (record { state = refl; fresh = from.fresh }) refl refl ok told
      (less-says old kind c e p (ne_eqb c 47 f)) h

  pub less-failed : (old new : Tokenizer K) (kind : RawKind) (c : ℕ) (result : Result (ProcessResult H) ParseFault)
      (fault : ParseFault) → IsAt old (state.RawLessThanSign kind) → Sink.is_sound (Sink.view old.sink)
      → ends_at_tag kind ≡ true → may_escape kind c ≡ false → (c ≡ 47 → ⊥) → IsErrAnd result (λ y. y ≡ fault)
      → Falls Sink old.sink new.sink (Sink.step (Sink.view old.sink) (CharacterTokens (60 ∷ []))
      (line_number old.stream.breaks)) fault → Keeps Sink old new c result
  less-failed old new kind c result fault from ok e p f is fails = not-told_from Sink nothing_owed old old new c
      (state.RawLessThanSign kind) (CharacterTokens (60 ∷ [])) result fault _ from refl refl ok is fails
      (less-says old kind c e p (ne_eqb c 47 f))

  -- "<!" in the text of a script
  bang-says : (old : Tokenizer K) → Says Sink (state.RawLessThanSign raw.ScriptData) old 33 nothing_owed
      (CharacterTokens (60 ∷ 33 ∷ [])) (λ b s t. at Sink (state.ScriptDataEscapeStart script.Escaped)
      (record old { state = state.ScriptDataEscapeStart script.Escaped }) (b + line_break (nat_eq 33 10)) s t)
  unfolding held_at
  bang-says old b s h t =
      two-says old raw.ScriptData b s h 33 t refl refl refl refl
      (fits-none old raw.ScriptData (33 ∷ t) (fitting-slash old.raw_end.name 33 t refl))
      ∙ ap (λ n. noting Sink.step Sink.is_quiet s (CharacterTokens (60 ∷ 33 ∷ [])) (line_number b)
      >>= λ p. raw_text Sink old (kind_after raw.ScriptData (60 ∷ 33 ∷ []) t) n p.0 t) (sym (sum-zero b))

  pub bang-told : (old new : Tokenizer K) (c : ℕ) (result : Result (ProcessResult H) ParseFault)
      → IsAt old (state.RawLessThanSign raw.ScriptData) → Sink.is_sound (Sink.view old.sink) → c ≡ 33
      → TakesAs Sink nothing_owed (CharacterTokens (60 ∷ 33 ∷ []))
      (record old { state = state.ScriptDataEscapeStart script.Escaped }) new result → Keeps Sink old new c result
  bang-told old new c result from ok e told =
      rw e (keeps_taken Sink nothing_owed old (record old { state = state.ScriptDataEscapeStart script.Escaped })
      new 33 (state.RawLessThanSign raw.ScriptData) (state.ScriptDataEscapeStart script.Escaped)
      (CharacterTokens (60 ∷ 33 ∷ [])) result from (record { state = refl; fresh = from.fresh }) refl refl ok told (bang-says old))

  -- "<" and a letter in escaped text
  letter-says : (old : Tokenizer K) (word : List ℕ) (c : ℕ) → is_ascii_alphabetic c ≡ true → word ≡ c ∷
      [] → Says Sink (state.RawLessThanSign (raw.ScriptDataEscaped script.Escaped)) old c nothing_owed
      (CharacterTokens (60 ∷ c ∷ [])) (λ b s t. at Sink (state.ScriptDataEscapeStart script.DoubleEscaped)
      (record old { word = word; state = state.ScriptDataEscapeStart script.DoubleEscaped }) (b + line_break (nat_eq c 10)) s t)
  unfolding held_at
  letter-says old word c l e b s h t =
      let kind = raw.ScriptDataEscaped script.Escaped in
      two-says old kind b s h c t (letter-no_open c l) (letter-no_reference c l) (letter-no_null c l)
      (letter-no_break c l) (fits-none old kind (c ∷ t) (fitting-slash old.raw_end.name c t (letter-no_slash c l)))
      ∙ ap (λ n. noting Sink.step Sink.is_quiet s (CharacterTokens (60 ∷ c ∷ [])) (line_number b)
      >>= λ p. raw_text Sink old (kind_after kind (60 ∷ c ∷ []) t) n p.0 t) (sym (no-break b c (letter-no_break c l)))
      ∙ ap (λ w. noting Sink.step Sink.is_quiet s (CharacterTokens (60 ∷ c ∷ [])) (line_number b)
      >>= λ p. raw_text Sink old (kind_after kind (60 ∷ w) t) (b + line_break (nat_eq c 10)) p.0 t) (sym e)

  pub letter-told : (old new : Tokenizer K) (word : List ℕ) (c : ℕ) (result : Result (ProcessResult H) ParseFault)
      → IsAt old (state.RawLessThanSign (raw.ScriptDataEscaped script.Escaped)) → Sink.is_sound (Sink.view old.sink)
      → is_ascii_alphabetic c ≡ true → word ≡ c ∷ [] → TakesAs Sink nothing_owed (CharacterTokens (60 ∷ c ∷ []))
      (record old { word = word; state = state.ScriptDataEscapeStart script.DoubleEscaped }) new result → Keeps Sink old new c result
  letter-told old new word c result from ok l e told = keeps_taken Sink nothing_owed old
      (record old { word = word; state = state.ScriptDataEscapeStart script.DoubleEscaped }) new c
      (state.RawLessThanSign (raw.ScriptDataEscaped script.Escaped))
      (state.ScriptDataEscapeStart script.DoubleEscaped) (CharacterTokens (60 ∷ c ∷ [])) result from
      (record { state = refl; fresh = from.fresh }) refl refl ok told (letter-says old word c l e)

  -- after "<" in text that is escaped twice
  deep_slash-says : (old : Tokenizer K) (word : List ℕ) → word ≡ []
      → Says Sink (state.RawLessThanSign (raw.ScriptDataEscaped script.DoubleEscaped)) old 47 nothing_owed
      (CharacterTokens (47 ∷ []))
      (λ b s t. at Sink state.ScriptDataDoubleEscapeEnd
      (record old { word = word; state = state.ScriptDataDoubleEscapeEnd }) (b + line_break (nat_eq 47 10)) s t)
  unfolding held_at
  deep_slash-says old word e b s h t =
      let kind = raw.ScriptDataEscaped script.DoubleEscaped in
      char-says Sink laws old (kind_after kind (60 ∷ []) (47 ∷ t)) (kind_after kind (60 ∷ 47 ∷ word) t) b s h 47 t
      refl refl refl (ap (λ w. kind_after kind (60 ∷ 47 ∷ w) t) (sym e))

  pub deep_slash-told : (old new : Tokenizer K) (word : List ℕ) (c : ℕ)
      (result : Result (ProcessResult H) ParseFault)
      → IsAt old (state.RawLessThanSign (raw.ScriptDataEscaped script.DoubleEscaped))
      → Sink.is_sound (Sink.view old.sink) → c ≡ 47 → word ≡ [] → TakesAs Sink nothing_owed
      (CharacterTokens (47 ∷ [])) (record old { word = word; state = state.ScriptDataDoubleEscapeEnd }) new result
      → Keeps Sink old new c result
  deep_slash-told old new word c result from ok e w told =
      rw e (keeps_taken Sink nothing_owed old (record old { word = word; state = state.ScriptDataDoubleEscapeEnd })
      new 47 (state.RawLessThanSign (raw.ScriptDataEscaped script.DoubleEscaped)) state.ScriptDataDoubleEscapeEnd
      (CharacterTokens (47 ∷ [])) result from (record { state = refl; fresh = from.fresh }) refl refl ok told
      (deep_slash-says old word w))

  deep-other : (old : Tokenizer K) (c : ℕ) → nat_eq c 47 ≡ false → (b : ℕ) (s : Sink.State × Notes ℕ) (t : List ℕ)
      → at Sink (state.RawLessThanSign (raw.ScriptDataEscaped script.DoubleEscaped)) old b s (c ∷ t) ≡ at Sink
      (state.RawData (raw.ScriptDataEscaped script.DoubleEscaped))
      (record old { state = state.RawData (raw.ScriptDataEscaped script.DoubleEscaped) }) b s (c ∷ t)
  unfolding held_at
  deep-other old c e b s t =
      let kind = raw.ScriptDataEscaped script.DoubleEscaped in
      kind-says Sink laws old (kind_after kind (60 ∷ []) (c ∷ t)) kind b s (c ∷ t) (kind-open kind c t e)

  pub deep-kept : (old new : Tokenizer K) (c : ℕ) (result : Result (ProcessResult H) ParseFault)
      → IsAt old (state.RawLessThanSign (raw.ScriptDataEscaped script.DoubleEscaped)) → (c ≡ 47 → ⊥)
      → Keeps Sink (record old { state = state.RawData (raw.ScriptDataEscaped script.DoubleEscaped) }) new c result
      → Keeps Sink old new c result
  deep-kept old new c result from e h = keeps_silent Sink old
      (record old { state = state.RawData (raw.ScriptDataEscaped script.DoubleEscaped) }) new c
      (state.RawLessThanSign (raw.ScriptDataEscaped script.DoubleEscaped))
      (state.RawData (raw.ScriptDataEscaped script.DoubleEscaped)) result from
      (record { state = refl; fresh = from.fresh }) refl refl (deep-other old c (ne_eqb c 47 e)) h

  -- a letter after "</"
  pub name-taken : (old : Tokenizer K) (kind : RawKind) (held : FittingEnd) (c : ℕ)
      → IsAt old (state.RawEndTagOpen kind) → Sink.is_sound (Sink.view old.sink) → is_ascii_alphabetic c ≡ true
      → held ≡ record old.raw_end { letters = c ∷ [] }
      → Took Sink old (record old { raw_end = held; state = state.RawEndTagName kind }) c flow.Continue
  unfolding held_at
  name-taken old kind held c from ok l e =
      rw e (took Sink old (record old {
        raw_end = record old.raw_end { letters = c ∷ [] };
        state = state.RawEndTagName kind;
      }) c (state.RawEndTagOpen kind) (state.RawEndTagName kind) from
      (record { state = refl; fresh = from.fresh }) refl refl ok
      (λ b s t. ap (λ n. raw_text Sink old kind n s (60 ∷ 47 ∷ c ∷ t)) (sym (no-break b c (letter-no_break c l)))))

  -- "</" was text
  no_name-says : (old : Tokenizer K) (kind : RawKind) (c : ℕ)
      → ((t : List ℕ) → is_fitting_end old.raw_end.name (47 ∷ c ∷ t) ≡ false) → (is_ascii_alphabetic c ≡ false)
      ⊎ (ends_at_tag kind ≡ true) → Says Sink (state.RawEndTagOpen kind) old c nothing_owed
      (CharacterTokens (60 ∷ 47 ∷ [])) (λ b s t. at Sink (state.RawData kind) (record old { state = state.RawData kind }) b s (c ∷ t))
  unfolding held_at
  no_name-says old kind c f l b s h t =
      two-says old kind b s h 47 (c ∷ t) refl refl refl refl (fits-none old kind (47 ∷ c ∷ t) (f t))
      ∙ ap (λ k. noting Sink.step Sink.is_quiet s (CharacterTokens (60 ∷ 47 ∷ [])) (line_number b)
      >>= λ p. raw_text Sink old (next_kind k 47 (c ∷ t)) b p.0 (c ∷ t)) (kind-slash kind c t l)
      ∙ ap (λ k. noting Sink.step Sink.is_quiet s (CharacterTokens (60 ∷ 47 ∷ [])) (line_number b)
      >>= λ p. raw_text Sink old k b p.0 (c ∷ t)) (kind-same kind 47 (c ∷ t) refl refl)

  pub no_name-kept : (old mid new : Tokenizer K) (kind : RawKind) (c : ℕ)
      (result : Result (ProcessResult H) ParseFault) → IsAt old (state.RawEndTagOpen kind)
      → Sink.is_sound (Sink.view old.sink) → ((t : List ℕ) → is_fitting_end old.raw_end.name (47 ∷ c ∷ t) ≡ false)
      → (is_ascii_alphabetic c ≡ false) ⊎ (ends_at_tag kind ≡ true)
      → Emitted Sink nothing_owed (CharacterTokens (60 ∷ 47 ∷ [])) (record old { state = state.RawData kind }) mid
      → Keeps Sink mid new c result → Keeps Sink old new c result
  no_name-kept old mid new kind c result from ok f l told h = keeps_then Sink old
      (record old { state = state.RawData kind }) mid new c (state.RawEndTagOpen kind) (state.RawData kind)
      (CharacterTokens (60 ∷ 47 ∷ [])) result from (record { state = refl; fresh = from.fresh }) refl refl ok told
      (no_name-says old kind c f l) h

  pub no_name-failed : (old new : Tokenizer K) (kind : RawKind) (c : ℕ)
      (result : Result (ProcessResult H) ParseFault) (fault : ParseFault) → IsAt old (state.RawEndTagOpen kind)
      → Sink.is_sound (Sink.view old.sink) → ((t : List ℕ) → is_fitting_end old.raw_end.name (47 ∷ c ∷ t) ≡ false)
      → (is_ascii_alphabetic c ≡ false) ⊎ (ends_at_tag kind ≡ true) → IsErrAnd result (λ y. y ≡ fault)
      → Falls Sink old.sink new.sink (Sink.step (Sink.view old.sink) (CharacterTokens (60 ∷ 47 ∷ []))
      (line_number old.stream.breaks)) fault → Keeps Sink old new c result
  no_name-failed old new kind c result fault from ok f l is fails = not-told_from Sink nothing_owed old old new c
      (state.RawEndTagOpen kind) (CharacterTokens (60 ∷ 47 ∷ [])) result fault _ from refl refl ok is fails (no_name-says old kind c f l)
