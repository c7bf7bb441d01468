-- The name after "</" in raw text.
use Rattle.std.proofs.Common.{◌≡◌, ◌∙◌, ℕ, ◌+◌, Bool, true, false, nat_eq, List, [], ◌∷◌, ◌++◌, Result, refl, sym, ap}
use Rattle.std.proofs.Common.{append_assoc, append-nil}
use Rattle.std.specs.Prelude.{◌&&◌}
use Rattle.std.specs.Char.{is_ascii_alphabetic}
use Rattle.std.specs.List.{list_all}
use Rattle.std.specs.Result.{IsErrAnd}
use Rattle.markup.specs.declared.fault.ParseFault.{ParseFault}
use Rattle.html_tokens.specs.declared.replies.ProcessResult.{ProcessResult}
use Rattle.html_tokens.specs.declared.replies.ProcessResult.TheVariants as flow
use Rattle.html_tokens.specs.declared.states.RawKind.{RawKind}
use Rattle.html_tokens.specs.declared.states.RawKind.TheVariants as raw
use Rattle.html_tokens.specs.declared.states.ScriptEscapeKind.TheVariants as script
use Rattle.html_tokens.specs.declared.states.State.TheVariants as state
use Rattle.html_tokens.specs.declared.token.Token.TheVariants.{CharacterTokens}
use Rattle.html_tokens.specs.declared.sink.TokenSink.{Ghosts}
use Rattle.html_tokens.specs.Notes.{Notes, noting}
use Rattle.html_tokens.specs.Item.{InRaw, character}
use Rattle.html_tokens.specs.Items.{item}
use Rattle.html_tokens.specs.RawText.{is_fitting_end, ends_at_tag, next_kind}
use Rattle.html_tokens.specs.Reading.{◌>>=◌, line_number, line_break}
use Rattle.html_tokens.specs.Sink.{SinkLaws}
use Rattle.html_tokenizer.specs.declared.tokenizer.Tokenizer.{Tokenizer}
use Rattle.html_tokenizer.specs.Rest.{rows_of, standing, held_at}
use Rattle.html_tokenizer.specs.Steps.{IsAt, Falls, Emitted, Took, Keeps, nothing_owed}
use Rattle.html_tokenizer_parts.specs.Words.{FittingEnd, ends_raw_text, kind_after}
use Rattle.html_tokenizer.proofs.Steps.Lawful.{noting-lawful}
use Rattle.html_tokenizer.proofs.Steps.Runs.{reading-text, told-more}
use Rattle.html_tokenizer.proofs.Steps.Keeping.{Says, took, at, no-break}
use Rattle.html_tokenizer.proofs.Steps.Telling.{keeps_then, not-told_from}
use Rattle.html_tokenizer_parts.proofs.Words.{and_parts}
use Rattle.html_tokenizer_parts.proofs.RawKinds.{letter-no_open, letter-no_reference, letter-no_dash, letter-no_null}
use Rattle.html_tokenizer_parts.proofs.RawKinds.{letter-no_break, kind-same, kind_after-letters, kind-open_slash}
use Rattle.html_tokenizer_parts.proofs.RawKinds.{double_escaped}
use Rattle.html_tokenizer.proofs.RawText.States.{raw_text, plain-item}
use Rattle.html_tokenizer.proofs.RawText.EndTags.{two-says, fits-none}
use Rattle.html_tokenizer.specs.Listeners.{listening}

module _ {K H : Type 0} (Sink : Ghosts K H) (laws : SinkLaws Sink.is_sound Sink.step Sink.ended Sink.is_quiet) where
  letter-item : (old : Tokenizer K) (kind : RawKind) (x : Bool) (c : ℕ) (t : List ℕ) → is_ascii_alphabetic c ≡ true
      → item (rows_of old) x (standing old (InRaw kind)) c t ≡ character c (standing old (InRaw kind))
  letter-item old kind x c t l =
      plain-item old kind x c t (letter-no_open c l) (letter-no_reference c l) (letter-no_null c l)
      ∙ ap (λ k. character c (standing old (InRaw k))) (kind-same kind c t (letter-no_open c l) (letter-no_dash c l))

  -- text, and then letters
  run-letters : (old : Tokenizer K) (kind : RawKind) (a word : List ℕ) (b : ℕ) (s : Sink.State × Notes ℕ)
      → Sink.is_sound s.0 → (t : List ℕ) (l : ℕ) → list_all is_ascii_alphabetic word ≡ true
      → (noting Sink.step Sink.is_quiet s (CharacterTokens a) l >>= λ p. raw_text Sink old kind b p.0 (word ++ t)) ≡
      (noting Sink.step Sink.is_quiet s (CharacterTokens (a ++ word)) l >>= λ p. raw_text Sink old kind b p.0 t)
  run-letters old kind a [] b s h t l w = ap (λ u. noting Sink.step Sink.is_quiet s (CharacterTokens u) l
      >>= λ p. raw_text Sink old kind b p.0 t) (sym (append-nil a))
  run-letters old kind a (c ∷ word) b s h t l w =
      let p = and_parts _ _ w in
      let here = standing old (InRaw kind) in
      told-more (λ p. Sink.is_sound p.0) (listening Sink) (rows_of old)
      (noting-lawful Sink.is_sound Sink.step Sink.ended Sink.is_quiet laws) here here b s h a c (word ++ t) l
      (λ s h. reading-text (λ p. Sink.is_sound p.0) (listening Sink) (rows_of old)
      (noting-lawful Sink.is_sound Sink.step Sink.ended Sink.is_quiet laws) here here b s h c (word ++ t) l
      (letter-no_break c p.0) (letter-item old kind (Sink.asks_cdata s.0) c (word ++ t) p.0))
      ∙ run-letters old kind (a ++ c ∷ []) word b s h t l p.1
      ∙ ap (λ u. noting Sink.step Sink.is_quiet s (CharacterTokens u) l >>= λ p. raw_text Sink old kind b p.0 t)
      (append_assoc a (c ∷ []) word)

  -- "</" and letters, which are text
  pub end_tag-run : (old : Tokenizer K) (kind : RawKind) (word : List ℕ) (b : ℕ) (s : Sink.State × Notes ℕ)
      → Sink.is_sound s.0 → (t : List ℕ) → list_all is_ascii_alphabetic word ≡ true
      → (ends_at_tag kind && is_fitting_end old.raw_end.name (47 ∷ (word ++ t))) ≡ false
      → raw_text Sink old kind b s (60 ∷ 47 ∷ (word ++ t)) ≡
      (noting Sink.step Sink.is_quiet s (CharacterTokens (60 ∷ 47 ∷ word)) (line_number b)
      >>= λ p. raw_text Sink old (next_kind (next_kind kind 60 (47 ∷ (word ++ t))) 47 (word ++ t)) b p.0 t)
  end_tag-run old kind word b s h t w fits =
      two-says Sink laws old kind b s h 47 (word ++ t) refl refl refl refl fits
      ∙ run-letters old (next_kind (next_kind kind 60 (47 ∷ (word ++ t))) 47 (word ++ t)) (60 ∷ 47 ∷ []) word b s h t (line_number b) w

  -- a letter of the name
  pub letter-taken : (old : Tokenizer K) (kind : RawKind) (held : FittingEnd) (c : ℕ)
      → IsAt old (state.RawEndTagName kind) → Sink.is_sound (Sink.view old.sink) → is_ascii_alphabetic c ≡ true
      → held ≡ record old.raw_end { letters = old.raw_end.letters ++ c ∷ [] }
      → Took Sink old (record old { raw_end = held }) c flow.Continue
  unfolding held_at
  letter-taken old kind held c from ok l e =
      rw e (took Sink old (record old { raw_end = record old.raw_end { letters = old.raw_end.letters ++ c ∷ [] } })
      c (state.RawEndTagName kind) (state.RawEndTagName kind) from (record { state = from.state; fresh = from.fresh }) refl refl ok
      (λ b s t. ap (λ n. raw_text Sink old kind n s (60 ∷ 47 ∷ (old.raw_end.letters ++ c ∷ t))) (sym (no-break b c (letter-no_break c l)))
      ∙ ap (λ u. raw_text Sink old kind (b + line_break (nat_eq c 10)) s (60 ∷ 47 ∷ u))
      (sym (append_assoc old.raw_end.letters (c ∷ []) t))))

  -- the end tag was text
  unfit-says : (old : Tokenizer K) (kind : RawKind) (c : ℕ) → list_all is_ascii_alphabetic old.raw_end.letters ≡
      true → ((t : List ℕ) → is_fitting_end old.raw_end.name (47 ∷ (old.raw_end.letters ++ c ∷ t)) ≡ false) → ends_at_tag kind ≡ true
      → Says Sink (state.RawEndTagName kind) old c nothing_owed (CharacterTokens (60 ∷ 47 ∷ old.raw_end.letters))
      (λ b s t. at Sink (state.RawData kind) (record old { state = state.RawData kind }) b s (c ∷ t))
  unfolding held_at
  unfit-says old kind c w f e b s h t =
      end_tag-run old kind old.raw_end.letters b s h (c ∷ t) w (fits-none Sink laws old kind (47 ∷ (old.raw_end.letters ++ c ∷ t)) (f t))
      ∙ ap (λ k. noting Sink.step Sink.is_quiet s (CharacterTokens (60 ∷ 47 ∷ old.raw_end.letters)) (line_number b)
      >>= λ p. raw_text Sink old (next_kind k 47 (old.raw_end.letters ++ c ∷ t)) b p.0 (c ∷ t))
      (kind-open_slash kind (old.raw_end.letters ++ c ∷ t) e)
      ∙ ap (λ k. noting Sink.step Sink.is_quiet s (CharacterTokens (60 ∷ 47 ∷ old.raw_end.letters)) (line_number b)
      >>= λ p. raw_text Sink old k b p.0 (c ∷ t)) (kind-same kind 47 (old.raw_end.letters ++ c ∷ t) refl refl)

  pub unfit-kept : (old mid new : Tokenizer K) (kind : RawKind) (c : ℕ)
      (result : Result (ProcessResult H) ParseFault) → IsAt old (state.RawEndTagName kind)
      → Sink.is_sound (Sink.view old.sink) → list_all is_ascii_alphabetic old.raw_end.letters ≡ true
      → (ends_raw_text old.raw_end.name old.raw_end.letters c ≡ false → (t : List ℕ)
      → is_fitting_end old.raw_end.name (47 ∷ (old.raw_end.letters ++ c ∷ t)) ≡ false) → ends_at_tag kind ≡ true
      → ends_raw_text old.raw_end.name old.raw_end.letters c ≡ false
      → Emitted Sink nothing_owed (CharacterTokens (60 ∷ 47 ∷ old.raw_end.letters))
      (record old { state = state.RawData kind }) mid → Keeps Sink mid new c result → Keeps Sink old new c result
  unfit-kept old mid new kind c result from ok w l e f told h = keeps_then Sink old
      (record old { state = state.RawData kind }) mid new c (state.RawEndTagName kind) (state.RawData kind)
      (CharacterTokens (60 ∷ 47 ∷ old.raw_end.letters)) result from (record { state = refl; fresh = from.fresh })
      refl refl ok told (unfit-says old kind c w (l f) e) h

  pub unfit-failed : (old new : Tokenizer K) (kind : RawKind) (c : ℕ) (result : Result (ProcessResult H) ParseFault)
      (fault : ParseFault) → IsAt old (state.RawEndTagName kind) → Sink.is_sound (Sink.view old.sink)
      → list_all is_ascii_alphabetic old.raw_end.letters ≡ true
      → (ends_raw_text old.raw_end.name old.raw_end.letters c ≡ false → (t : List ℕ)
      → is_fitting_end old.raw_end.name (47 ∷ (old.raw_end.letters ++ c ∷ t)) ≡ false) → ends_at_tag kind ≡ true
      → ends_raw_text old.raw_end.name old.raw_end.letters c ≡ false → IsErrAnd result (λ y. y ≡ fault)
      → Falls Sink old.sink new.sink
      (Sink.step (Sink.view old.sink) (CharacterTokens (60 ∷ 47 ∷ old.raw_end.letters))
      (line_number old.stream.breaks)) fault → Keeps Sink old new c result
  unfit-failed old new kind c result fault from ok w l e f is fails = not-told_from Sink nothing_owed old old new c
      (state.RawEndTagName kind) (CharacterTokens (60 ∷ 47 ∷ old.raw_end.letters)) result fault _ from refl refl ok
      is fails (unfit-says old kind c w (l f) e)

  -- in text that is escaped twice no end tag is held, and "</" and letters are text
  deep-run : (old : Tokenizer K) (letters : List ℕ) (c : ℕ) (b : ℕ) (s : Sink.State × Notes ℕ) → Sink.is_sound s.0
      → (t : List ℕ) → list_all is_ascii_alphabetic letters ≡ true
      → raw_text Sink old (raw.ScriptDataEscaped script.DoubleEscaped) b s (60 ∷ 47 ∷ (letters ++ c ∷ t)) ≡
      (noting Sink.step Sink.is_quiet s (CharacterTokens (60 ∷ 47 ∷ letters)) (line_number b)
      >>= λ p. raw_text Sink old (kind_after (raw.ScriptDataEscaped script.DoubleEscaped) (60 ∷ 47 ∷ letters) (c ∷ t)) b p.0 (c ∷ t))
  deep-run old letters c b s h t w =
      let kind = raw.ScriptDataEscaped script.DoubleEscaped in
      let after_slash = next_kind (next_kind kind 60 (47 ∷ (letters ++ c ∷ t))) 47 (letters ++ c ∷ t) in
      end_tag-run old kind letters b s h (c ∷ t) w refl
      ∙ ap (λ k. noting Sink.step Sink.is_quiet s (CharacterTokens (60 ∷ 47 ∷ letters)) (line_number b)
      >>= λ p. raw_text Sink old k b p.0 (c ∷ t)) (sym (kind_after-letters after_slash letters (c ∷ t) w))

  -- after "</"
  deep_open-says : (old : Tokenizer K) (word : List ℕ) (c : ℕ) → word ≡ []
      → Says Sink (state.RawEndTagOpen (raw.ScriptDataEscaped script.DoubleEscaped)) old c nothing_owed
      (CharacterTokens (60 ∷ 47 ∷ []))
      (λ b s t. at Sink state.ScriptDataDoubleEscapeEnd
      (record old { word = word; state = state.ScriptDataDoubleEscapeEnd }) b s (c ∷ t))
  unfolding held_at
  deep_open-says old word c e b s h t = rw e (deep-run old [] c b s h t refl)

  pub deep_open-kept : (old mid new : Tokenizer K) (word : List ℕ) (kind : RawKind) (c : ℕ)
      (result : Result (ProcessResult H) ParseFault) → IsAt old (state.RawEndTagOpen kind)
      → Sink.is_sound (Sink.view old.sink) → word ≡ [] → ends_at_tag kind ≡ false
      → Emitted Sink nothing_owed (CharacterTokens (60 ∷ 47 ∷ []))
      (record old { word = word; state = state.ScriptDataDoubleEscapeEnd }) mid → Keeps Sink mid new c result
      → Keeps Sink old new c result
  deep_open-kept old mid new word kind c result from ok w e told h =
      keeps_then Sink old (record old { word = word; state = state.ScriptDataDoubleEscapeEnd }) mid new c
      (state.RawEndTagOpen (raw.ScriptDataEscaped script.DoubleEscaped)) state.ScriptDataDoubleEscapeEnd
      (CharacterTokens (60 ∷ 47 ∷ [])) result (rw (double_escaped kind e) at from)
      (record { state = refl; fresh = from.fresh }) refl refl ok told (deep_open-says old word c w) h

  pub deep_open-failed : (old new : Tokenizer K) (kind : RawKind) (c : ℕ)
      (result : Result (ProcessResult H) ParseFault) (fault : ParseFault) → IsAt old (state.RawEndTagOpen kind)
      → Sink.is_sound (Sink.view old.sink) → ends_at_tag kind ≡ false → IsErrAnd result (λ y. y ≡ fault)
      → Falls Sink old.sink new.sink (Sink.step (Sink.view old.sink) (CharacterTokens (60 ∷ 47 ∷ []))
      (line_number old.stream.breaks)) fault → Keeps Sink old new c result
  deep_open-failed old new kind c result fault from ok e is fails = not-told_from Sink nothing_owed old old new c
      (state.RawEndTagOpen (raw.ScriptDataEscaped script.DoubleEscaped)) (CharacterTokens (60 ∷ 47 ∷ [])) result
      fault _ (rw (double_escaped kind e) at from) refl refl ok is fails (deep_open-says old [] c refl)

  -- after letters
  deep-says : (old : Tokenizer K) (word : List ℕ) (c : ℕ) → list_all is_ascii_alphabetic old.raw_end.letters ≡ true
      → word ≡ old.raw_end.letters
      → Says Sink (state.RawEndTagName (raw.ScriptDataEscaped script.DoubleEscaped)) old c nothing_owed
      (CharacterTokens (60 ∷ 47 ∷ old.raw_end.letters))
      (λ b s t. at Sink state.ScriptDataDoubleEscapeEnd
      (record old { word = word; state = state.ScriptDataDoubleEscapeEnd }) b s (c ∷ t))
  unfolding held_at
  deep-says old word c w e b s h t = rw e (deep-run old old.raw_end.letters c b s h t w)

  pub deep_end-kept : (old mid new : Tokenizer K) (word : List ℕ) (kind : RawKind) (c : ℕ)
      (result : Result (ProcessResult H) ParseFault) → IsAt old (state.RawEndTagName kind)
      → Sink.is_sound (Sink.view old.sink) → list_all is_ascii_alphabetic old.raw_end.letters ≡ true
      → word ≡ old.raw_end.letters → ends_at_tag kind ≡ false
      → Emitted Sink nothing_owed (CharacterTokens (60 ∷ 47 ∷ old.raw_end.letters))
      (record old { word = word; state = state.ScriptDataDoubleEscapeEnd }) mid → Keeps Sink mid new c result
      → Keeps Sink old new c result
  deep_end-kept old mid new word kind c result from ok w is e told h =
      keeps_then Sink old (record old { word = word; state = state.ScriptDataDoubleEscapeEnd }) mid new c
      (state.RawEndTagName (raw.ScriptDataEscaped script.DoubleEscaped)) state.ScriptDataDoubleEscapeEnd
      (CharacterTokens (60 ∷ 47 ∷ old.raw_end.letters)) result (rw (double_escaped kind e) at from)
      (record { state = refl; fresh = from.fresh }) refl refl ok told (deep-says old word c w is) h

  pub deep_end-failed : (old new : Tokenizer K) (kind : RawKind) (c : ℕ)
      (result : Result (ProcessResult H) ParseFault) (fault : ParseFault) → IsAt old (state.RawEndTagName kind)
      → Sink.is_sound (Sink.view old.sink) → list_all is_ascii_alphabetic old.raw_end.letters ≡ true
      → ends_at_tag kind ≡ false → IsErrAnd result (λ y. y ≡ fault)
      → Falls Sink old.sink new.sink
      (Sink.step (Sink.view old.sink) (CharacterTokens (60 ∷ 47 ∷ old.raw_end.letters))
      (line_number old.stream.breaks)) fault → Keeps Sink old new c result
  deep_end-failed old new kind c result fault from ok w e is fails = not-told_from Sink nothing_owed old old new c
      (state.RawEndTagName (raw.ScriptDataEscaped script.DoubleEscaped))
      (CharacterTokens (60 ∷ 47 ∷ old.raw_end.letters)) result fault _ (rw (double_escaped kind e) at from) refl
      refl ok is fails (deep-says old old.raw_end.letters c w refl)
