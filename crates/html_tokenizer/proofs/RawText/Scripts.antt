-- The escapes in the text of a script.
use Rattle.std.proofs.Common.{◌≡◌, ◌∙◌, ℕ, ◌+◌, true, false, nat_eq, List, [], ◌∷◌, ◌++◌, Result, refl, sym, ap}
use Rattle.std.specs.Prelude.{if◌then◌else◌}
use Rattle.std.specs.Char.{is_ascii_alphabetic}
use Rattle.std.specs.List.{list_all}
use Rattle.std.proofs.lemmas.Bool.{ne_eqb}
use Rattle.markup.specs.declared.fault.ParseFault.{ParseFault}
use Rattle.html_tokens.specs.declared.replies.ProcessResult.{ProcessResult}
use Rattle.html_tokens.specs.declared.states.RawKind.{RawKind}
use Rattle.html_tokens.specs.declared.states.RawKind.TheVariants as raw
use Rattle.html_tokens.specs.declared.states.ScriptEscapeKind.{ScriptEscapeKind}
use Rattle.html_tokens.specs.declared.states.ScriptEscapeKind.TheVariants as script
use Rattle.html_tokens.specs.declared.states.State.TheVariants as state
use Rattle.html_tokens.specs.declared.token.Token.TheVariants.{CharacterTokens}
use Rattle.html_tokens.specs.declared.sink.TokenSink.{Ghosts}
use Rattle.html_tokens.specs.Notes.{Notes, noting}
use Rattle.html_tokens.specs.RawText.{next_kind}
use Rattle.html_tokens.specs.Reading.{◌>>=◌, line_number, line_break}
use Rattle.html_tokens.specs.Sink.{SinkLaws}
use Rattle.html_tokenizer.specs.declared.tokenizer.Tokenizer.{Tokenizer}
use Rattle.html_tokenizer.specs.Rest.{held_at}
use Rattle.html_tokenizer.specs.Steps.{IsAt, TakesAs, Keeps, nothing_owed}
use Rattle.html_tokenizer_parts.specs.Words.{ends_script, kind_after}
use Rattle.html_tokenizer.proofs.Steps.Keeping.{Says, keeps_silent, at}
use Rattle.html_tokenizer.proofs.Steps.Telling.{keeps_taken}
use Rattle.html_tokenizer_parts.proofs.RawKinds.{letter-no_open, letter-no_reference, letter-no_null, kind_after-more}
use Rattle.html_tokenizer_parts.proofs.RawKinds.{kind-script, kind-end_script}
use Rattle.html_tokenizer.proofs.RawText.States.{raw_text, raw-char}

module _ {K H : Type 0} (Sink : Ghosts K H) (laws : SinkLaws Sink.is_sound Sink.step Sink.ended Sink.is_quiet) where
  -- a character is told, and the text has this kind after it
  pub char-says : (old : Tokenizer K) (kind next : RawKind) (b : ℕ) (s : Sink.State × Notes ℕ) → Sink.is_sound s.0
      → (c : ℕ) (t : List ℕ) → nat_eq c 60 ≡ false → nat_eq c 38 ≡ false → nat_eq c 0 ≡ false → next_kind kind c t ≡ next
      → raw_text Sink old kind b s (c ∷ t) ≡ (noting Sink.step Sink.is_quiet s (CharacterTokens (c ∷ []))
      (line_number b) >>= λ p. raw_text Sink old next (b + line_break (nat_eq c 10)) p.0 t)
  char-says old kind next b s h c t e f z k =
      raw-char Sink laws old kind b s h c t e f z
      ∙ ap (λ k. noting Sink.step Sink.is_quiet s (CharacterTokens (c ∷ [])) (line_number b)
      >>= λ p. raw_text Sink old k (b + line_break (nat_eq c 10)) p.0 t) k

  -- what is to come where only the kind is to be known
  pub kind-says : (old : Tokenizer K) (kind next : RawKind) (b : ℕ) (s : Sink.State × Notes ℕ) (t : List ℕ)
      → kind ≡ next → raw_text Sink old kind b s t ≡ raw_text Sink old next b s t
  kind-says old kind next b s t e = ap (λ k. raw_text Sink old k b s t) e

  -- after "<!"
  start-dash : (old : Tokenizer K) → Says Sink (state.ScriptDataEscapeStart script.Escaped) old 45 nothing_owed
      (CharacterTokens (45 ∷ []))
      (λ b s t. at Sink state.ScriptDataEscapeStartDash (record old { state = state.ScriptDataEscapeStartDash })
      (b + line_break (nat_eq 45 10)) s t)
  unfolding held_at
  start-dash old b s h t = char-says old (kind_after raw.ScriptData (60 ∷ 33 ∷ []) (45 ∷ t))
      (kind_after raw.ScriptData (60 ∷ 33 ∷ 45 ∷ []) t) b s h 45 t refl refl refl refl

  pub start-dash_told : (old new : Tokenizer K) (c : ℕ) (result : Result (ProcessResult H) ParseFault)
      → IsAt old (state.ScriptDataEscapeStart script.Escaped) → Sink.is_sound (Sink.view old.sink) → c ≡ 45
      → TakesAs Sink nothing_owed (CharacterTokens (45 ∷ []))
      (record old { state = state.ScriptDataEscapeStartDash }) new result → Keeps Sink old new c result
  start-dash_told old new c result from ok e told =
      rw e (keeps_taken Sink nothing_owed old (record old { state = state.ScriptDataEscapeStartDash }) new 45
      (state.ScriptDataEscapeStart script.Escaped) state.ScriptDataEscapeStartDash (CharacterTokens (45 ∷ []))
      result from (record { state = refl; fresh = from.fresh }) refl refl ok told (start-dash old))

  start-other : (old : Tokenizer K) (c : ℕ) → nat_eq 45 c ≡ false → (b : ℕ) (s : Sink.State × Notes ℕ) (t : List ℕ)
      → at Sink (state.ScriptDataEscapeStart script.Escaped) old b s (c ∷ t) ≡ at Sink
      (state.RawData raw.ScriptData) (record old { state = state.RawData raw.ScriptData }) b s (c ∷ t)
  unfolding held_at
  start-other old c e b s t = kind-says old (kind_after raw.ScriptData (60 ∷ 33 ∷ []) (c ∷ t)) raw.ScriptData b s (c ∷ t) (rw e refl)

  pub start-kept : (old new : Tokenizer K) (c : ℕ) (result : Result (ProcessResult H) ParseFault)
      → IsAt old (state.ScriptDataEscapeStart script.Escaped) → (c ≡ 45 → ⊥)
      → Keeps Sink (record old { state = state.RawData raw.ScriptData }) new c result → Keeps Sink old new c result
  start-kept old new c result from e h = keeps_silent Sink old (record old { state = state.RawData raw.ScriptData })
      new c (state.ScriptDataEscapeStart script.Escaped) (state.RawData raw.ScriptData) result from
      (record { state = refl; fresh = from.fresh }) refl refl (start-other old c (ne_eqb 45 c (λ x. e (sym x)))) h

  -- after "<!-"
  dash-dash : (old : Tokenizer K) → Says Sink state.ScriptDataEscapeStartDash old 45 nothing_owed
      (CharacterTokens (45 ∷ [])) (λ b s t. at Sink (state.ScriptDataEscapedDashDash script.Escaped)
      (record old { state = state.ScriptDataEscapedDashDash script.Escaped }) (b + line_break (nat_eq 45 10)) s t)
  unfolding held_at
  dash-dash old b s h t = char-says old (kind_after raw.ScriptData (60 ∷ 33 ∷ 45 ∷ []) (45 ∷ t))
      (kind_after (raw.ScriptDataEscaped script.Escaped) (45 ∷ 45 ∷ []) t) b s h 45 t refl refl refl refl

  pub dash-dash_told : (old new : Tokenizer K) (c : ℕ) (result : Result (ProcessResult H) ParseFault)
      → IsAt old state.ScriptDataEscapeStartDash → Sink.is_sound (Sink.view old.sink) → c ≡ 45
      → TakesAs Sink nothing_owed (CharacterTokens (45 ∷ []))
      (record old { state = state.ScriptDataEscapedDashDash script.Escaped }) new result → Keeps Sink old new c result
  dash-dash_told old new c result from ok e told =
      rw e (keeps_taken Sink nothing_owed old
      (record old { state = state.ScriptDataEscapedDashDash script.Escaped }) new 45
      state.ScriptDataEscapeStartDash (state.ScriptDataEscapedDashDash script.Escaped) (CharacterTokens (45 ∷ []))
      result from (record { state = refl; fresh = from.fresh }) refl refl ok told (dash-dash old))

  dash-other : (old : Tokenizer K) (c : ℕ) → nat_eq 45 c ≡ false → (b : ℕ) (s : Sink.State × Notes ℕ) (t : List ℕ)
      → at Sink state.ScriptDataEscapeStartDash old b s (c ∷ t) ≡ at Sink (state.RawData raw.ScriptData)
      (record old { state = state.RawData raw.ScriptData }) b s (c ∷ t)
  unfolding held_at
  dash-other old c e b s t = kind-says old (kind_after raw.ScriptData (60 ∷ 33 ∷ 45 ∷ []) (c ∷ t)) raw.ScriptData b s (c ∷ t) (rw e refl)

  pub dash-kept : (old new : Tokenizer K) (c : ℕ) (result : Result (ProcessResult H) ParseFault)
      → IsAt old state.ScriptDataEscapeStartDash → (c ≡ 45 → ⊥)
      → Keeps Sink (record old { state = state.RawData raw.ScriptData }) new c result → Keeps Sink old new c result
  dash-kept old new c result from e h = keeps_silent Sink old (record old { state = state.RawData raw.ScriptData })
      new c state.ScriptDataEscapeStartDash (state.RawData raw.ScriptData) result from
      (record { state = refl; fresh = from.fresh }) refl refl (dash-other old c (ne_eqb 45 c (λ x. e (sym x)))) h

  -- after "-" in escaped text
  escaped-dash : (old : Tokenizer K) (kind : ScriptEscapeKind) → Says Sink (state.ScriptDataEscapedDash kind) old 45
      nothing_owed (CharacterTokens (45 ∷ [])) (λ b s t. at Sink (state.ScriptDataEscapedDashDash kind)
      (record old { state = state.ScriptDataEscapedDashDash kind }) (b + line_break (nat_eq 45 10)) s t)
  unfolding held_at
  escaped-dash old kind b s h t = char-says old (kind_after (raw.ScriptDataEscaped kind) (45 ∷ []) (45 ∷ t))
      (kind_after (raw.ScriptDataEscaped kind) (45 ∷ 45 ∷ []) t) b s h 45 t refl refl refl refl

  pub escaped-dash_told : (old new : Tokenizer K) (kind : ScriptEscapeKind) (c : ℕ)
      (result : Result (ProcessResult H) ParseFault) → IsAt old (state.ScriptDataEscapedDash kind)
      → Sink.is_sound (Sink.view old.sink) → c ≡ 45 → TakesAs Sink nothing_owed (CharacterTokens (45 ∷ []))
      (record old { state = state.ScriptDataEscapedDashDash kind }) new result → Keeps Sink old new c result
  escaped-dash_told old new kind c result from ok e told =
      rw e (keeps_taken Sink nothing_owed old (record old { state = state.ScriptDataEscapedDashDash kind }) new 45
      (state.ScriptDataEscapedDash kind) (state.ScriptDataEscapedDashDash kind) (CharacterTokens (45 ∷ [])) result
      from (record { state = refl; fresh = from.fresh }) refl refl ok told (escaped-dash old kind))

  escaped-kind : (kind : ScriptEscapeKind) (c : ℕ) (t : List ℕ) → nat_eq 45 c ≡ false
      → next_kind (raw.ScriptDataEscaped kind) 45 (c ∷ t) ≡ raw.ScriptDataEscaped kind
  escaped-kind script.Escaped c t e = rw e refl
  escaped-kind script.DoubleEscaped c t e = rw e refl

  escaped-other : (old : Tokenizer K) (kind : ScriptEscapeKind) (c : ℕ) → nat_eq 45 c ≡ false
      → (b : ℕ) (s : Sink.State × Notes ℕ) (t : List ℕ) → at Sink (state.ScriptDataEscapedDash kind) old b s
      (c ∷ t) ≡ at Sink (state.RawData (raw.ScriptDataEscaped kind))
      (record old { state = state.RawData (raw.ScriptDataEscaped kind) }) b s (c ∷ t)
  unfolding held_at
  escaped-other old kind c e b s t = kind-says old (kind_after (raw.ScriptDataEscaped kind) (45 ∷ []) (c ∷ t))
      (raw.ScriptDataEscaped kind) b s (c ∷ t) (escaped-kind kind c t e)

  pub escaped-kept : (old new : Tokenizer K) (kind : ScriptEscapeKind) (c : ℕ)
      (result : Result (ProcessResult H) ParseFault) → IsAt old (state.ScriptDataEscapedDash kind) → (c ≡ 45 → ⊥)
      → Keeps Sink (record old { state = state.RawData (raw.ScriptDataEscaped kind) }) new c result → Keeps Sink old new c result
  escaped-kept old new kind c result from e h = keeps_silent Sink old
      (record old { state = state.RawData (raw.ScriptDataEscaped kind) }) new c (state.ScriptDataEscapedDash kind)
      (state.RawData (raw.ScriptDataEscaped kind)) result from (record { state = refl; fresh = from.fresh }) refl
      refl (escaped-other old kind c (ne_eqb 45 c (λ x. e (sym x)))) h

  -- after "--" in escaped text
  dashes-kind : (kind : ScriptEscapeKind) (t : List ℕ) → kind_after (raw.ScriptDataEscaped kind) (45 ∷ 45 ∷ 45 ∷ [])
      t ≡ kind_after (raw.ScriptDataEscaped kind) (45 ∷ 45 ∷ []) t
  dashes-kind script.Escaped t = refl
  dashes-kind script.DoubleEscaped t = refl

  dashes-dash : (old : Tokenizer K) (kind : ScriptEscapeKind) → Says Sink (state.ScriptDataEscapedDashDash kind) old
      45 nothing_owed (CharacterTokens (45 ∷ [])) (λ b s t. at Sink (state.ScriptDataEscapedDashDash kind) old
      (b + line_break (nat_eq 45 10)) s t)
  unfolding held_at
  dashes-dash old kind b s h t = char-says old (kind_after (raw.ScriptDataEscaped kind) (45 ∷ 45 ∷ []) (45 ∷ t))
      (kind_after (raw.ScriptDataEscaped kind) (45 ∷ 45 ∷ []) t) b s h 45 t refl refl refl (dashes-kind kind t)

  pub dashes-dash_told : (old new : Tokenizer K) (kind : ScriptEscapeKind) (c : ℕ)
      (result : Result (ProcessResult H) ParseFault) → IsAt old (state.ScriptDataEscapedDashDash kind)
      → Sink.is_sound (Sink.view old.sink) → c ≡ 45 → TakesAs Sink nothing_owed (CharacterTokens (45 ∷ [])) old new
      result → Keeps Sink old new c result
  dashes-dash_told old new kind c result from ok e told =
      rw e (keeps_taken Sink nothing_owed old old new 45 (state.ScriptDataEscapedDashDash kind)
      (state.ScriptDataEscapedDashDash kind) (CharacterTokens (45 ∷ [])) result from from refl refl ok told (dashes-dash old kind))

  closed-kind : (kind : ScriptEscapeKind) (t : List ℕ)
      → next_kind (kind_after (raw.ScriptDataEscaped kind) (45 ∷ 45 ∷ []) (62 ∷ t)) 62 t ≡ raw.ScriptData
  closed-kind script.Escaped t = refl
  closed-kind script.DoubleEscaped t = refl

  dashes-close : (old : Tokenizer K) (kind : ScriptEscapeKind) → Says Sink (state.ScriptDataEscapedDashDash kind)
      old 62 nothing_owed (CharacterTokens (62 ∷ []))
      (λ b s t. at Sink (state.RawData raw.ScriptData) (record old { state = state.RawData raw.ScriptData })
      (b + line_break (nat_eq 62 10)) s t)
  unfolding held_at
  dashes-close old kind b s h t = char-says old (kind_after (raw.ScriptDataEscaped kind) (45 ∷ 45 ∷ []) (62 ∷ t))
      raw.ScriptData b s h 62 t refl refl refl (closed-kind kind t)

  pub dashes-closed : (old new : Tokenizer K) (kind : ScriptEscapeKind) (c : ℕ)
      (result : Result (ProcessResult H) ParseFault) → IsAt old (state.ScriptDataEscapedDashDash kind)
      → Sink.is_sound (Sink.view old.sink) → c ≡ 62 → TakesAs Sink nothing_owed (CharacterTokens (62 ∷ []))
      (record old { state = state.RawData raw.ScriptData }) new result → Keeps Sink old new c result
  dashes-closed old new kind c result from ok e told =
      rw e (keeps_taken Sink nothing_owed old (record old { state = state.RawData raw.ScriptData }) new 62
      (state.ScriptDataEscapedDashDash kind) (state.RawData raw.ScriptData) (CharacterTokens (62 ∷ [])) result
      from (record { state = refl; fresh = from.fresh }) refl refl ok told (dashes-close old kind))

  open-kind : (kind : ScriptEscapeKind) (c : ℕ) (t : List ℕ) → nat_eq 45 c ≡ false → nat_eq 62 c ≡ false
      → kind_after (raw.ScriptDataEscaped kind) (45 ∷ 45 ∷ []) (c ∷ t) ≡ raw.ScriptDataEscaped kind
  open-kind script.Escaped c t e f = rw (f, e) refl
  open-kind script.DoubleEscaped c t e f = rw (f, e) refl

  dashes-other : (old : Tokenizer K) (kind : ScriptEscapeKind) (c : ℕ) → nat_eq 45 c ≡ false → nat_eq 62 c ≡ false
      → (b : ℕ) (s : Sink.State × Notes ℕ) (t : List ℕ) → at Sink (state.ScriptDataEscapedDashDash kind) old b s
      (c ∷ t) ≡ at Sink (state.RawData (raw.ScriptDataEscaped kind))
      (record old { state = state.RawData (raw.ScriptDataEscaped kind) }) b s (c ∷ t)
  unfolding held_at
  dashes-other old kind c e f b s t = kind-says old (kind_after (raw.ScriptDataEscaped kind) (45 ∷ 45 ∷ []) (c ∷ t))
      (raw.ScriptDataEscaped kind) b s (c ∷ t) (open-kind kind c t e f)

  pub dashes-kept : (old new : Tokenizer K) (kind : ScriptEscapeKind) (c : ℕ)
      (result : Result (ProcessResult H) ParseFault) → IsAt old (state.ScriptDataEscapedDashDash kind)
      → (c ≡ 45 → ⊥) → (c ≡ 62 → ⊥) → Keeps Sink (record old { state = state.RawData (raw.ScriptDataEscaped kind) })
      new c result → Keeps Sink old new c result
  dashes-kept old new kind c result from e f h = keeps_silent Sink old
      (record old { state = state.RawData (raw.ScriptDataEscaped kind) }) new c
      (state.ScriptDataEscapedDashDash kind) (state.RawData (raw.ScriptDataEscaped kind)) result from
      (record { state = refl; fresh = from.fresh }) refl refl
      (dashes-other old kind c (ne_eqb 45 c (λ x. e (sym x))) (ne_eqb 62 c (λ x. f (sym x)))) h

  -- in the word after "<"
  word-letter : (old : Tokenizer K) (word : List ℕ) (c : ℕ) → is_ascii_alphabetic c ≡ true → word ≡ old.word ++ c ∷
      [] → Says Sink (state.ScriptDataEscapeStart script.DoubleEscaped) old c nothing_owed
      (CharacterTokens (c ∷ [])) (λ b s t. at Sink (state.ScriptDataEscapeStart script.DoubleEscaped)
      (record old { word = word }) (b + line_break (nat_eq c 10)) s t)
  unfolding held_at
  word-letter old word c l e b s h t =
      let kind = raw.ScriptDataEscaped script.Escaped in
      char-says old (kind_after kind (60 ∷ old.word) (c ∷ t)) (kind_after kind (60 ∷ word) t) b s h c t
      (letter-no_open c l) (letter-no_reference c l) (letter-no_null c l)
      (sym (kind_after-more kind (60 ∷ old.word) c t) ∙ ap (λ w. kind_after kind (60 ∷ w) t) (sym e))

  pub word-letter_told : (old new : Tokenizer K) (word : List ℕ) (c : ℕ)
      (result : Result (ProcessResult H) ParseFault) → IsAt old (state.ScriptDataEscapeStart script.DoubleEscaped)
      → Sink.is_sound (Sink.view old.sink) → is_ascii_alphabetic c ≡ true → word ≡ old.word ++ c ∷
      [] → TakesAs Sink nothing_owed (CharacterTokens (c ∷ [])) (record old { word = word }) new result → Keeps Sink old new c result
  word-letter_told old new word c result from ok l e told = keeps_taken Sink nothing_owed old
      (record old { word = word }) new c (state.ScriptDataEscapeStart script.DoubleEscaped)
      (state.ScriptDataEscapeStart script.DoubleEscaped) (CharacterTokens (c ∷ [])) result from
      (record { state = from.state; fresh = from.fresh }) refl refl ok told (word-letter old word c l e)

  word-other : (old : Tokenizer K) (kind : RawKind) (c : ℕ) → list_all is_ascii_alphabetic old.word ≡ true
      → is_ascii_alphabetic c ≡ false → kind ≡ raw.ScriptDataEscaped
      (if ends_script old.word c then script.DoubleEscaped else script.Escaped) → (b : ℕ) (s : Sink.State × Notes ℕ) (t : List ℕ)
      → at Sink (state.ScriptDataEscapeStart script.DoubleEscaped) old b s (c ∷ t) ≡ at Sink (state.RawData kind)
      (record old { state = state.RawData kind }) b s (c ∷ t)
  unfolding held_at
  word-other old kind c w l e b s t =
      kind-says old (kind_after (raw.ScriptDataEscaped script.Escaped) (60 ∷ old.word) (c ∷ t)) kind b s (c ∷ t)
      (kind-script old.word c t w l ∙ sym e)

  pub word-kept : (old new : Tokenizer K) (kind : RawKind) (c : ℕ) (result : Result (ProcessResult H) ParseFault)
      → IsAt old (state.ScriptDataEscapeStart script.DoubleEscaped) → list_all is_ascii_alphabetic old.word ≡ true
      → is_ascii_alphabetic c ≡ false
      → kind ≡ raw.ScriptDataEscaped (if ends_script old.word c then script.DoubleEscaped else script.Escaped)
      → Keeps Sink (record old { state = state.RawData kind }) new c result → Keeps Sink old new c result
  word-kept old new kind c result from w l e h = keeps_silent Sink old (record old { state = state.RawData kind })
      new c (state.ScriptDataEscapeStart script.DoubleEscaped) (state.RawData kind) result from
      (record { state = refl; fresh = from.fresh }) refl refl (word-other old kind c w l e) h

  -- in the word after "</" in text that is escaped twice
  end_word-letter : (old : Tokenizer K) (word : List ℕ) (c : ℕ) → is_ascii_alphabetic c ≡ true → word ≡ old.word
      ++ c ∷ [] → Says Sink state.ScriptDataDoubleEscapeEnd old c nothing_owed (CharacterTokens (c ∷ []))
      (λ b s t. at Sink state.ScriptDataDoubleEscapeEnd (record old { word = word }) (b + line_break (nat_eq c 10)) s t)
  unfolding held_at
  end_word-letter old word c l e b s h t =
      let kind = raw.ScriptDataEscaped script.DoubleEscaped in
      char-says old (kind_after kind (60 ∷ 47 ∷ old.word) (c ∷ t)) (kind_after kind (60 ∷ 47 ∷ word) t) b s h c t
      (letter-no_open c l) (letter-no_reference c l) (letter-no_null c l)
      (sym (kind_after-more kind (60 ∷ 47 ∷ old.word) c t) ∙ ap (λ w. kind_after kind (60 ∷ 47 ∷ w) t) (sym e))

  pub end_word-letter_told : (old new : Tokenizer K) (word : List ℕ) (c : ℕ)
      (result : Result (ProcessResult H) ParseFault) → IsAt old state.ScriptDataDoubleEscapeEnd
      → Sink.is_sound (Sink.view old.sink) → is_ascii_alphabetic c ≡ true → word ≡ old.word ++ c ∷
      [] → TakesAs Sink nothing_owed (CharacterTokens (c ∷ [])) (record old { word = word }) new result → Keeps Sink old new c result
  end_word-letter_told old new word c result from ok l e told = keeps_taken Sink nothing_owed old
      (record old { word = word }) new c state.ScriptDataDoubleEscapeEnd state.ScriptDataDoubleEscapeEnd
      (CharacterTokens (c ∷ [])) result from (record { state = from.state; fresh = from.fresh }) refl refl ok told
      (end_word-letter old word c l e)

  end_word-other : (old : Tokenizer K) (kind : RawKind) (c : ℕ) → list_all is_ascii_alphabetic old.word ≡ true
      → is_ascii_alphabetic c ≡ false → kind ≡ raw.ScriptDataEscaped
      (if ends_script old.word c then script.Escaped else script.DoubleEscaped) → (b : ℕ) (s : Sink.State × Notes ℕ) (t : List ℕ)
      → at Sink state.ScriptDataDoubleEscapeEnd old b s (c ∷ t) ≡ at Sink (state.RawData kind)
      (record old { state = state.RawData kind }) b s (c ∷ t)
  unfolding held_at
  end_word-other old kind c w l e b s t =
      kind-says old (kind_after (raw.ScriptDataEscaped script.DoubleEscaped) (60 ∷ 47 ∷ old.word) (c ∷ t)) kind b s
      (c ∷ t) (kind-end_script old.word c t w l ∙ sym e)

  pub end_word-kept : (old new : Tokenizer K) (kind : RawKind) (c : ℕ)
      (result : Result (ProcessResult H) ParseFault) → IsAt old state.ScriptDataDoubleEscapeEnd
      → list_all is_ascii_alphabetic old.word ≡ true → is_ascii_alphabetic c ≡ false
      → kind ≡ raw.ScriptDataEscaped (if ends_script old.word c then script.Escaped else script.DoubleEscaped)
      → Keeps Sink (record old { state = state.RawData kind }) new c result → Keeps Sink old new c result
  end_word-kept old new kind c result from w l e h = keeps_silent Sink old
      (record old { state = state.RawData kind }) new c state.ScriptDataDoubleEscapeEnd (state.RawData kind) result
      from (record { state = refl; fresh = from.fresh }) refl refl (end_word-other old kind c w l e) h
