-- Characters of raw text.
use Rattle.std.proofs.Common.{◌≡◌, ◌∙◌, ℕ, ◌+◌, Bool, true, false, nat_eq, List, [], ◌∷◌, Some, Result, refl, sym, ap, inl, inr}
use Rattle.std.specs.Prelude.{◌&&◌, ◌⊎◌}
use Rattle.std.proofs.lemmas.Bool.{ne_eqb}
use Rattle.markup.specs.declared.fault.ParseFault.{ParseFault}
use Rattle.html_tokens.specs.declared.replies.ProcessResult.{ProcessResult}
use Rattle.html_tokens.specs.declared.replies.ProcessResult.TheVariants as flow
use Rattle.html_tokens.specs.declared.states.RawKind.{RawKind}
use Rattle.html_tokens.specs.declared.states.RawKind.TheVariants as raw
use Rattle.html_tokens.specs.declared.states.ScriptEscapeKind.{ScriptEscapeKind}
use Rattle.html_tokens.specs.declared.states.ScriptEscapeKind.TheVariants as script
use Rattle.html_tokens.specs.declared.states.State.TheVariants as state
use Rattle.html_tokens.specs.declared.token.Token.TheVariants.{CharacterTokens}
use Rattle.html_tokens.specs.declared.sink.TokenSink.{Ghosts}
use Rattle.html_tokens.specs.Characters.{shown}
use Rattle.html_tokens.specs.Notes.{Notes, noting}
use Rattle.html_tokens.specs.Item.{grave_if, InRaw, character, shown_character}
use Rattle.html_tokens.specs.Items.{item}
use Rattle.html_tokens.specs.RawText.{is_fitting_end, ends_at_tag, has_references, next_kind}
use Rattle.html_tokens.specs.Reading.{◌>>=◌, line_number, line_break}
use Rattle.html_tokens.specs.Sink.{Refusal, SinkLaws}
use Rattle.html_tokenizer_parts.specs.CharRefs.{may_hold}
use Rattle.html_tokenizer_parts.specs.declared.held_reference.Ampersand.TheVariants.{Held}
use Rattle.html_tokenizer.specs.declared.tokenizer.Tokenizer.{Tokenizer}
use Rattle.html_tokenizer.specs.Rest.{rows_of, standing, held_at}
use Rattle.html_tokenizer.specs.Steps.{IsAt, TakesAs, Took, Keeps, nothing_owed, owed_for, reads}
use Rattle.html_tokenizer.proofs.Steps.Lawful.{noting-lawful}
use Rattle.html_tokenizer.proofs.Steps.Readings.{reading-char, sum-zero}
use Rattle.html_tokenizer.proofs.Steps.Keeping.{Says, took, at}
use Rattle.html_tokenizer.proofs.Steps.Telling.{keeps_taken, took_reference}
use Rattle.html_tokenizer.proofs.Text.ShownTexts.{reading-shown}
use Rattle.html_tokenizer_parts.proofs.RawKinds.{kind-same, kind-dash, double_escaped}
use Rattle.html_tokenizer.specs.Listeners.{listening}

-- a character of raw text that begins no end tag and no reference
pub raw-item : {K : Type 0} (k : Tokenizer K) (kind : RawKind) (x : Bool) (c : ℕ) (t : List ℕ)
    → (nat_eq c 60 && ends_at_tag kind && is_fitting_end k.raw_end.name t) ≡ false → (nat_eq c 38 && has_references kind) ≡ false
    → item (rows_of k) x (standing k (InRaw kind)) c t ≡ shown_character c (standing k (InRaw (next_kind kind c t)))
raw-item k kind x c t e f = rw (e, f) refl

pub plain-item : {K : Type 0} (k : Tokenizer K) (kind : RawKind) (x : Bool) (c : ℕ) (t : List ℕ)
    → nat_eq c 60 ≡ false → nat_eq c 38 ≡ false → nat_eq c 0 ≡ false
    → item (rows_of k) x (standing k (InRaw kind)) c t ≡ character c (standing k (InRaw (next_kind kind c t)))
plain-item k kind x c t e f z = rw (e, f, z) refl

unescaped : (kind : RawKind) → (kind ≡ raw.Rcdata) ⊎ ((kind ≡ raw.Rawtext) ⊎ (kind ≡ raw.ScriptData))
    → (escape : ScriptEscapeKind) → kind ≡ raw.ScriptDataEscaped escape → ⊥
unescaped kind (inl e) _ h = cc
unescaped kind (inr (inl e)) _ h = cc
unescaped kind (inr (inr e)) _ h = cc

-- "<" that is text
pub open-item : {K : Type 0} (k : Tokenizer K) (kind : RawKind) (x : Bool) (t : List ℕ)
    → (ends_at_tag kind && is_fitting_end k.raw_end.name t) ≡ false
    → item (rows_of k) x (standing k (InRaw kind)) 60 t ≡ character 60 (standing k (InRaw (next_kind kind 60 t)))
open-item k kind x t e = rw e refl

-- text with references may hold one
rcdata-holds : (kind : RawKind) → has_references kind ≡ true → may_hold (state.RawData kind) ≡ true
rcdata-holds raw.Rcdata h = refl
rcdata-holds raw.Rawtext h = absurd cc
rcdata-holds raw.ScriptData h = absurd cc
rcdata-holds (raw.ScriptDataEscaped _) h = absurd cc

module _ {K H : Type 0} (Sink : Ghosts K H) where
  -- what raw text makes of the sink
  abbrev pub raw_text : Tokenizer K → RawKind → ℕ → Sink.State × Notes ℕ → List ℕ → Result (Sink.State × Notes ℕ) (Refusal × ℕ)
  raw_text k kind b s t = reads Sink (rows_of k) (standing k (InRaw kind)) b s t

  -- what is to come where "<" is held
  pub held-open : (k : Tokenizer K) (kind : RawKind) (b : ℕ) (s : Sink.State × Notes ℕ) (t : List ℕ)
      → ends_at_tag kind ≡ true → at Sink (state.RawLessThanSign kind) k b s t ≡ raw_text k kind b s (60 ∷ t)
  unfolding held_at
  held-open k raw.Rcdata b s t e = refl
  held-open k raw.Rawtext b s t e = refl
  held-open k raw.ScriptData b s t e = refl
  held-open k (raw.ScriptDataEscaped script.Escaped) b s t e = refl
  held-open k (raw.ScriptDataEscaped script.DoubleEscaped) b s t e = absurd cc

module _ {K H : Type 0} (Sink : Ghosts K H) (laws : SinkLaws Sink.is_sound Sink.step Sink.ended Sink.is_quiet) where
  -- a character that is told, by the kind that the text has there
  pub raw-char : (old : Tokenizer K) (kind : RawKind) (b : ℕ) (s : Sink.State × Notes ℕ) → Sink.is_sound s.0
      → (c : ℕ) (t : List ℕ) → nat_eq c 60 ≡ false → nat_eq c 38 ≡ false → nat_eq c 0 ≡ false
      → raw_text Sink old kind b s (c ∷ t) ≡ (noting Sink.step Sink.is_quiet s (CharacterTokens (c ∷ []))
      (line_number b) >>= λ p. raw_text Sink old (next_kind kind c t) (b + line_break (nat_eq c 10)) p.0 t)
  raw-char old kind b s h c t e f z = reading-char (λ p. Sink.is_sound p.0) (listening Sink) (rows_of old)
      (noting-lawful Sink.is_sound Sink.step Sink.ended Sink.is_quiet laws) (standing old (InRaw kind))
      (standing old (InRaw (next_kind kind c t))) b s h c c t (line_number b) (plain-item old kind (Sink.asks_cdata s.0) c t e f z)

  pub shown-says : (old : Tokenizer K) (kind : RawKind) (c : ℕ) → nat_eq c 60 ≡ false → nat_eq c 38 ≡ false
      → nat_eq c 45 ≡ false → Says Sink (state.RawData kind) old c (owed_for (grave_if (nat_eq c 0)))
      (CharacterTokens (shown c ∷ [])) (λ b s t. at Sink (state.RawData kind) old (b + line_break (nat_eq c 10)) s t)
  unfolding held_at
  shown-says old kind c e f d b s h t =
      reading-shown Sink.step Sink.asks_cdata Sink.ended Sink.is_sound Sink.is_quiet laws (rows_of old)
      (standing old (InRaw kind)) (standing old (InRaw kind)) b s h c t
      (raw-item old kind (Sink.asks_cdata s.0) c t (rw e refl) (rw f refl)
      ∙ ap (λ kind. shown_character c (standing old (InRaw kind))) (kind-same kind c t e d))

  -- a character of text was taken
  pub raw-kept : (old new : Tokenizer K) (kind : RawKind) (c : ℕ) (result : Result (ProcessResult H) ParseFault)
      → IsAt old (state.RawData kind) → Sink.is_sound (Sink.view old.sink) → (c ≡ 60 → ⊥) → (c ≡ 38 → ⊥)
      → (c ≡ 45 → ⊥) → TakesAs Sink (owed_for (grave_if (nat_eq c 0))) (CharacterTokens (shown c ∷ [])) old new
      result → Keeps Sink old new c result
  raw-kept old new kind c result from ok e f d told = keeps_taken Sink (owed_for (grave_if (nat_eq c 0))) old old
      new c (state.RawData kind) (state.RawData kind) (CharacterTokens (shown c ∷ [])) result from from refl refl ok
      told (shown-says old kind c (ne_eqb c 60 e) (ne_eqb c 38 f) (ne_eqb c 45 d))

  -- "<" was taken, which is held
  pub raw-opened : (old : Tokenizer K) (kind : RawKind) → IsAt old (state.RawData kind)
      → Sink.is_sound (Sink.view old.sink) → ends_at_tag kind ≡ true
      → Took Sink old (record old { state = state.RawLessThanSign kind }) 60 flow.Continue
  unfolding held_at
  raw-opened old kind from ok e = took Sink old (record old { state = state.RawLessThanSign kind }) 60
      (state.RawData kind) (state.RawLessThanSign kind) from (record { state = refl; fresh = from.fresh }) refl refl ok
      (λ b s t. ap (λ n. raw_text Sink old kind n s (60 ∷ t)) (sym (sum-zero b))
      ∙ sym (held-open Sink (record old { state = state.RawLessThanSign kind }) kind (b + 0) s t e))

  -- "<" was told in text that is escaped twice
  open-says : (old : Tokenizer K) → Says Sink (state.RawData (raw.ScriptDataEscaped script.DoubleEscaped)) old 60
      nothing_owed (CharacterTokens (60 ∷ []))
      (λ b s t. at Sink (state.RawLessThanSign (raw.ScriptDataEscaped script.DoubleEscaped))
      (record old { state = state.RawLessThanSign (raw.ScriptDataEscaped script.DoubleEscaped) }) (b + line_break (nat_eq 60 10)) s t)
  unfolding held_at
  open-says old b s h t =
      let kind = raw.ScriptDataEscaped script.DoubleEscaped in
      reading-char (λ p. Sink.is_sound p.0) (listening Sink) (rows_of old)
      (noting-lawful Sink.is_sound Sink.step Sink.ended Sink.is_quiet laws) (standing old (InRaw kind))
      (standing old (InRaw (next_kind kind 60 t))) b s h 60 60 t (line_number b) refl

  pub raw-open_told : (old new : Tokenizer K) (kind : RawKind) (result : Result (ProcessResult H) ParseFault)
      → IsAt old (state.RawData kind) → Sink.is_sound (Sink.view old.sink) → ends_at_tag kind ≡ false
      → TakesAs Sink nothing_owed (CharacterTokens (60 ∷ [])) (record old { state = state.RawLessThanSign kind })
      new result → Keeps Sink old new 60 result
  raw-open_told old new kind result from ok e told =
      let deep = raw.ScriptDataEscaped script.DoubleEscaped in
      let is : kind ≡ deep = double_escaped kind e in
      keeps_taken Sink nothing_owed old (record old { state = state.RawLessThanSign deep }) new 60
      (state.RawData deep) (state.RawLessThanSign deep) (CharacterTokens (60 ∷ [])) result (rw is at from)
      (record { state = refl; fresh = from.fresh }) refl refl ok (rw is at told) (open-says old)

  -- "&" was taken, which is held
  pub raw-reference : (old : Tokenizer K) (kind : RawKind) (begun : List ℕ) → IsAt old (state.RawData kind)
      → Sink.is_sound (Sink.view old.sink) → has_references kind ≡ true → begun ≡ []
      → Took Sink old (record old { char_ref = Some (Held begun) }) 38 flow.Continue
  unfolding held_at
  raw-reference old kind begun from ok e is =
      rw is (took_reference Sink old (record old { char_ref = Some (Held []) }) 38 (state.RawData kind) from
      (rcdata-holds kind e) refl from.state refl refl refl ok (λ b s t. refl))

  amp-says : (old : Tokenizer K) (kind : RawKind) → has_references kind ≡ false → Says Sink (state.RawData kind) old
      38 nothing_owed (CharacterTokens (38 ∷ [])) (λ b s t. at Sink (state.RawData kind) old (b + line_break (nat_eq 38 10)) s t)
  unfolding held_at
  amp-says old kind e b s h t =
      reading-char (λ p. Sink.is_sound p.0) (listening Sink) (rows_of old)
      (noting-lawful Sink.is_sound Sink.step Sink.ended Sink.is_quiet laws) (standing old (InRaw kind))
      (standing old (InRaw kind)) b s h 38 38 t (line_number b)
      (raw-item old kind (Sink.asks_cdata s.0) 38 t refl e ∙ ap (λ kind. character 38 (standing old (InRaw kind)))
      (kind-same kind 38 t refl refl))

  pub raw-amp_told : (old new : Tokenizer K) (kind : RawKind) (result : Result (ProcessResult H) ParseFault)
      → IsAt old (state.RawData kind) → Sink.is_sound (Sink.view old.sink) → has_references kind ≡ false
      → TakesAs Sink nothing_owed (CharacterTokens (38 ∷ [])) old new result → Keeps Sink old new 38 result
  raw-amp_told old new kind result from ok e told = keeps_taken Sink nothing_owed old old new 38
      (state.RawData kind) (state.RawData kind) (CharacterTokens (38 ∷ [])) result from from refl refl ok told (amp-says old kind e)

  -- "-" was told
  dash-says : (old : Tokenizer K) (kind : RawKind)
      → ((escape : ScriptEscapeKind) → kind ≡ raw.ScriptDataEscaped escape → ⊥) → Says Sink (state.RawData kind) old
      45 nothing_owed (CharacterTokens (45 ∷ [])) (λ b s t. at Sink (state.RawData kind) old (b + line_break (nat_eq 45 10)) s t)
  unfolding held_at
  dash-says old kind e b s h t =
      raw-char old kind b s h 45 t refl refl refl
      ∙ ap (λ k. noting Sink.step Sink.is_quiet s (CharacterTokens (45 ∷ [])) (line_number b)
      >>= λ p. raw_text Sink old k (b + line_break (nat_eq 45 10)) p.0 t) (kind-dash kind t e)

  pub raw-dash_told : (old new : Tokenizer K) (kind : RawKind) (result : Result (ProcessResult H) ParseFault)
      → IsAt old (state.RawData kind) → Sink.is_sound (Sink.view old.sink) → (kind ≡ raw.Rcdata)
      ⊎ ((kind ≡ raw.Rawtext) ⊎ (kind ≡ raw.ScriptData)) → TakesAs Sink nothing_owed (CharacterTokens (45 ∷ [])) old
      new result → Keeps Sink old new 45 result
  raw-dash_told old new kind result from ok e told = keeps_taken Sink nothing_owed old old new 45
      (state.RawData kind) (state.RawData kind) (CharacterTokens (45 ∷ [])) result from from refl refl ok told
      (dash-says old kind (unescaped kind e))

  escaped_dash-says : (old : Tokenizer K) (escape : ScriptEscapeKind)
      → Says Sink (state.RawData (raw.ScriptDataEscaped escape)) old 45 nothing_owed (CharacterTokens (45 ∷ []))
      (λ b s t. at Sink (state.ScriptDataEscapedDash escape)
      (record old { state = state.ScriptDataEscapedDash escape }) (b + line_break (nat_eq 45 10)) s t)
  unfolding held_at
  escaped_dash-says old escape b s h t = raw-char old (raw.ScriptDataEscaped escape) b s h 45 t refl refl refl

  pub raw-escaped_dash : (old new : Tokenizer K) (kind : RawKind) (escape : ScriptEscapeKind)
      (result : Result (ProcessResult H) ParseFault) → IsAt old (state.RawData kind)
      → Sink.is_sound (Sink.view old.sink) → kind ≡ raw.ScriptDataEscaped escape → TakesAs Sink nothing_owed
      (CharacterTokens (45 ∷ [])) (record old { state = state.ScriptDataEscapedDash escape }) new result → Keeps Sink old new 45 result
  raw-escaped_dash old new kind escape result from ok is told =
      keeps_taken Sink nothing_owed old (record old { state = state.ScriptDataEscapedDash escape }) new 45
      (state.RawData (raw.ScriptDataEscaped escape)) (state.ScriptDataEscapedDash escape)
      (CharacterTokens (45 ∷ [])) result (rw is at from) (record { state = refl; fresh = from.fresh }) refl refl
      ok told (escaped_dash-says old escape)
