-- Text outside of raw text.
use Rattle.std.proofs.Common.{◌≡◌, ℕ, ◌+◌, false, nat_eq, List, [], ◌∷◌, Some, Result, refl, sym, ap}
use Rattle.std.proofs.lemmas.Bool.{ne_eqb}
use Rattle.markup.specs.declared.fault.ParseFault.{ParseFault}
use Rattle.html_tokens.specs.declared.replies.ProcessResult.{ProcessResult}
use Rattle.html_tokens.specs.declared.replies.ProcessResult.TheVariants as flow
use Rattle.html_tokens.specs.declared.states.State.TheVariants as state
use Rattle.html_tokens.specs.declared.token.Token.TheVariants.{CharacterTokens, NullCharacterToken}
use Rattle.html_tokens.specs.declared.sink.TokenSink.{Ghosts}
use Rattle.html_tokens.specs.Characters.{shown}
use Rattle.html_tokens.specs.Item.{Grave, grave_if, InData, InPlaintext}
use Rattle.html_tokens.specs.Reading.{line_number, line_break}
use Rattle.html_tokens.specs.Sink.{SinkLaws}
use Rattle.html_tokenizer_parts.specs.declared.held_reference.Ampersand.TheVariants.{Held}
use Rattle.html_tokenizer.specs.declared.tokenizer.Tokenizer.{Tokenizer}
use Rattle.html_tokenizer.specs.Rest.{rows_of, standing, held_at}
use Rattle.html_tokenizer.specs.Steps.{IsAt, TakesAs, Took, Keeps, nothing_owed, a_fault, owed_for, reads}
use Rattle.html_tokenizer.proofs.Steps.Lawful.{noting-lawful}
use Rattle.html_tokenizer.proofs.Steps.Readings.{reading-char, sum-zero}
use Rattle.html_tokenizer.proofs.Steps.Runs.{reading-token}
use Rattle.html_tokenizer.proofs.Text.ShownTexts.{reading-shown}
use Rattle.html_tokenizer.proofs.Steps.Keeping.{Says, took, at}
use Rattle.html_tokenizer.proofs.Steps.Telling.{keeps_taken, took_reference}
use Rattle.html_tokenizer.specs.Listeners.{listening}

module _ {K H : Type 0} (Sink : Ghosts K H) (laws : SinkLaws Sink.is_sound Sink.step Sink.ended Sink.is_quiet) where
  plaintext-says : (old : Tokenizer K) (c : ℕ) → Says Sink state.Plaintext old c (owed_for (grave_if (nat_eq c 0)))
      (CharacterTokens (shown c ∷ [])) (λ b s t. at Sink state.Plaintext old (b + line_break (nat_eq c 10)) s t)
  unfolding held_at
  plaintext-says old c b s h t =
      let plain = standing old InPlaintext in
      reading-shown Sink.step Sink.asks_cdata Sink.ended Sink.is_sound Sink.is_quiet laws (rows_of old) plain plain b s h c t refl

  pub plaintext-kept : (old new : Tokenizer K) (c : ℕ) (result : Result (ProcessResult H) ParseFault)
      → IsAt old state.Plaintext → Sink.is_sound (Sink.view old.sink)
      → TakesAs Sink (owed_for (grave_if (nat_eq c 0))) (CharacterTokens (shown c ∷ [])) old new result → Keeps Sink old new c result
  plaintext-kept old new c result from ok told = keeps_taken Sink (owed_for (grave_if (nat_eq c 0))) old old new c
      state.Plaintext state.Plaintext (CharacterTokens (shown c ∷ [])) result from from refl refl ok told (plaintext-says old c)

  pub data-char : (old : Tokenizer K) (c : ℕ) → nat_eq c 60 ≡ false → nat_eq c 38 ≡ false → nat_eq c 0 ≡ false
      → Says Sink state.Data old c nothing_owed (CharacterTokens (c ∷ []))
      (λ b s t. at Sink state.Data old (b + line_break (nat_eq c 10)) s t)
  unfolding held_at
  data-char old c f g z b s h t =
      let plain = standing old InData in
      reading-char (λ p. Sink.is_sound p.0) (listening Sink) (rows_of old)
      (noting-lawful Sink.is_sound Sink.step Sink.ended Sink.is_quiet laws) plain plain b s h c c t (line_number b) (rw (f, g, z) refl)

  data-null : (old : Tokenizer K) → Says Sink state.Data old 0 a_fault NullCharacterToken
      (λ b s t. at Sink state.Data old (b + line_break (nat_eq 0 10)) s t)
  unfolding held_at
  data-null old b s h t =
      let plain = standing old InData in
      reading-token (λ p. Sink.is_sound p.0) (listening Sink) (rows_of old)
      (noting-lawful Sink.is_sound Sink.step Sink.ended Sink.is_quiet laws) (Some Grave) plain plain b s h 0 t
      NullCharacterToken tt refl refl

  -- a character of text was taken
  pub data-kept : (old new : Tokenizer K) (c : ℕ) (result : Result (ProcessResult H) ParseFault)
      → IsAt old state.Data → Sink.is_sound (Sink.view old.sink) → (c ≡ 60 → ⊥) → (c ≡ 38 → ⊥) → (c ≡ 0 → ⊥)
      → TakesAs Sink nothing_owed (CharacterTokens (c ∷ [])) old new result → Keeps Sink old new c result
  data-kept old new c result from ok f g z told = keeps_taken Sink nothing_owed old old new c state.Data state.Data
      (CharacterTokens (c ∷ [])) result from from refl refl ok told (data-char old c (ne_eqb c 60 f) (ne_eqb c 38 g) (ne_eqb c 0 z))

  -- U+0000 was handed out
  pub data-null_kept : (old new : Tokenizer K) (c : ℕ) (result : Result (ProcessResult H) ParseFault)
      → IsAt old state.Data → Sink.is_sound (Sink.view old.sink) → c ≡ 0 → TakesAs Sink a_fault NullCharacterToken
      old new result → Keeps Sink old new c result
  data-null_kept old new c result from ok z told =
      rw z (keeps_taken Sink a_fault old old new 0 state.Data state.Data NullCharacterToken result from from refl
      refl ok told (data-null old))

  -- "<" was taken, which is held
  pub data-opened : (old : Tokenizer K) (c : ℕ) → IsAt old state.Data → Sink.is_sound (Sink.view old.sink) → c ≡ 60
      → Took Sink old (record old { state = state.TagOpen }) c flow.Continue
  unfolding held_at
  data-opened old c from ok e =
      rw e (took Sink old (record old { state = state.TagOpen }) 60 state.Data state.TagOpen from
      (record { state = refl; fresh = from.fresh }) refl refl ok
      (λ b s t. ap (λ n. reads Sink (rows_of old) (standing old InData) n s (60 ∷ t)) (sym (sum-zero b))))

  -- "&" was taken, which is held
  pub data-reference : (old : Tokenizer K) (c : ℕ) (begun : List ℕ) → IsAt old state.Data
      → Sink.is_sound (Sink.view old.sink) → c ≡ 38 → begun ≡ []
      → Took Sink old (record old { char_ref = Some (Held begun) }) c flow.Continue
  unfolding held_at
  data-reference old c begun from ok e is =
      rw (e, is) (took_reference Sink old (record old { char_ref = Some (Held []) }) 38 state.Data from refl refl
      from.state refl refl refl ok (λ b s t. refl))
