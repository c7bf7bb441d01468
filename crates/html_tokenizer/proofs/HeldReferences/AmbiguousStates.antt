-- The letters and digits of an unknown name after "&".
use Rattle.std.proofs.Common.{◌≡◌, ◌∙◌, ℕ, ◌+◌, true, false, nat_eq, List, [], ◌∷◌, ◌++◌, Some, Result, refl, sym, ap, arith}
use Rattle.std.specs.Prelude.{if◌then◌else◌}
use Rattle.std.specs.Char.{is_ascii_alphanumeric}
use Rattle.std.specs.Result.{IsErrAnd}
use Rattle.std.proofs.lemmas.Bool.{true≢false}
use Rattle.std.proofs.lemmas.Bool.Decides.{nat_tests}
use Rattle.markup.specs.declared.fault.ParseFault.{ParseFault}
use Rattle.html_tokens.specs.declared.replies.ProcessResult.{ProcessResult}
use Rattle.html_tokens.specs.declared.replies.ProcessResult.TheVariants as flow
use Rattle.html_tokens.specs.declared.states.AttrValueKind.{AttrValueKind}
use Rattle.html_tokens.specs.declared.states.AttrValueKind.TheVariants as value
use Rattle.html_tokens.specs.declared.states.RawKind.TheVariants as raw
use Rattle.html_tokens.specs.declared.states.State.{State}
use Rattle.html_tokens.specs.declared.states.State.TheVariants as state
use Rattle.html_tokens.specs.declared.token.Token.{Token}
use Rattle.html_tokens.specs.declared.token.Token.TheVariants.{CharacterTokens}
use Rattle.html_tokens.specs.declared.sink.TokenSink.{Ghosts}
use Rattle.html_tokens.specs.Characters.{ends_word, shown}
use Rattle.html_tokens.specs.Item.{grave_if}
use Rattle.html_tokens.specs.Reading.{line_break, line_number}
use Rattle.html_tokens.specs.Sink.{SinkLaws}
use Rattle.html_tokenizer_parts.specs.CharRefs.{is_held, may_hold}
use Rattle.html_tokenizer_parts.specs.declared.held_reference.Ampersand.TheVariants.{Unknown}
use Rattle.html_tokenizer.specs.declared.tokenizer.Tokenizer.{Tokenizer}
use Rattle.html_tokenizer.specs.Steps.{Owed, nothing_owed, owed_for, IsAt, Falls, Emitted, Took, Keeps}
use Rattle.html_tokenizer.proofs.HeldReferences.Ambiguous.{keeps-unknown, took-unknown}
use Rattle.html_tokenizer.proofs.Attributes.Values.{quoted-more, unquoted-more}
use Rattle.html_tokenizer.proofs.Steps.Keeping.{Says, at, failed, took_told}
use Rattle.html_tokenizer.proofs.HeldReferences.Readings.{held-no_null, held-no_open, held-no_reference}
use Rattle.html_tokenizer.proofs.RawText.States.{shown-says}
use Rattle.html_tokenizer.proofs.Text.States.{data-char}

-- a letter or a digit may be held, and is no dash, no quote and no end of a word
pub named-held : (c : ℕ) → is_ascii_alphanumeric c ≡ true → is_held c ≡ true
named-held c h = rw h refl

named-no_dash : (c : ℕ) → is_ascii_alphanumeric c ≡ true → nat_eq c 45 ≡ false
named-no_dash c h = grind (arith, nat_tests)

named-no_end : (c : ℕ) → is_ascii_alphanumeric c ≡ true → ends_word c ≡ false
named-no_end c h = grind (arith, nat_tests)

named-apart : (c d : ℕ) → is_ascii_alphanumeric c ≡ true → is_ascii_alphanumeric d ≡ false → c ≡ d → ⊥
named-apart c d h f e = true≢false (sym h ∙ (ap is_ascii_alphanumeric e ∙ f))

shown-named : (c : ℕ) → is_ascii_alphanumeric c ≡ true → shown c ≡ c
shown-named c h = ap (λ b. if b then 0xFFFD else c) (held-no_null c (named-held c h))

-- a value with it at its end
value-named : (front text : List ℕ) (c : ℕ) → is_ascii_alphanumeric c ≡ true → text ≡ front ++ c ∷ [] → text ≡ front ++ shown c ∷ []
value-named front text c h is = is ∙ ap (λ x. front ++ x ∷ []) (sym (shown-named c h))

module _ {K H : Type 0} (Sink : Ghosts K H) where
  -- it was told as text where the machine stays
  told-unknown : {owed : Owed} (old mid : Tokenizer K) (c : ℕ) (st : State) (token : Token) → IsAt old st
      → may_hold st ≡ true → Sink.is_sound (Sink.view old.sink) → Emitted Sink owed token old mid
      → Says Sink st old c owed token (λ b s t. at Sink st old (b + line_break (nat_eq c 10)) s t)
      → Took Sink (record old { char_ref = Some Unknown }) (record mid { char_ref = Some Unknown }) c flow.Continue
  told-unknown old mid c st token from fits ok told law =
      took-unknown Sink old mid c st from (record {
        state = ap (λ k. k.state) told.changed ∙ from.state;
        fresh = ap (λ k. k.char_ref) told.changed ∙ from.fresh;
      }) fits
      (took_told Sink old mid mid old c st st token from ok told told.changed from refl law)

  -- it could not be told
  unknown-failed : (owed : Owed) (old new : Tokenizer K) (c : ℕ) (st : State) (token : Token)
      (result : Result (ProcessResult H) ParseFault) (fault : ParseFault) → IsAt old st → may_hold st ≡ true
      → Sink.is_sound (Sink.view old.sink)
      → IsErrAnd result (λ y. y ≡ fault) → Falls Sink old.sink new.sink
      (Sink.step (Sink.view old.sink) token (line_number old.stream.breaks)) fault
      → Says Sink st old c owed token (λ b s t. at Sink st old (b + line_break (nat_eq c 10)) s t)
      → Keeps Sink (record old { char_ref = Some Unknown }) new c result
  unknown-failed owed old new c st token result fault from fits ok is fails law =
      keeps-unknown Sink old new c result from.fresh (ap may_hold from.state ∙ fits)
      (failed Sink owed old new c st token result fault
      (λ b s t. at Sink st old (b + line_break (nat_eq c 10)) s t) from ok is fails law)

  pub value-more : (kind : AttrValueKind) (old : Tokenizer K) (c : ℕ) (text : List ℕ)
      → IsAt old (state.AttributeValue kind) → Sink.is_sound (Sink.view old.sink) → is_ascii_alphanumeric c ≡ true
      → text ≡ old.attribute_value ++ c ∷ []
      → Took Sink old (record old { attribute_value = text }) c flow.Continue
  value-more value.Unquoted old c text from ok named is = unquoted-more Sink old c text from ok
      (named-no_end c named) (named-apart c 38 named refl) (value-named old.attribute_value text c named is)
  value-more value.SingleQuoted old c text from ok named is = quoted-more Sink old value.SingleQuoted 39 c text from
      ok refl (named-apart c 39 named refl) (named-apart c 38 named refl) (value-named old.attribute_value text c named is)
  value-more value.DoubleQuoted old c text from ok named is = quoted-more Sink old value.DoubleQuoted 34 c text from
      ok refl (named-apart c 34 named refl) (named-apart c 38 named refl) (value-named old.attribute_value text c named is)

  -- it was put after a value
  pub value-unknown : (old : Tokenizer K) (kind : AttrValueKind) (c : ℕ) (text : List ℕ)
      → IsAt old (state.AttributeValue kind) → Sink.is_sound (Sink.view old.sink) → is_ascii_alphanumeric c ≡ true
      → text ≡ old.attribute_value ++ c ∷ []
      → Took Sink (record old { char_ref = Some Unknown }) (record old { attribute_value = text; char_ref = Some Unknown }) c flow.Continue
  value-unknown old kind c text from ok named is =
      took-unknown Sink old (record old { attribute_value = text }) c (state.AttributeValue kind) from
      (record { state = from.state; fresh = from.fresh }) refl (value-more kind old c text from ok named is)

module _ {K H : Type 0} (Sink : Ghosts K H) (laws : SinkLaws Sink.is_sound Sink.step Sink.ended Sink.is_quiet) where
  data-named : (old : Tokenizer K) (c : ℕ) → is_ascii_alphanumeric c ≡ true
      → Says Sink state.Data old c nothing_owed (CharacterTokens (c ∷ []))
      (λ b s t. at Sink state.Data old (b + line_break (nat_eq c 10)) s t)
  data-named old c named = let held = named-held c named in data-char Sink laws old c (held-no_open c held)
      (held-no_reference c held) (held-no_null c held)

  -- in data
  pub data-unknown : (old mid : Tokenizer K) (c : ℕ) → IsAt old state.Data → Sink.is_sound (Sink.view old.sink)
      → is_ascii_alphanumeric c ≡ true → Emitted Sink nothing_owed (CharacterTokens (c ∷ [])) old mid
      → Took Sink (record old { char_ref = Some Unknown }) (record mid { char_ref = Some Unknown }) c flow.Continue
  data-unknown old mid c from ok named told = told-unknown Sink old mid c state.Data (CharacterTokens (c ∷ [])) from
      refl ok told (data-named old c named)

  pub data-unknown_failed : (old new : Tokenizer K) (c : ℕ) (result : Result (ProcessResult H) ParseFault)
      (fault : ParseFault) → IsAt old state.Data → Sink.is_sound (Sink.view old.sink) → is_ascii_alphanumeric c ≡ true
      → IsErrAnd result (λ y. y ≡ fault) → Falls Sink old.sink new.sink
      (Sink.step (Sink.view old.sink) (CharacterTokens (c ∷ [])) (line_number old.stream.breaks)) fault
      → Keeps Sink (record old { char_ref = Some Unknown }) new c result
  data-unknown_failed old new c result fault from ok named is fails = unknown-failed Sink nothing_owed old new c
      state.Data (CharacterTokens (c ∷ [])) result fault from refl ok is fails (data-named old c named)

  rcdata-named : (old : Tokenizer K) (c : ℕ) → is_ascii_alphanumeric c ≡ true → Says Sink (state.RawData raw.Rcdata)
      old c (owed_for (grave_if (nat_eq c 0))) (CharacterTokens (shown c ∷ []))
      (λ b s t. at Sink (state.RawData raw.Rcdata) old (b + line_break (nat_eq c 10)) s t)
  rcdata-named old c named = let held = named-held c named in shown-says Sink laws old raw.Rcdata c
      (held-no_open c held) (held-no_reference c held) (named-no_dash c named)

  -- in text with references that only its end tag ends
  pub rcdata-unknown : (old mid : Tokenizer K) (c : ℕ) → IsAt old (state.RawData raw.Rcdata)
      → Sink.is_sound (Sink.view old.sink) → is_ascii_alphanumeric c ≡ true
      → Emitted Sink (owed_for (grave_if (nat_eq c 0))) (CharacterTokens (shown c ∷ [])) old mid
      → Took Sink (record old { char_ref = Some Unknown }) (record mid { char_ref = Some Unknown }) c flow.Continue
  rcdata-unknown old mid c from ok named told = told-unknown Sink old mid c (state.RawData raw.Rcdata)
      (CharacterTokens (shown c ∷ [])) from refl ok told (rcdata-named old c named)

  pub rcdata-unknown_failed : (old new : Tokenizer K) (c : ℕ) (result : Result (ProcessResult H) ParseFault)
      (fault : ParseFault) → IsAt old (state.RawData raw.Rcdata) → Sink.is_sound (Sink.view old.sink) → is_ascii_alphanumeric c ≡ true
      → IsErrAnd result (λ y. y ≡ fault) → Falls Sink old.sink new.sink
      (Sink.step (Sink.view old.sink) (CharacterTokens (shown c ∷ [])) (line_number old.stream.breaks)) fault
      → Keeps Sink (record old { char_ref = Some Unknown }) new c result
  rcdata-unknown_failed old new c result fault from ok named is fails = unknown-failed Sink
      (owed_for (grave_if (nat_eq c 0))) old new c (state.RawData raw.Rcdata) (CharacterTokens (shown c ∷ []))
      result fault from refl ok is fails (rcdata-named old c named)
