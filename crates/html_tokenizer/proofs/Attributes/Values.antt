-- Before an attribute's value, in it and after it.
use Rattle.std.proofs.Common.{◌≡◌, ◌≢◌, ◌∙◌, ℕ, ◌+◌, nat_eq, true, false, List, [], ◌∷◌, ◌++◌, Option, Some, Result, refl, sym, ap, arith}
use Rattle.std.specs.Prelude.{not}
use Rattle.std.proofs.lemmas.Bool.Decides.{nat_tests}
use Rattle.std.proofs.lemmas.Bool.{ne_eqb, eq-eqb, eqb-true}
use Rattle.markup.specs.declared.fault.ParseFault.{ParseFault}
use Rattle.html_tokens.specs.declared.replies.ProcessResult.{ProcessResult}
use Rattle.html_tokens.specs.declared.replies.ProcessResult.TheVariants as flow
use Rattle.html_tokens.specs.declared.states.AttrValueKind.{AttrValueKind}
use Rattle.html_tokens.specs.declared.states.AttrValueKind.TheVariants as value
use Rattle.html_tokens.specs.declared.states.State.TheVariants as state
use Rattle.html_tokens.specs.declared.sink.TokenSink.{Ghosts}
use Rattle.html_tokens.specs.Characters.{is_white_space, ends_word, ends_tag_name, shown, is_null}
use Rattle.html_tokens.specs.Item.{Slight, slight_if, InData, InTag}
use Rattle.html_tokens.specs.Notes.{Notes, noting_error}
use Rattle.html_tokens.specs.Reading.{erred_by, line_break}
use Rattle.html_tokens.specs.Tags.{opening, opened_by, Other, quoted_after, unquoted_after, no_value, is_odd_unquoted}
use Rattle.html_tokenizer_parts.specs.declared.held_reference.Ampersand.{Ampersand}
use Rattle.html_tokenizer_parts.specs.declared.held_reference.Ampersand.TheVariants.{Held}
use Rattle.html_tokenizer.specs.declared.tokenizer.Tokenizer.{Tokenizer}
use Rattle.html_tokenizer.specs.Quotes.{quote_of}
use Rattle.html_tokenizer.specs.Rest.{rows_of, standing, held_at}
use Rattle.html_tokenizer.specs.Steps.{IsAt, Took, Keeps, reads, plays}
use Rattle.html_tokenizer.proofs.Steps.Keeping.{at, took, took_odd, noted_odd, keeps_odd, keeps_silent, Absorbs}
use Rattle.html_tokenizer.proofs.Steps.Lawful.{slight-absorbed}
use Rattle.html_tokenizer.proofs.Steps.Readings.{play-marked}
use Rattle.html_tokenizer.proofs.Tags.Keeping.{took_reference, absorbs_odd}
use Rattle.html_tokenizer.proofs.Attributes.Names.{finished, finish-odd, finish-before}
use Rattle.html_tokenizer.proofs.Attributes.Readings.{value-opens, value-space, value-quote, value-apostrophe, quoted-goes_on}
use Rattle.html_tokenizer.proofs.Attributes.Readings.{quoted-closes, unquoted-ends, unquoted-goes_on}
use Rattle.html_tokenizer.specs.Listeners.{listening}

opening-other : (c : ℕ) → c ≢ 34 → c ≢ 39 → c ≢ 62 → opening c ≡ Other
opening-other c e f g = rw (ne_eqb c 34 e, ne_eqb c 39 f, ne_eqb c 62 g) refl

-- an odd character of a value without quotes ends no value and begins no reference
odd-no_end : (c : ℕ) → is_odd_unquoted c ≡ true → ends_word c ≡ false
odd-no_end c e = grind (arith, nat_tests)

odd-no_reference : (c : ℕ) → is_odd_unquoted c ≡ true → nat_eq c 38 ≡ false
odd-no_reference c e = grind (arith, nat_tests)

-- U+0000 is no quote and begins no reference
null-no_quote : (kind : AttrValueKind) (quote c : ℕ) → quote_of kind ≡ Some quote → is_null c ≡ true → nat_eq quote c ≡ false
null-no_quote value.Unquoted quote c q e = cc
null-no_quote value.SingleQuoted quote c q e = let h : 39 ≡ quote = cc in grind (arith, nat_tests)
null-no_quote value.DoubleQuoted quote c q e = let h : 34 ≡ quote = cc in grind (arith, nat_tests)

null-no_reference : (c : ℕ) → is_null c ≡ true → nat_eq c 38 ≡ false
null-no_reference c e = grind (arith, nat_tests)

module _ {K H : Type 0} (Sink : Ghosts K H) where
  pub value_before-space : (old : Tokenizer K) (c : ℕ) → IsAt old state.BeforeAttributeValue
      → Sink.is_sound (Sink.view old.sink) → is_white_space c ≡ true → Took Sink old old c flow.Continue
  unfolding held_at
  value_before-space old c from ok e =
      took Sink old old c state.BeforeAttributeValue state.BeforeAttributeValue from from refl refl ok
      (λ b s t. value-space (listening Sink) (rows_of old) (standing old InData) old.tag old.attribute_name b s c t e)

  -- ">" in place of a value is odd
  value-close : (old : Tokenizer K) (b : ℕ) (s : Sink.State × Notes ℕ) (t : List ℕ) → at Sink state.BeforeAttributeValue old b s (62 ∷ t)
      ≡ plays Sink (rows_of old) (no_value (standing old InData) old.tag old.attribute_name) b (noting_error Slight s) (62 ∷ t)
  unfolding held_at
  value-close old b s t = play-marked (listening Sink) (rows_of old) slight-absorbed true
      (no_value (standing old InData) old.tag old.attribute_name) b s (62 ∷ t)

  pub value_before-close : (old fin new : Tokenizer K) (c : ℕ) (result : Result (ProcessResult H) ParseFault)
      → IsAt old state.BeforeAttributeValue → c ≡ 62 → fin ≡ finished Sink old []
      → Keeps Sink (record fin { state = state.BeforeAttributeName }) new c result → Keeps Sink old new c result
  unfolding held_at
  value_before-close old fin new c result from e is h =
      rw e (finish-odd Sink true old fin new [] 62 state.BeforeAttributeValue result from is (λ b s t. value-close old b s t) (rw e at h))

  pub value_before-quote : (old : Tokenizer K) (c : ℕ) (text : List ℕ) → IsAt old state.BeforeAttributeValue
      → Sink.is_sound (Sink.view old.sink) → c ≡ 34 → text ≡ []
      → Took Sink old (record old { attribute_value = text; state = state.AttributeValue value.DoubleQuoted }) c flow.Continue
  unfolding held_at
  value_before-quote old c text from ok e is = rw (e, is) (
      took Sink old (record old { attribute_value = []; state = state.AttributeValue value.DoubleQuoted }) 34
      state.BeforeAttributeValue (state.AttributeValue value.DoubleQuoted) from
      (record { state = refl; fresh = from.fresh }) refl refl ok
      (λ b s t. value-quote (listening Sink) (rows_of old) (standing old InData) old.tag old.attribute_name b s t))

  pub value_before-apostrophe : (old : Tokenizer K) (c : ℕ) (text : List ℕ) → IsAt old state.BeforeAttributeValue
      → Sink.is_sound (Sink.view old.sink) → c ≡ 39 → text ≡ []
      → Took Sink old (record old { attribute_value = text; state = state.AttributeValue value.SingleQuoted }) c flow.Continue
  unfolding held_at
  value_before-apostrophe old c text from ok e is = rw (e, is) (
      took Sink old (record old { attribute_value = []; state = state.AttributeValue value.SingleQuoted }) 39
      state.BeforeAttributeValue (state.AttributeValue value.SingleQuoted) from
      (record { state = refl; fresh = from.fresh }) refl refl ok
      (λ b s t. value-apostrophe (listening Sink) (rows_of old) (standing old InData) old.tag old.attribute_name b s t))

  pub value_before-other : (old new : Tokenizer K) (c : ℕ) (text : List ℕ)
      (result : Result (ProcessResult H) ParseFault) → IsAt old state.BeforeAttributeValue
      → is_white_space c ≡ false → c ≢ 62 → c ≢ 34 → c ≢ 39 → text ≡ []
      → Keeps Sink (record old { attribute_value = text; state = state.AttributeValue value.Unquoted }) new c result
      → Keeps Sink old new c result
  unfolding held_at
  value_before-other old new c text result from e f g h is keeps =
      keeps_silent Sink old (record old { attribute_value = []; state = state.AttributeValue value.Unquoted }) new c
      state.BeforeAttributeValue (state.AttributeValue value.Unquoted) result from
      (record { state = refl; fresh = from.fresh }) refl refl
      (λ b s t. ap (λ i. plays Sink (rows_of old) i b s (c ∷ t))
      (value-opens (rows_of old) (standing old InData) old.tag old.attribute_name c t e
      ∙ ap (λ o. opened_by o (rows_of old) (standing old InData) old.tag old.attribute_name c t)
      (opening-other c g h f))) (rw is at keeps)

  held-quoted : (kind : AttrValueKind) (quote : ℕ) (k : Tokenizer K) (b : ℕ) (s : Sink.State × Notes ℕ) (t : List ℕ)
      → quote_of kind ≡ Some quote
      → at Sink (state.AttributeValue kind) k b s t ≡ plays Sink (rows_of k)
      (quoted_after (rows_of k) quote (standing k InData) k.tag k.attribute_name k.attribute_value t) b s t
  unfolding held_at
  held-quoted value.Unquoted quote k b s t e = cc
  held-quoted value.SingleQuoted quote k b s t e = let q : 39 ≡ quote = cc in
      ap (λ q. plays Sink (rows_of k) (quoted_after (rows_of k) q (standing k InData) k.tag k.attribute_name k.attribute_value t) b s t) q
  held-quoted value.DoubleQuoted quote k b s t e = let q : 34 ≡ quote = cc in
      ap (λ q. plays Sink (rows_of k) (quoted_after (rows_of k) q (standing k InData) k.tag k.attribute_name k.attribute_value t) b s t) q

  pub quoted-more : (old : Tokenizer K) (kind : AttrValueKind) (quote c : ℕ) (text : List ℕ)
      → IsAt old (state.AttributeValue kind) → Sink.is_sound (Sink.view old.sink) → quote_of kind ≡ Some quote
      → c ≢ quote → c ≢ 38 → text ≡ old.attribute_value ++ shown c ∷ []
      → Took Sink old (record old { attribute_value = text }) c flow.Continue
  quoted-more old kind quote c text from ok quoted e f is = rw is (
      took_odd Sink (is_null c) old (record old { attribute_value = old.attribute_value ++ shown c ∷ [] }) c
      (state.AttributeValue kind) (state.AttributeValue kind) from (record { state = from.state; fresh = from.fresh }) refl refl ok
      (λ b s t. held-quoted kind quote old b s (c ∷ t) quoted
      ∙ quoted-goes_on (listening Sink) (rows_of old) slight-absorbed quote (standing old InData) old.tag
      old.attribute_name old.attribute_value b s c t (ne_eqb quote c (λ x. e (sym x))) (ne_eqb c 38 f)
      ∙ sym (held-quoted kind quote (record old { attribute_value = old.attribute_value ++ shown c ∷ [] })
      (b + line_break (nat_eq c 10)) (erred_by noting_error (slight_if (is_null c)) s) t quoted)))

  pub quoted-close : (old fin : Tokenizer K) (kind : AttrValueKind) (quote c : ℕ)
      → IsAt old (state.AttributeValue kind) → Sink.is_sound (Sink.view old.sink) → quote_of kind ≡ Some quote
      → c ≡ quote → fin ≡ finished Sink old old.attribute_value
      → Took Sink old (record fin { state = state.AfterAttributeValueQuoted }) c flow.Continue
  unfolding held_at
  quoted-close old fin kind quote c from ok quoted e is = rw is (
      took Sink old (record (finished Sink old old.attribute_value) { state = state.AfterAttributeValueQuoted }) c
      (state.AttributeValue kind) state.AfterAttributeValueQuoted from (record { state = refl; fresh = from.fresh }) refl refl ok
      (λ b s t. held-quoted kind quote old b s (c ∷ t) quoted
      ∙ quoted-closes (listening Sink) (rows_of old) slight-absorbed quote (standing old InData) old.tag
      old.attribute_name old.attribute_value b s c t (eq-eqb quote c (sym e))))

  -- The reference that is held does not matter to what a value's state holds.
  held-fresh : (kind : AttrValueKind) (k : Tokenizer K) (r : Option Ampersand) (b : ℕ) (s : Sink.State × Notes ℕ) (t : List ℕ)
      → at Sink (state.AttributeValue kind) (record k { char_ref = r }) b s t ≡ at Sink (state.AttributeValue kind) k b s t
  unfolding held_at
  held-fresh value.Unquoted k r b s t = refl
  held-fresh value.SingleQuoted k r b s t = refl
  held-fresh value.DoubleQuoted k r b s t = refl

  -- "&" in a value begins a reference
  pub value-reference : (old : Tokenizer K) (kind : AttrValueKind) (c : ℕ) (text : List ℕ)
      → IsAt old (state.AttributeValue kind) → Sink.is_sound (Sink.view old.sink) → c ≡ 38 → text ≡ []
      → Took Sink old (record old { char_ref = Some (Held text) }) c flow.Continue
  value-reference old kind c text from ok e is =
      rw (e, is) (took_reference Sink old (state.AttributeValue kind) from refl ok (λ b s t. held-fresh kind old (Some (Held [])) b s t))

  -- a character of a value without quotes is held, and noted if it is odd
  pub unquoted-held : (old : Tokenizer K) (c : ℕ) → IsAt old (state.AttributeValue value.Unquoted)
      → Sink.is_sound (Sink.view old.sink) → ends_word c ≡ false → nat_eq c 38 ≡ false
      → (took : Took Sink old (record old { attribute_value = old.attribute_value ++ shown c ∷ [] }) c
      flow.Continue) × (took.owed.is_quiet ≡ true → is_odd_unquoted c ≡ false)
  unfolding held_at
  unquoted-held old c from ok e f =
      noted_odd Sink (is_odd_unquoted c) old (record old { attribute_value = old.attribute_value ++ shown c ∷ [] })
      c (state.AttributeValue value.Unquoted) (state.AttributeValue value.Unquoted) from
      (record { state = from.state; fresh = from.fresh }) refl refl ok
      (λ b s t. unquoted-goes_on (listening Sink) (rows_of old) slight-absorbed (standing old InData) old.tag
      old.attribute_name old.attribute_value b s c t e f)

  pub unquoted-more : (old : Tokenizer K) (c : ℕ) (text : List ℕ) → IsAt old (state.AttributeValue value.Unquoted)
      → Sink.is_sound (Sink.view old.sink) → ends_word c ≡ false → c ≢ 38 → text ≡ old.attribute_value ++ shown c ∷ []
      → Took Sink old (record old { attribute_value = text }) c flow.Continue
  unquoted-more old c text from ok e f is = rw is ((unquoted-held old c from ok e (ne_eqb c 38 f)).0)

  pub unquoted-end : (old fin new : Tokenizer K) (c : ℕ) (result : Result (ProcessResult H) ParseFault)
      → IsAt old (state.AttributeValue value.Unquoted) → ends_word c ≡ true → fin ≡ finished Sink old old.attribute_value
      → Keeps Sink (record fin { state = state.BeforeAttributeName }) new c result → Keeps Sink old new c result
  unfolding held_at
  unquoted-end old fin new c result from e is h =
      finish-before Sink old fin new old.attribute_value c (state.AttributeValue value.Unquoted) result from is
      (λ b s t. ap (λ i. plays Sink (rows_of old) i b s (c ∷ t))
      (unquoted-ends (rows_of old) (standing old InData) old.tag old.attribute_name old.attribute_value c t e)) h

  pub value_after : (old new : Tokenizer K) (c : ℕ) (result : Result (ProcessResult H) ParseFault)
      → IsAt old state.AfterAttributeValueQuoted
      → Keeps Sink (record old { state = state.BeforeAttributeName }) new c result → Keeps Sink old new c result
  unfolding held_at
  value_after old new c result from h =
      keeps_odd Sink (not (ends_tag_name c)) old (record old { state = state.BeforeAttributeName }) new c
      state.AfterAttributeValueQuoted state.BeforeAttributeName result from
      (record { state = refl; fresh = from.fresh }) refl refl (λ b s t. refl) h

  -- ">" in place of a value, which is odd
  pub value_before-absorbs : (old : Tokenizer K) (c : ℕ) → IsAt old state.BeforeAttributeValue → nat_eq c 62 ≡ true → Absorbs Sink old c
  value_before-absorbs old c from e = rw (eqb-true c 62 e) (
      absorbs_odd Sink old 62 state.BeforeAttributeValue true
      (λ b s t. plays Sink (rows_of old) (no_value (standing old InData) old.tag old.attribute_name) b s (62 ∷ t)) from refl
      (λ b s t. value-close old b s t))

  -- U+0000 in a value in quotes
  pub quoted-absorbs : (old : Tokenizer K) (kind : AttrValueKind) (quote c : ℕ)
      → IsAt old (state.AttributeValue kind) → quote_of kind ≡ Some quote → is_null c ≡ true → Absorbs Sink old c
  quoted-absorbs old kind quote c from quoted e =
      absorbs_odd Sink old c (state.AttributeValue kind) (is_null c)
      (λ b s t. plays Sink (rows_of old)
      (quoted_after (rows_of old) quote (standing old InData) old.tag old.attribute_name
      (old.attribute_value ++ shown c ∷ []) t) (b + line_break (nat_eq c 10)) s t) from e
      (λ b s t. held-quoted kind quote old b s (c ∷ t) quoted
      ∙ quoted-goes_on (listening Sink) (rows_of old) slight-absorbed quote (standing old InData) old.tag
      old.attribute_name old.attribute_value b s c t (null-no_quote kind quote c quoted e) (null-no_reference c e))

  -- an odd character of a value without quotes
  pub unquoted-absorbs : (old : Tokenizer K) (c : ℕ) → IsAt old (state.AttributeValue value.Unquoted)
      → is_odd_unquoted c ≡ true → Absorbs Sink old c
  unfolding held_at
  unquoted-absorbs old c from e =
      absorbs_odd Sink old c (state.AttributeValue value.Unquoted) (is_odd_unquoted c)
      (λ b s t. plays Sink (rows_of old)
      (unquoted_after (rows_of old) (standing old InData) old.tag old.attribute_name
      (old.attribute_value ++ shown c ∷ []) t) (b + line_break (nat_eq c 10)) s t) from e
      (λ b s t. unquoted-goes_on (listening Sink) (rows_of old) slight-absorbed (standing old InData) old.tag
      old.attribute_name old.attribute_value b s c t (odd-no_end c e) (odd-no_reference c e))

  -- what stands after a value in quotes with no space between
  pub behind-absorbs : (old : Tokenizer K) (c : ℕ) → IsAt old state.AfterAttributeValueQuoted
      → not (ends_tag_name c) ≡ true → Absorbs Sink old c
  unfolding held_at
  behind-absorbs old c from e =
      absorbs_odd Sink old c state.AfterAttributeValueQuoted (not (ends_tag_name c))
      (λ b s t. reads Sink (rows_of old) (standing old (InTag old.tag)) b s (c ∷ t)) from e (λ b s t. refl)
