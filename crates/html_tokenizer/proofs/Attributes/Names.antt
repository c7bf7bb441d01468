-- Before an attribute's name, in it and after it.
use Rattle.std.proofs.Common.{◌≡◌, ◌≢◌, ◌∙◌, ℕ, ◌+◌, nat_eq, Bool, true, false, List, [], ◌∷◌, ◌++◌, Result, refl, sym, ap, arith}
use Rattle.std.proofs.lemmas.Bool.{ne_eqb}
use Rattle.std.proofs.lemmas.Bool.Decides.{nat_tests}
use Rattle.markup.specs.declared.fault.ParseFault.{ParseFault}
use Rattle.html_tokens.specs.declared.replies.ProcessResult.{ProcessResult}
use Rattle.html_tokens.specs.declared.replies.ProcessResult.TheVariants as flow
use Rattle.html_tokens.specs.declared.states.State.{State}
use Rattle.html_tokens.specs.declared.states.State.TheVariants as state
use Rattle.html_tokens.specs.declared.sink.TokenSink.{Ghosts}
use Rattle.html_tokens.specs.Characters.{is_white_space, ends_attribute_name, lowered}
use Rattle.html_tokens.specs.Item.{slight_if, InData, InTag, silent}
use Rattle.html_tokens.specs.Notes.{Notes, noting_error}
use Rattle.html_tokens.specs.Reading.{erred_by, line_break}
use Rattle.html_tokens.specs.Tags.{after_tag, with_attribute, attribute_after, is_odd_in_name, is_odd_first}
use Rattle.html_tokenizer.specs.declared.tokenizer.Tokenizer.{Tokenizer}
use Rattle.html_tokenizer.specs.Rest.{rows_of, standing, held_at}
use Rattle.html_tokenizer.specs.Steps.{IsAt, Took, Keeps, EndsTag, plays}
use Rattle.html_tokenizer.proofs.Tags.TagEnds.{noted-tag}
use Rattle.html_tokenizer.proofs.Steps.Keeping.{at, took, took_tag, took_odd, keeps_odd, keeps_silent, Absorbs}
use Rattle.html_tokenizer.proofs.Steps.Lawful.{slight-absorbed}
use Rattle.html_tokenizer.proofs.Steps.Readings.{play-nothing}
use Rattle.html_tokenizer.proofs.Tags.Keeping.{took_here, absorbs_odd}
use Rattle.html_tokenizer.proofs.Attributes.Readings.{name-goes_on, name-ends, equals-space, equals-sign, equals-none}
use Rattle.html_tokenizer.proofs.Tags.Readings.{tag-space, tag-end, tag-attribute}
use Rattle.html_tokenizer.specs.Listeners.{listening}

-- an odd character of a name ends no name
odd-goes_on : (c : ℕ) → is_odd_in_name c ≡ true → ends_attribute_name c ≡ false
odd-goes_on c e = grind (arith, nat_tests)

-- an odd first character of a name is no white space, no "/" and no ">"
odd-no_space : (c : ℕ) → is_odd_first c ≡ true → is_white_space c ≡ false
odd-no_space c e = grind (arith, nat_tests)

odd-no_slash : (c : ℕ) → is_odd_first c ≡ true → nat_eq c 47 ≡ false
odd-no_slash c e = grind (arith, nat_tests)

odd-no_close : (c : ℕ) → is_odd_first c ≡ true → nat_eq c 62 ≡ false
odd-no_close c e = grind (arith, nat_tests)

module _ {K H : Type 0} (Sink : Ghosts K H) where
  pub before-space : (old : Tokenizer K) (c : ℕ) → IsAt old state.BeforeAttributeName
      → Sink.is_sound (Sink.view old.sink) → is_white_space c ≡ true → Took Sink old old c flow.Continue
  unfolding held_at
  before-space old c from ok e =
      took Sink old old c state.BeforeAttributeName state.BeforeAttributeName from from refl refl ok
      (λ b s t. tag-space (listening Sink) (rows_of old) (standing old InData) old.tag b s c t e)

  pub before-slash : (old : Tokenizer K) (c : ℕ) → IsAt old state.BeforeAttributeName
      → Sink.is_sound (Sink.view old.sink) → c ≡ 47 → Took Sink old (record old { state = state.SelfClosingStartTag }) c flow.Continue
  unfolding held_at
  before-slash old c from ok e = rw e (
      took_here Sink old (record old { state = state.SelfClosingStartTag }) 47 state.BeforeAttributeName
      state.SelfClosingStartTag from (record { state = refl; fresh = from.fresh }) refl refl ok refl
      (λ b s t. refl))

  pub before-close : (old new : Tokenizer K) (c : ℕ) (result : Result (ProcessResult H) ParseFault)
      → IsAt old state.BeforeAttributeName → Sink.is_sound (Sink.view old.sink) → c ≡ 62
      → EndsTag Sink old new result → Keeps Sink old new c result
  unfolding held_at
  before-close old new c result from ok e h = rw e (
      took_tag Sink old new 62 state.BeforeAttributeName result from refl h
      (λ b s x t. tag-end (listening Sink) (rows_of old) (standing old InData) old.tag b s t
      ∙ noted-tag Sink old old.tag (after_tag (standing old InData) old.tag) b s t) ok)

  pub before-name : (old : Tokenizer K) (c : ℕ) (name : List ℕ) → IsAt old state.BeforeAttributeName
      → Sink.is_sound (Sink.view old.sink) → is_white_space c ≡ false → c ≢ 47 → c ≢ 62 → name ≡ lowered c ∷ []
      → Took Sink old (record old { attribute_name = name; state = state.AttributeName }) c flow.Continue
  unfolding held_at
  before-name old c name from ok e f g is = rw is (
      took_odd Sink (is_odd_first c) old
      (record old { attribute_name = lowered c ∷ []; state = state.AttributeName }) c state.BeforeAttributeName
      state.AttributeName from (record { state = refl; fresh = from.fresh }) refl refl ok
      (λ b s t. tag-attribute (listening Sink) (rows_of old) slight-absorbed (standing old InData) old.tag b s c t e
      (ne_eqb c 47 f) (ne_eqb c 62 g)))

  pub name-more : (old : Tokenizer K) (c : ℕ) (name : List ℕ) → IsAt old state.AttributeName
      → Sink.is_sound (Sink.view old.sink) → ends_attribute_name c ≡ false → name ≡ old.attribute_name ++ lowered c ∷ []
      → Took Sink old (record old { attribute_name = name }) c flow.Continue
  unfolding held_at
  name-more old c name from ok e is = rw is (
      took_odd Sink (is_odd_in_name c) old (record old { attribute_name = old.attribute_name ++ lowered c ∷ [] }) c
      state.AttributeName state.AttributeName from (record { state = from.state; fresh = from.fresh }) refl refl ok
      (λ b s t. name-goes_on (listening Sink) (rows_of old) slight-absorbed (standing old InData) old.tag old.attribute_name b s c t e))

  pub name-end : (old new : Tokenizer K) (c : ℕ) (result : Result (ProcessResult H) ParseFault)
      → IsAt old state.AttributeName → ends_attribute_name c ≡ true
      → Keeps Sink (record old { state = state.AfterAttributeName }) new c result → Keeps Sink old new c result
  unfolding held_at
  name-end old new c result from e h =
      keeps_silent Sink old (record old { state = state.AfterAttributeName }) new c state.AttributeName
      state.AfterAttributeName result from (record { state = refl; fresh = from.fresh }) refl refl
      (λ b s t. ap (λ i. plays Sink (rows_of old) i b s (c ∷ t))
      (name-ends (rows_of old) (standing old InData) old.tag old.attribute_name c t e)) h

  pub after-space : (old : Tokenizer K) (c : ℕ) → IsAt old state.AfterAttributeName
      → Sink.is_sound (Sink.view old.sink) → is_white_space c ≡ true → Took Sink old old c flow.Continue
  unfolding held_at
  after-space old c from ok e =
      took Sink old old c state.AfterAttributeName state.AfterAttributeName from from refl refl ok
      (λ b s t. equals-space (listening Sink) (rows_of old) (standing old InData) old.tag old.attribute_name b s c t e)

  pub after-equals : (old : Tokenizer K) (c : ℕ) → IsAt old state.AfterAttributeName → Sink.is_sound (Sink.view old.sink) → c ≡ 61
      → Took Sink old (record old { state = state.BeforeAttributeValue }) c flow.Continue
  unfolding held_at
  after-equals old c from ok e = rw e (
      took Sink old (record old { state = state.BeforeAttributeValue }) 61 state.AfterAttributeName
      state.BeforeAttributeValue from (record { state = refl; fresh = from.fresh }) refl refl ok
      (λ b s t. equals-sign (listening Sink) (rows_of old) (standing old InData) old.tag old.attribute_name b s t))

  -- the machine with the attribute that it read in its tag
  abbrev pub finished : Tokenizer K → List ℕ → Tokenizer K
  finished k value = record k { tag = with_attribute k.tag k.attribute_name value; attribute_name = []; attribute_value = [] }

  -- The attribute ended before the character, which may be odd there.
  pub finish-odd : (odd : Bool) (old fin new : Tokenizer K) (value : List ℕ) (c : ℕ) (st : State)
      (result : Result (ProcessResult H) ParseFault) → IsAt old st → fin ≡ finished old value
      → ((b : ℕ) (s : Sink.State × Notes ℕ) (t : List ℕ) → at Sink st old b s (c ∷ t)
      ≡ plays Sink (rows_of old) (silent 0 (standing old (InTag (with_attribute old.tag old.attribute_name value))))
      b (erred_by noting_error (slight_if odd) s) (c ∷ t))
      → Keeps Sink (record fin { state = state.BeforeAttributeName }) new c result → Keeps Sink old new c result
  unfolding held_at
  finish-odd odd old fin new value c st result from is law h =
      keeps_odd Sink odd old (record (finished old value) { state = state.BeforeAttributeName }) new c st
      state.BeforeAttributeName result from (record { state = refl; fresh = from.fresh }) refl refl
      (λ b s t. law b s t ∙ play-nothing (listening Sink) (rows_of old)
      (standing old (InTag (with_attribute old.tag old.attribute_name value))) b
      (erred_by noting_error (slight_if odd) s) (c ∷ t)) (rw is at h)

  -- The attribute ended before the character.
  pub finish-before : (old fin new : Tokenizer K) (value : List ℕ) (c : ℕ) (st : State)
      (result : Result (ProcessResult H) ParseFault) → IsAt old st → fin ≡ finished old value
      → ((b : ℕ) (s : Sink.State × Notes ℕ) (t : List ℕ) → at Sink st old b s (c ∷ t)
      ≡ plays Sink (rows_of old) (silent 0 (standing old (InTag (with_attribute old.tag old.attribute_name value)))) b s (c ∷ t))
      → Keeps Sink (record fin { state = state.BeforeAttributeName }) new c result → Keeps Sink old new c result
  finish-before old fin new value c st result from is law h = finish-odd false old fin new value c st result from is law h

  pub after-other : (old fin new : Tokenizer K) (c : ℕ) (result : Result (ProcessResult H) ParseFault)
      → IsAt old state.AfterAttributeName → is_white_space c ≡ false → c ≢ 61 → fin ≡ finished old []
      → Keeps Sink (record fin { state = state.BeforeAttributeName }) new c result → Keeps Sink old new c result
  unfolding held_at
  after-other old fin new c result from e ne is h =
      finish-before old fin new [] c state.AfterAttributeName result from is
      (λ b s t. ap (λ i. plays Sink (rows_of old) i b s (c ∷ t))
      (equals-none (rows_of old) (standing old InData) old.tag old.attribute_name c t e (ne_eqb 61 c (λ x. ne (sym x))))) h

  -- the first character of a name, where it is odd
  pub before-absorbs : (old : Tokenizer K) (c : ℕ) → IsAt old state.BeforeAttributeName → is_odd_first c ≡ true → Absorbs Sink old c
  unfolding held_at
  before-absorbs old c from e =
      absorbs_odd Sink old c state.BeforeAttributeName (is_odd_first c)
      (λ b s t. plays Sink (rows_of old) (attribute_after (rows_of old) (standing old InData) old.tag
      (lowered c ∷ []) t) (b + line_break (nat_eq c 10)) s t) from e
      (λ b s t. tag-attribute (listening Sink) (rows_of old) slight-absorbed (standing old InData) old.tag b s c t
      (odd-no_space c e) (odd-no_slash c e) (odd-no_close c e))

  -- a further one
  pub name-absorbs : (old : Tokenizer K) (c : ℕ) → IsAt old state.AttributeName → is_odd_in_name c ≡ true → Absorbs Sink old c
  unfolding held_at
  name-absorbs old c from e =
      absorbs_odd Sink old c state.AttributeName (is_odd_in_name c)
      (λ b s t. plays Sink (rows_of old) (attribute_after (rows_of old) (standing old InData) old.tag
      (old.attribute_name ++ lowered c ∷ []) t) (b + line_break (nat_eq c 10)) s t) from e
      (λ b s t. name-goes_on (listening Sink) (rows_of old) slight-absorbed (standing old InData) old.tag
      old.attribute_name b s c t (odd-goes_on c e))
