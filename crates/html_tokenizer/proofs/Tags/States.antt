-- A tag's name, and "/" in a tag.
use Rattle.std.proofs.Common.{◌≡◌, ◌≢◌, ◌∙◌, ℕ, ◌+◌, nat_eq, true, false, List, [], ◌∷◌, ◌++◌, Result, refl, sym, arith}
use Rattle.std.specs.Prelude.{not}
use Rattle.std.proofs.lemmas.Bool.{ne_eqb}
use Rattle.std.proofs.lemmas.Bool.Decides.{nat_tests}
use Rattle.markup.specs.declared.fault.ParseFault.{ParseFault}
use Rattle.html_tokens.specs.declared.replies.ProcessResult.{ProcessResult}
use Rattle.html_tokens.specs.declared.replies.ProcessResult.TheVariants as flow
use Rattle.html_tokens.specs.declared.states.State.TheVariants as state
use Rattle.html_tokens.specs.declared.sink.TokenSink.{Ghosts}
use Rattle.html_tokens.specs.Characters.{is_white_space, ends_tag_name, lowered, is_null}
use Rattle.html_tokens.specs.Item.{InData, InTag, moved}
use Rattle.html_tokens.specs.Notes.{Notes}
use Rattle.html_tokens.specs.Reading.{line_break}
use Rattle.html_tokens.specs.Tags.{after_tag, name_after}
use Rattle.html_tokenizer.specs.declared.tokenizer.Tokenizer.{Tokenizer}
use Rattle.html_tokenizer.specs.Rest.{rows_of, standing, held_at}
use Rattle.html_tokenizer.specs.Steps.{IsAt, Took, Keeps, EndsTag, reads, plays}
use Rattle.html_tokenizer.proofs.Tags.TagEnds.{noted-tag}
use Rattle.html_tokenizer.proofs.Steps.Keeping.{took, took_tag, took_odd, keeps_odd, keeps_silent, Absorbs}
use Rattle.html_tokenizer.proofs.Tags.Keeping.{took_here, absorbs_odd}
use Rattle.html_tokenizer.proofs.Steps.Lawful.{slight-absorbed}
use Rattle.html_tokenizer.proofs.Tags.Readings.{name-more, name-end, tag-space, tag-slash, tag-end, tag-slash_end}
use Rattle.html_tokenizer.specs.Listeners.{listening}

ends-space : (c : ℕ) → is_white_space c ≡ true → ends_tag_name c ≡ true
ends-space c e = rw e refl

ends-none : (c : ℕ) → is_white_space c ≡ false → c ≢ 47 → c ≢ 62 → ends_tag_name c ≡ false
ends-none c e f g = rw (e, ne_eqb c 47 f, ne_eqb c 62 g) refl

-- U+0000 ends no tag's name
null-none : (c : ℕ) → is_null c ≡ true → ends_tag_name c ≡ false
null-none c e = grind (arith, nat_tests)

-- what is not ">"
not-close : (c : ℕ) → not (nat_eq c 62) ≡ true → nat_eq 62 c ≡ false
not-close c e = grind (arith, nat_tests)

module _ {K H : Type 0} (Sink : Ghosts K H) where
  pub tag_name-space : (old : Tokenizer K) (c : ℕ) → IsAt old state.TagName → Sink.is_sound (Sink.view old.sink) → is_white_space c ≡ true
      → Took Sink old (record old { state = state.BeforeAttributeName }) c flow.Continue
  unfolding held_at
  tag_name-space old c from ok e =
      took Sink old (record old { state = state.BeforeAttributeName }) c state.TagName state.BeforeAttributeName
      from (record { state = refl; fresh = from.fresh }) refl refl ok
      (λ b s t. name-end (listening Sink) (rows_of old) (standing old InData) old.tag b s c t (ends-space c e)
      ∙ tag-space (listening Sink) (rows_of old) (standing old InData) old.tag b s c t e)

  pub tag_name-slash : (old : Tokenizer K) (c : ℕ) → IsAt old state.TagName → Sink.is_sound (Sink.view old.sink) → c ≡ 47
      → Took Sink old (record old { state = state.SelfClosingStartTag }) c flow.Continue
  unfolding held_at
  tag_name-slash old c from ok e = rw e (
      took_here Sink old (record old { state = state.SelfClosingStartTag }) 47 state.TagName
      state.SelfClosingStartTag from (record { state = refl; fresh = from.fresh }) refl refl ok refl
      (λ b s t. name-end (listening Sink) (rows_of old) (standing old InData) old.tag b s 47 t refl))

  pub tag_name-close : (old new : Tokenizer K) (c : ℕ) (result : Result (ProcessResult H) ParseFault)
      → IsAt old state.TagName → Sink.is_sound (Sink.view old.sink) → c ≡ 62
      → EndsTag Sink old new result → Keeps Sink old new c result
  unfolding held_at
  tag_name-close old new c result from ok e h = rw e (
      took_tag Sink old new 62 state.TagName result from refl h
      (λ b s x t. name-end (listening Sink) (rows_of old) (standing old InData) old.tag b s 62 t refl
      ∙ tag-end (listening Sink) (rows_of old) (standing old InData) old.tag b s t
      ∙ noted-tag Sink old old.tag (after_tag (standing old InData) old.tag) b s t) ok)

  pub tag_name-more : (old : Tokenizer K) (c : ℕ) (name : List ℕ) → IsAt old state.TagName
      → Sink.is_sound (Sink.view old.sink) → is_white_space c ≡ false → c ≢ 47 → c ≢ 62 → name ≡ old.tag.name ++ lowered c ∷ []
      → Took Sink old (record old { tag = record old.tag { name = name } }) c flow.Continue
  unfolding held_at
  tag_name-more old c name from ok e f g is = rw is (
      took_odd Sink (is_null c) old (record old { tag = record old.tag { name = old.tag.name ++ lowered c ∷ [] } })
      c state.TagName state.TagName from (record { state = from.state; fresh = from.fresh }) refl refl ok
      (λ b s t. name-more (listening Sink) (rows_of old) slight-absorbed (standing old InData) old.tag b s c t (ends-none c e f g)))

  pub slash-close : (old new : Tokenizer K) (c : ℕ) (result : Result (ProcessResult H) ParseFault)
      → IsAt old state.SelfClosingStartTag → Sink.is_sound (Sink.view old.sink) → c ≡ 62
      → EndsTag Sink (record old { tag = record old.tag { self_closing = true } }) new result → Keeps Sink old new c result
  unfolding held_at
  slash-close old new c result from ok e h =
      let closed = record old { tag = record old.tag { self_closing = true } } in
      let at_closed : IsAt closed state.SelfClosingStartTag = record { state = from.state; fresh = from.fresh } in
      let law = λ (k : Tokenizer K) (b : ℕ) (s : Sink.State × Notes ℕ) (t : List ℕ). tag-slash_end (listening Sink)
      (rows_of k) (standing k InData) k.tag b s t in
      rw e (
      keeps_silent Sink old closed new 62 state.SelfClosingStartTag state.SelfClosingStartTag result from at_closed
      refl refl (λ b s t. law old b s t ∙ sym (law closed b s t))
      (took_tag Sink closed new 62 state.SelfClosingStartTag result at_closed refl h
      (λ b s x t. law closed b s t ∙ noted-tag Sink closed closed.tag (after_tag (standing closed InData) closed.tag) b s t) ok))

  pub slash-other : (old new : Tokenizer K) (c : ℕ) (result : Result (ProcessResult H) ParseFault)
      → IsAt old state.SelfClosingStartTag → c ≢ 62
      → Keeps Sink (record old { state = state.BeforeAttributeName }) new c result → Keeps Sink old new c result
  unfolding held_at
  slash-other old new c result from ne h =
      keeps_odd Sink true old (record old { state = state.BeforeAttributeName }) new c state.SelfClosingStartTag
      state.BeforeAttributeName result from (record { state = refl; fresh = from.fresh }) refl refl
      (λ b s t. tag-slash (listening Sink) (rows_of old) slight-absorbed (standing old InData) old.tag b s c t
      (ne_eqb 62 c (λ e. ne (sym e)))) h

  -- U+0000 in a tag's name is odd
  pub tag_name-absorbs : (old : Tokenizer K) (c : ℕ) → IsAt old state.TagName → is_null c ≡ true → Absorbs Sink old c
  unfolding held_at
  tag_name-absorbs old c from e =
      let tag = record old.tag { name = old.tag.name ++ lowered c ∷ [] } in
      absorbs_odd Sink old c state.TagName (is_null c)
      (λ b s t. plays Sink (rows_of old) (name_after (standing old InData) tag t) (b + line_break (nat_eq c 10)) s t) from e
      (λ b s t. name-more (listening Sink) (rows_of old) slight-absorbed (standing old InData) old.tag b s c t (null-none c e))

  -- so is what stands after "/" in a tag, where it is not its end
  pub slash-absorbs : (old : Tokenizer K) (c : ℕ) → IsAt old state.SelfClosingStartTag → not (nat_eq c 62) ≡ true → Absorbs Sink old c
  unfolding held_at
  slash-absorbs old c from ne =
      absorbs_odd Sink old c state.SelfClosingStartTag true
      (λ b s t. reads Sink (rows_of old) (moved (standing old InData) (InTag old.tag)) b s (c ∷ t)) from refl
      (λ b s t. tag-slash (listening Sink) (rows_of old) slight-absorbed (standing old InData) old.tag b s c t (not-close c ne))
