-- The end of the input in a tag, which is not told.
use Rattle.std.proofs.Common.{◌≡◌, ℕ, ◌+◌, true, None, Result, refl, ap, Some}
use Rattle.markup.specs.declared.fault.ParseFault.{ParseFault}
use Rattle.html_tokens.specs.Notes.{Notes, noting_error}
use Rattle.html_tokens.specs.declared.states.AttrValueKind.TheVariants as value
use Rattle.html_tokens.specs.declared.states.State.{State}
use Rattle.html_tokens.specs.declared.states.State.TheVariants as state
use Rattle.html_tokens.specs.declared.sink.TokenSink.{Ghosts}
use Rattle.html_tokens.specs.Reading.{reading_from}
use Rattle.html_tokens.specs.Tags.{value_from}
use Rattle.html_tokenizer.specs.Calls.{at_end, Closes}
use Rattle.html_tokenizer.specs.EndText.{is_tag_part}
use Rattle.html_tokenizer.specs.declared.tokenizer.Tokenizer.{Tokenizer}
use Rattle.html_tokenizer.specs.Rest.{held_at}
use Rattle.html_tokenizer.specs.Steps.{Errs, a_fault}
use Rattle.html_tokenizer.proofs.EndOfInput.Keeping.{OnlyEnds, closes_errs}
use Rattle.html_tokenizer.proofs.Errors.Rises.{no-more-same}
use Rattle.html_tokenizer.proofs.Steps.Readings.{sum-zero}
use Rattle.html_tokens.specs.Item.{Grave}

module _ {K H : Type 0} (Sink : Ghosts K H) where
  -- the end after no characters more
  end-here : (b : ℕ) (s : Sink.State × Notes ℕ) → at_end Sink (b + 0) s ≡ at_end Sink b s
  end-here b s = ap (λ n. at_end Sink n s) (sum-zero b)

  -- whatever was read of a tag, nothing is to come of it but its fault
  pub tag-ends : (st : State) → is_tag_part st ≡ true → (k : Tokenizer K) → OnlyEnds Sink (Some Grave) st k
  unfolding held_at reading_from value_from
  tag-ends state.TagName h k b s = end-here b (noting_error Grave s)
  tag-ends state.BeforeAttributeName h k b s = refl
  tag-ends state.AttributeName h k b s = end-here b (noting_error Grave s)
  tag-ends state.AfterAttributeName h k b s = end-here b (noting_error Grave s)
  tag-ends state.BeforeAttributeValue h k b s = end-here b (noting_error Grave s)
  tag-ends (state.AttributeValue value.Unquoted) h k b s = end-here b (noting_error Grave s)
  tag-ends (state.AttributeValue value.SingleQuoted) h k b s = end-here b (noting_error Grave s)
  tag-ends (state.AttributeValue value.DoubleQuoted) h k b s = end-here b (noting_error Grave s)
  tag-ends state.AfterAttributeValueQuoted h k b s = refl
  tag-ends state.SelfClosingStartTag h k b s = end-here b (noting_error Grave s)
  tag-ends _ h k b s = absurd cc

  -- a tag that does not end is an error, and is not told
  pub tag-closes : (old new : Tokenizer K) (result : Result (Unit {0}) ParseFault) → is_tag_part old.state ≡ true
      → old.char_ref ≡ None → Sink.is_sound (Sink.view old.sink) → Errs Sink a_fault old new result → Closes Sink old new result
  tag-closes old new result h fresh ok errs = closes_errs Sink (Some Grave) a_fault old new old.state result
      (no-more-same a_fault) (record { state = refl; fresh = fresh }) ok (tag-ends old.state h old) errs
