-- The end of the input after a reference that is held.
use Rattle.std.proofs.Common.{◌≡◌, ◌∙◌, ℕ, Bool, true, false, List, [], ◌++◌, Option, Some, Result, refl, ap, arith}
use Rattle.std.specs.Prelude.{is_some}
use Rattle.std.specs.List.{list_all}
use Rattle.markup.specs.declared.fault.ParseFault.{ParseFault}
use Rattle.html_tokens.specs.declared.states.AttrValueKind.{AttrValueKind}
use Rattle.html_tokens.specs.declared.states.RawKind.TheVariants as raw
use Rattle.html_tokens.specs.declared.states.State.TheVariants as state
use Rattle.html_tokens.specs.declared.token.Token.TheVariants.{CharacterTokens}
use Rattle.html_tokens.specs.declared.sink.TokenSink.{Ghosts}
use Rattle.html_tokens.specs.Item.{Grave, slight_if}
use Rattle.html_tokens.specs.Notes.{Notes, noting_error}
use Rattle.html_tokens.specs.Reference.{fault_of_reference}
use Rattle.html_tokens.specs.Sink.{SinkLaws}
use Rattle.html_tokens.specs.Reading.{reading_from}
use Rattle.html_tokenizer.specs.Calls.{at_end, Closes}
use Rattle.html_tokenizer_parts.specs.CharRefs.{is_held, resolved}
use Rattle.html_tokenizer_parts.specs.declared.held_reference.Ampersand.{Ampersand}
use Rattle.html_tokenizer_parts.specs.declared.held_reference.Ampersand.TheVariants.{Held}
use Rattle.html_tokenizer.specs.declared.tokenizer.Tokenizer.{Tokenizer}
use Rattle.html_tokenizer.specs.Rest.{rows_of, held_at}
use Rattle.html_tokenizer.specs.Steps.{more, owed_for, IsAt, Tells, Errs, a_fault}
use Rattle.html_tokenizer.proofs.EndOfInput.Keeping.{closes_last, closes_end}
use Rattle.html_tokenizer.proofs.EndOfInput.Tags.{tag-ends}
use Rattle.html_tokenizer.proofs.HeldReferences.Holding.{now-held}
use Rattle.html_tokenizer.proofs.HeldReferences.InText.{data-at_end, rcdata-at_end}
use Rattle.html_tokenizer.proofs.HeldReferences.InValues.{value-at_end, wronged_by}

module _ {K H : Type 0} (Sink : Ghosts K H) where
  -- The machine is as it was, with what it held taken out and named.
  pub closes_where : (old new : Tokenizer K) (held : Option Ampersand) (result : Result (Unit {0}) ParseFault)
      → old.char_ref ≡ held → Closes Sink (record old { char_ref = held }) new result → Closes Sink old new result
  closes_where old new held result e h =
      let is : (record old { char_ref = held }) ≡ old = rw (← e) refl in
      rw is at h

  -- a fault is noted whatever slight was noted before it
  grave-noted : (wrong : Bool) (s : Sink.State × Notes ℕ) → noting_error Grave
      (s.0, more (owed_for (slight_if wrong)) s.1) ≡ (s.0, more a_fault s.1)
  grave-noted true s = refl
  grave-noted false s = refl

  -- of a tag with a reference in a value nothing is told either
  pub value-closes : (old new : Tokenizer K) (kind : AttrValueKind) (cs : List ℕ)
      (result : Result (Unit {0}) ParseFault) → IsAt old (state.AttributeValue kind)
      → Sink.is_sound (Sink.view old.sink) → list_all is_held cs ≡ true
      → Errs Sink a_fault old new result → Closes Sink (record old { char_ref = Some (Held cs) }) new result
  value-closes old new kind cs result from ok held errs = closes_end Sink a_fault a_fault old new (Some (Held cs))
      result (record { faults = omega arith; quiet = λ e. e }) ok (λ notes.
      let s : Sink.State × Notes ℕ = (Sink.view old.sink, notes) in
      now-held Sink old (state.AttributeValue kind) cs old.stream.breaks s [] from.state refl
      ∙ value-at_end Sink kind old cs held old.stream.breaks s
      ∙ tag-ends Sink (state.AttributeValue kind) refl
      (record old { attribute_value = old.attribute_value ++ resolved true (rows_of old) cs false })
      old.stream.breaks (wronged_by Sink old cs s)
      ∙ ap (at_end Sink old.stream.breaks) (grave-noted (is_some (fault_of_reference (rows_of old) cs)) s)) errs

module _ {K H : Type 0} (Sink : Ghosts K H) (laws : SinkLaws Sink.is_sound Sink.step Sink.ended Sink.is_quiet) where
  -- what a reference in data stands for was told
  pub data-closes : (old new : Tokenizer K) (cs : List ℕ) (result : Result (Unit {0}) ParseFault)
      → IsAt old state.Data → Sink.is_sound (Sink.view old.sink) → list_all is_held cs ≡ true
      → Tells Sink (owed_for (fault_of_reference (rows_of old) cs))
      (CharacterTokens (resolved false (rows_of old) cs false)) old new result
      → Closes Sink (record old { char_ref = Some (Held cs) }) new result
  unfolding held_at reading_from
  data-closes old new cs result from ok held told = closes_last Sink
      (owed_for (fault_of_reference (rows_of old) cs)) old new (Some (Held cs))
      (CharacterTokens (resolved false (rows_of old) cs false)) result (λ notes.
      now-held Sink old state.Data cs old.stream.breaks (Sink.view old.sink, notes) [] from.state refl
      ∙ data-at_end Sink laws old cs held old.stream.breaks (Sink.view old.sink, notes) ok) told

  -- the same in text with references that only its end tag ends
  pub rcdata-closes : (old new : Tokenizer K) (cs : List ℕ) (result : Result (Unit {0}) ParseFault)
      → IsAt old (state.RawData raw.Rcdata) → Sink.is_sound (Sink.view old.sink) → list_all is_held cs ≡ true
      → Tells Sink (owed_for (fault_of_reference (rows_of old) cs))
      (CharacterTokens (resolved false (rows_of old) cs false)) old new result
      → Closes Sink (record old { char_ref = Some (Held cs) }) new result
  unfolding held_at reading_from
  rcdata-closes old new cs result from ok held told = closes_last Sink
      (owed_for (fault_of_reference (rows_of old) cs)) old new (Some (Held cs))
      (CharacterTokens (resolved false (rows_of old) cs false)) result (λ notes.
      now-held Sink old (state.RawData raw.Rcdata) cs old.stream.breaks (Sink.view old.sink, notes) [] from.state refl
      ∙ rcdata-at_end Sink laws old cs held old.stream.breaks (Sink.view old.sink, notes) ok) told
