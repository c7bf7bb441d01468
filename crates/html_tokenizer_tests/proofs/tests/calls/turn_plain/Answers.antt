use Rattle.std.proofs.Common.{◌≡◌, ◌∙◌, Bool, true, false, List, Option, Some, None, refl, sym, rules}
use Rattle.std.specs.Prelude.{◌&&◌, not, is_none}
use Rattle.html_tokens.specs.TextState.{is_text_state}
use Rattle.html_tokens.specs.declared.states.State.{State}
use Rattle.html_tokens.specs.declared.states.State.TheVariants as state
use Rattle.html_tokenizer.specs.Calls.{refused_by, refusal, is_nothing_pending, IsReadyIf}
use Rattle.html_tokens.specs.Table.{Row}
use Rattle.html_tokenizer_parts.specs.CharRefs.{fits_in}
use Rattle.html_tokenizer.specs.Rest.{rows_of}
use Rattle.html_tokenizer_parts.specs.declared.held_reference.Ampersand.{Ampersand}
use Rattle.html_tokenizer.specs.declared.tokenizer.Tokenizer.{Tokenizer}
use Rattle.html_tokenizer_tests.proofs.tests.calls.turn_plain.Goals as goal
use Rattle.html_tokens.specs.declared.sink.TokenSink.{Ghosts}

-- the third of four facts
third : (a b c d : Bool) → (a && b && c && d) ≡ true → c ≡ true
third a b true d h = refl
third true true false d h = absurd cc
third true false false d h = absurd cc
third false b false d h = absurd cc

-- where no reference is held, any state will do
fits-none : (rows : List Row) (behind : Option Ampersand) (st : State) → is_none behind ≡ true → fits_in rows behind st ≡ true
fits-none rows None st h = refl
fits-none rows (Some behind) st h = absurd cc

module _ {K H : Type 0} (Sink : Ghosts K H) where
  ready-if : (failed ended : Bool) (k : Tokenizer K) → is_none k.char_ref ≡ true → IsReadyIf Sink (refused_by failed ended) k
      → IsReadyIf Sink (refused_by failed ended) (record k { state = state.Plaintext })
  ready-if true ended k none h = tt
  ready-if false true k none h = tt
  ready-if false false k none h = record { sound = h.sound; fits = fits-none (rows_of k) k.char_ref state.Plaintext none }

  -- A tokenizer that may be called, with nothing pending, may be called where all that follows is text.
  ready-plain : (k new : Tokenizer K) → is_nothing_pending k ≡ true → new ≡ record k { state = state.Plaintext }
      → IsReadyIf Sink (refusal k.stream) k
      → IsReadyIf Sink (refusal new.stream) new
  ready-plain k new nothing is h =
      rw is (ready-if k.stream.has_failed k.stream.has_ended k
      (third (not k.stream.has_ended) (not k.stream.has_failed) (is_none k.char_ref) (is_text_state k.state) nothing) h)

pub returns : goal.returns
returns g c =
    let m = g.S.TokenSink in
    ready-plain m _ _ (sym c.nothing_pending.ensures.is ∙ search rules) c.set_plaintext_state.ensures.changed c.requires
