-- That a tokenizer is ready is a proposition where the sound states of its sink are propositions, so that a type above may keep it.
use Rattle.std.specs.Prelude.{◌≡◌, true, Option, Some, None}
use Rattle.std.proofs.Common.{refl, ap₂}
use mathlib.Core.Bool.{Bool-set}
use Rattle.markup.specs.declared.fault.ParseFault.{ParseFault}
use Rattle.html_tokens.specs.declared.sink.TokenSink.{Ghosts}
use Rattle.html_tokenizer.specs.Calls.{IsReady, IsReadyIf}
use Rattle.html_tokenizer_parts.specs.CharRefs.{fits_in}
use Rattle.html_tokenizer.specs.declared.tokenizer.Tokenizer.{Tokenizer}
use Rattle.html_tokenizer.specs.Rest.{rows_of}

module _ {K H : Type 0} (Sink : Ghosts K H) (is_prop : (s : Sink.State) → IsProp (Sink.is_sound s)) where
  ready : (k : Tokenizer K) → Sink.is_sound (Sink.view k.sink) → fits_in (rows_of k) k.char_ref k.state ≡ true → IsReady Sink k
  ready k sound fits = record { sound = sound; fits = fits }

  pub IsReady-prop : (k : Tokenizer K) → IsProp (IsReady Sink k)
  unfolding ready
  IsReady-prop k x y = ap₂ (ready k) (is_prop (Sink.view k.sink) x.sound y.sound)
      (Bool-set (fits_in (rows_of k) k.char_ref k.state) true x.fits y.fits)

  pub IsReadyIf-prop : (refused : Option ParseFault) (k : Tokenizer K) → IsProp (IsReadyIf Sink refused k)
  IsReadyIf-prop None k = IsReady-prop k
  IsReadyIf-prop (Some fault) k = λ x y. refl
