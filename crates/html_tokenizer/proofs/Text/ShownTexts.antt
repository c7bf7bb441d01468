-- A character of text that is told with U+FFFD in place of U+0000, which is a fault.
use Rattle.std.proofs.Common.{◌≡◌, ◌∙◌, ℕ, ◌+◌, Bool, false, nat_eq, List, [], ◌∷◌, refl, ap}
use Rattle.html_tokens.specs.declared.token.Token.{Token}
use Rattle.html_tokens.specs.declared.token.Token.TheVariants.{CharacterTokens}
use Rattle.html_tokens.specs.Characters.{shown}
use Rattle.html_tokens.specs.Item.{grave_if, Stand, character, shown_character}
use Rattle.html_tokens.specs.Items.{item}
use Rattle.html_tokens.specs.Notes.{Notes, noting}
use Rattle.html_tokens.specs.Reading.{◌>>=◌, line_number, line_break}
use Rattle.html_tokens.specs.Sink.{Step, SinkLaws}
use Rattle.html_tokens.specs.Table.{Row}
use Rattle.html_tokenizer.specs.Steps.{owed_for, more}
use Rattle.html_tokenizer.proofs.Steps.Lawful.{noting-lawful, erred-more, erred-sound}
use Rattle.html_tokenizer.proofs.Steps.Readings.{reading-char_as}
use Rattle.html_tokenizer.specs.Listeners.{noting_listener, emitted_text}

-- a character that is not U+0000 is told as itself
pub shown-itself : (c : ℕ) (st : Stand) → nat_eq c 0 ≡ false → shown_character c st ≡ character c st
shown-itself c st e = rw e refl

module _ {S : Type 0} (step : Step S) (cdata : S → Bool) (ends : S → S) (sound : S → Type 0)
    (quiet : S → Token → Bool) (laws : SinkLaws sound step ends quiet) (rows : List Row) where
  -- such a character is told next, and its fault is noted
  pub reading-shown : (st next : Stand) (b : ℕ) (s : S × Notes ℕ) → sound s.0 → (c : ℕ) (t : List ℕ)
      → item rows (cdata s.0) st c t ≡ shown_character c next
      → emitted_text (noting_listener step quiet cdata ends) rows st b s (c ∷ t)
      ≡ (noting step quiet (s.0, more (owed_for (grave_if (nat_eq c 0))) s.1) (CharacterTokens (shown c ∷ []))
      (line_number b) >>= λ p. emitted_text (noting_listener step quiet cdata ends) rows next (b + line_break (nat_eq c 10)) p.0 t)
  reading-shown st next b s h c t e =
      reading-char_as (λ p. sound p.0) (noting_listener step quiet cdata ends) rows
      (noting-lawful sound step ends quiet laws) (grave_if (nat_eq c 0)) st next b s
      (erred-sound sound (grave_if (nat_eq c 0)) s h) c (shown c) t (line_number b) e
      ∙ ap (λ q. noting step quiet q (CharacterTokens (shown c ∷ [])) (line_number b) >>= λ p. emitted_text
      (noting_listener step quiet cdata ends) rows next (b + line_break (nat_eq c 10)) p.0 t) (erred-more (grave_if (nat_eq c 0)) s)
