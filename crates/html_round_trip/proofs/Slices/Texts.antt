-- Escaped text is read as one text.
use Rattle.std.proofs.Common.{◌≡◌, ◌∙◌, ℕ, ◌+◌, Bool, true, List, [], ◌∷◌, ◌++◌, Option, Result, ap, arith, append_assoc, append-nil}
use Rattle.std.specs.List.{list_all}
use Rattle.std.proofs.lemmas.Bool.{and_parts}
use Rattle.markup.specs.Escape.{escaped, escape}
use Rattle.html_tokens.specs.declared.replies.TokenSinkResult.{TokenSinkResult}
use Rattle.html_tokens.specs.declared.token.Token.{Token}
use Rattle.html_tokens.specs.declared.token.Token.TheVariants.{CharacterTokens}
use Rattle.html_tokens.specs.Item.{Fault, Stand}
use Rattle.html_tokens.specs.Laws.{JoinsText, is_not_null, ReadsEscapes}
use Rattle.html_tokens.specs.Reading.{◌>>=◌, line_number, line_breaks, reading}
use Rattle.html_tokens.specs.Table.{Row}
use Rattle.html_tokens.proofs.TextLaws.{line_breaks-append, joined, stays, line_free}
use Rattle.html_round_trip.specs.Slices.Forms.{TextPlace, in_text}
use Rattle.html_round_trip.specs.Slices.Laws.{IsTextRead}
use Rattle.html_round_trip.proofs.Slices.Spells.{token-read}
use Rattle.html_round_trip.proofs.Slices.SpelledForms.{character-spelled}

module _ {S H F : Type 0} (step : S → Token → ℕ → Result (S × TokenSinkResult H) F) (erred : Fault → S → S)
    (cdata : S → Bool) (ends : S → S) (rows : List Row) (is_sound : S → Type 0) (joins : JoinsText is_sound step)
    (reads : ReadsEscapes rows) where
  abbrev read : Stand → ℕ → S → List ℕ → Result S F
  read st breaks s t = reading step erred cdata ends rows st breaks s t

  one : (place : TextPlace) (last : Option (List ℕ)) (breaks : ℕ) (s : S) → is_sound s → (c : ℕ) (u : List ℕ) (l : ℕ) → is_not_null c ≡ true
      → read (in_text place last) breaks s (escaped c ++ u) ≡ (step s (CharacterTokens (c ∷ [])) l
      >>= λ p. read (in_text place last) (breaks + line_breaks (escaped c)) p.0 u)
  one place last breaks s sound c u l h =
      let k = line_number (breaks + line_breaks (escaped c)) in
      token-read step erred cdata ends rows _ _ _ _ (character-spelled rows reads place last c h) breaks s u
      ∙ (stays step erred cdata ends rows is_sound joins (in_text place last) (breaks + line_breaks (escaped c))
      (step s (CharacterTokens (c ∷ [])) k) u (joins.goes_on s sound (c ∷ []) k)
      ∙ ap (λ r. r >>= λ p. read (in_text place last) (breaks + line_breaks (escaped c)) p.0 u)
      (line_free step erred cdata ends rows is_sound joins s sound (c ∷ []) k l))

  pub text-read : IsTextRead is_sound step erred cdata ends rows
  text-read place last breaks s sound c [] t line h = rw append-nil (one place last breaks s sound c t line (and_parts _ _ h).0)
  text-read place last breaks s sound c (d ∷ cs) t line h =
      let st = in_text place last in
      let parts = and_parts (is_not_null c) (list_all is_not_null (d ∷ cs)) h in
      let more = escape (d ∷ cs) in
      let sum : (breaks + line_breaks (escaped c)) + line_breaks more ≡ breaks + line_breaks (escaped c ++ more) =
      omega (arith, line_breaks-append (escaped c) more) in
      ap (λ w. read st breaks s w) (append_assoc (escaped c) more t)
      ∙ (one place last breaks s sound c (more ++ t) 0 parts.0
      ∙ joined step erred cdata ends rows is_sound joins st (c ∷ []) (d ∷ cs) t
      (breaks + line_breaks (escaped c ++ more)) s sound 0 0 line (λ q. read st (breaks + line_breaks (escaped c)) q (more ++ t))
      (λ q k. text-read place last (breaks + line_breaks (escaped c)) q k d cs t 0 parts.1
      ∙ ap (λ n. step q (CharacterTokens (d ∷ cs)) 0 >>= λ p. read st n p.0 t) sum))
