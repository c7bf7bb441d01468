-- Text and titles, over anything that reads.
use Rattle.std.proofs.Common.{◌≡◌, ◌∙◌, ℕ, ◌+◌, Bool, true, false, ◌&&◌, List, [], ◌∷◌, ◌++◌, Some, Result, refl, ap, arith}
use Rattle.std.proofs.Common.{append_assoc, append-nil}
use Rattle.std.proofs.lemmas.Bool.{and_parts}
use Rattle.html_tokens.specs.declared.replies.TokenSinkResult.{TokenSinkResult}
use Rattle.html_tokens.specs.declared.replies.TokenSinkResult.TheVariants.{Continue, RawData}
use Rattle.html_tokens.specs.declared.states.RawKind.TheVariants.{Rcdata}
use Rattle.html_tokens.specs.declared.token.Token.{Token}
use Rattle.html_tokens.specs.declared.token.Token.TheVariants.{CharacterTokens}
use Rattle.html_tokens.specs.Item.{Stand}
use Rattle.html_tokens.specs.Laws.{in_data, is_not_null, has_no_null, ReadsEscapes}
use Rattle.html_tokens.specs.Reading.{line_breaks}
use Rattle.html_tokens.specs.Table.{Row}
use Rattle.html_tokens.proofs.TextLaws.{line_breaks-append}
use Rattle.html_round_trip.specs.Slices.Forms.{is_letter_name, is_tag_name, Escapable, in_text, in_rcdata, start_token, end_token}
use Rattle.html_round_trip.specs.Slices.Laws.{IsTextTaken, IsTitleTaken}
use Rattle.html_round_trip.specs.Slices.Slices.{IsReader, OfReaders}
use Rattle.markup.specs.Escape.{end_tag, escape, escaped, start_tag}
use Rattle.html_round_trip.proofs.Slices.Items.{letters-tag}
use Rattle.html_round_trip.proofs.Slices.Spells.{token-read, token-clean}
use Rattle.html_tokens.specs.Notes.{noting, noting_error, noting_cdata, noting_end}
use Rattle.html_round_trip.proofs.Slices.SpelledForms.{start-spelled, fitting_end-spelled, character-spelled}

letter-name : (name : List ℕ) → is_letter_name name ≡ true → is_tag_name name ≡ true
letter-name [] h = absurd cc
letter-name (c ∷ n) h = letters-tag c n h

module _ {S H F : Type 0} (step : S → Token → ℕ → Result (S × TokenSinkResult H) F) (quiet : S → Token → Bool)
    (cdata : S → Bool) (ends : S → S) (rows : List Row) (reads : ReadsEscapes rows) {X : Type 0}
    (read : Stand → ℕ → S → List ℕ → X) (reader : IsReader step quiet cdata ends rows read) where
  pub text-taken : IsTextTaken step quiet cdata ends rows read
  text-taken state grows place last [] a h breaks t =
      rw append-nil (ap (λ n. read (in_text place last) n (state a) t) (let e : breaks ≡ breaks + 0 = omega arith in e))
  text-taken state grows place last (c ∷ cs) a h breaks t =
      let st = in_text place last in
      let p = and_parts (is_not_null c) (has_no_null cs) h in
      let sum : (breaks + line_breaks (escaped c)) + line_breaks (escape cs) ≡ breaks + line_breaks
      (escaped c ++ escape cs) = omega (arith, line_breaks-append (escaped c) (escape cs)) in
      ap (read st breaks (state a)) (append_assoc (escaped c) (escape cs) t)
      ∙ (reader st st (escaped c) (CharacterTokens (c ∷ [])) (character-spelled rows reads place last c p.0) breaks
      (state a) (state (a ++ c ∷ [])) Continue (escape cs ++ t) (grows a c _)
      ∙ (text-taken state grows place last cs (a ++ c ∷ []) p.1 (breaks + line_breaks (escaped c)) t
      ∙ (ap (λ n. read st n (state ((a ++ c ∷ []) ++ cs)) t) sum
      ∙ ap (λ b. read st (breaks + line_breaks (escaped c ++ escape cs)) (state b) t) (append_assoc a (c ∷ []) cs))))

  pub title-taken : IsTitleTaken step quiet cdata ends rows read
  title-taken name l attrs plain cs shown s new state opens grows closes last breaks t =
      let a = start_tag name attrs in
      let b = escape cs in
      let z = end_tag name in
      let n = breaks + line_breaks a in
      let shape : (a ++ (b ++ z)) ++ t ≡ a ++ (b ++ (z ++ t)) = simp append_assoc in
      let sum : (n + line_breaks b) + line_breaks z ≡ breaks + line_breaks (a ++ (b ++ z)) =
      omega (arith, line_breaks-append a (b ++ z), line_breaks-append b z) in
      ap (read (in_data last) breaks s) shape
      ∙ (reader (in_data last) (in_data (Some name)) a (start_token name attrs)
      (start-spelled rows reads last name attrs (letter-name name l) plain) breaks s (state [])
      (RawData Rcdata) (b ++ (z ++ t)) (opens _)
      ∙ (text-taken state grows Escapable (Some name) cs [] shown n (z ++ t)
      ∙ (reader (in_rcdata (Some name)) (in_data (Some name)) z (end_token name) (fitting_end-spelled rows name l)
      (n + line_breaks b) (state cs) new Continue t (closes _)
      ∙ ap (λ k. read (in_data (Some name)) k new t) sum)))

and-true : (b : Bool) → (b && true) ≡ b
and-true true = refl
and-true false = refl

module _ {S H F : Type 0} (step : S → Token → ℕ → Result (S × TokenSinkResult H) F) (quiet : S → Token → Bool)
    (cdata : S → Bool) (ends : S → S) (rows : List Row) where
  -- each of the three reads a slice as its token's step
  pub are-readers : OfReaders step quiet cdata ends rows (λ X read. IsReader step quiet cdata ends rows read)
  are-readers = record {
    reads = λ erred st next slice token h breaks s new reply t takes. token-read step erred cdata ends rows st next
        slice token h breaks s t ∙ (rw takes.gives refl);
    notes = λ notes st next slice token h breaks s new reply t takes.
        token-read (noting step quiet) noting_error (noting_cdata cdata) (noting_end ends) rows st next slice token
        h breaks (s, notes) t ∙ (rw (takes.gives, takes.is_quiet, takes.goes_on notes.pauses, and-true notes.is_quiet) refl);
    cleans = λ st next slice token h breaks s new reply t takes. token-clean step quiet cdata ends rows st next
        slice token h breaks s t ∙ (rw (takes.is_quiet, takes.gives) refl);
  }

  -- what holds of every reader holds of the three
  pub of-readers : (P : (X : Type 0) → (Stand → ℕ → S → List ℕ → X) → Type 0)
      → ((X : Type 0) (read : Stand → ℕ → S → List ℕ → X) → IsReader step quiet cdata ends rows read → P X read)
      → OfReaders step quiet cdata ends rows P
  of-readers P all = record {
    reads = λ erred. all _ _ (are-readers.reads erred);
    notes = λ notes. all _ _ (are-readers.notes notes);
    cleans = all _ _ are-readers.cleans;
  }
