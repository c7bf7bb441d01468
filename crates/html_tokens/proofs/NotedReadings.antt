-- What a text makes of a sink does not depend on what is noted of it.
use Rattle.std.proofs.Common.{◌≡◌, ℕ, ◌+◌, ◌-◌, zero, suc, Bool, List, [], ◌∷◌, take, Option, Some, None, Result, Ok, Err, refl}
use Rattle.html_tokens.specs.declared.replies.TokenSinkResult.{TokenSinkResult}
use Rattle.html_tokens.specs.declared.replies.TokenSinkResult.TheVariants as reply
use Rattle.html_tokens.specs.declared.token.Token.{Token}
use Rattle.html_tokens.specs.declared.token.Token.TheVariants.{EOFToken}
use Rattle.html_tokens.specs.Item.{Fault, Stand, fault_at_end}
use Rattle.html_tokens.specs.Items.{item}
use Rattle.html_tokens.specs.Notes.{Notes, without_notes, noted, heard, noting, noting_error, noting_cdata, noting_end, wronged, paused}
use Rattle.html_tokens.specs.Reading.{◌>>=◌, said, next_stand, line_breaks, line_number, reading_from}
use Rattle.html_tokens.specs.Table.{Row}

module _ {S H F : Type 0} (step : S → Token → ℕ → Result (S × TokenSinkResult H) F) (quiet : S → Token → Bool)
    (cdata : S → Bool) (ends : S → S) (rows : List Row) where
  -- what each step of the one goes on with is what that of the other does
  abbrev GoesOn : ((S × Notes H) × TokenSinkResult H → Result (S × Notes H) (F × ℕ)) → (S × TokenSinkResult H → Result S F) → Type 0
  GoesOn f g = (p : S × TokenSinkResult H) (notes : Notes H) → without_notes (f ((p.0, notes), p.1)) ≡ g p

  noted-without_notes : (notes : Notes H) (r : Result (S × TokenSinkResult H) F)
      (f : (S × Notes H) × TokenSinkResult H → Result (S × Notes H) (F × ℕ)) (g : S × TokenSinkResult H → Result S F) → GoesOn f g
      → without_notes (noted notes r >>= f) ≡ (r >>= g)
  noted-without_notes notes (Ok p) f g h = h p (record notes { pauses = paused notes.pauses p.1 })
  noted-without_notes notes (Err e) f g h = refl

  said-without_notes : (fault : Option Fault) (token : Option Token) (b : ℕ) (s : S) (notes : Notes H)
      (f : (S × Notes H) × TokenSinkResult H → Result (S × Notes H) (F × ℕ)) (g : S × TokenSinkResult H → Result S F) → GoesOn f g
      → without_notes (said (noting step quiet) noting_error fault token b (s, notes) >>= f) ≡
      (said step (λ fault s. s) fault token b s >>= g)
  said-without_notes None None b s notes f g h = h (s, reply.Continue) notes
  said-without_notes (Some fault) None b s notes f g h = h (s, reply.Continue) (wronged fault notes)
  said-without_notes None (Some t) b s notes f g h = noted-without_notes (heard (quiet s t) notes) (step s t (line_number b)) f g h
  said-without_notes (Some fault) (Some t) b s notes f g h = noted-without_notes
      (heard (quiet s t) (wronged fault notes)) (step s t (line_number b)) f g h

  pub reading-without_notes : (n : ℕ) (st : Stand) (b : ℕ) (s : S) (notes : Notes H) (t : List ℕ)
      → without_notes (reading_from (noting step quiet) noting_error (noting_cdata cdata) (noting_end ends) rows n
      st b (s, notes) t) ≡ reading_from step (λ fault s. s) cdata ends rows n st b s t
  unfolding reading_from
  reading-without_notes n st b s notes [] = said-without_notes (fault_at_end st.place) (Some EOFToken) b s notes
      (λ p. Ok (noting_end ends p.0)) (λ p. Ok (ends p.0)) (λ p notes. refl)
  reading-without_notes zero st b s notes (c ∷ t) =
      let i = item rows (cdata s) st c t in
      let read = b + line_breaks (take i.len (c ∷ t)) in
      said-without_notes i.fault i.token read s notes
      (λ p. reading_from (noting step quiet) noting_error (noting_cdata cdata) (noting_end ends) rows (i.len - 1)
      (next_stand i.next p.1) read p.0 t)
      (λ p. reading_from step (λ fault s. s) cdata ends rows (i.len - 1) (next_stand i.next p.1) read p.0 t)
      (λ p notes. reading-without_notes (i.len - 1) (next_stand i.next p.1) read p.0 notes t)
  reading-without_notes (suc n) st b s notes (c ∷ t) = reading-without_notes n st b s notes t
