-- Items that give nothing, and then one that gives a token, are read as that token.
use Rattle.std.proofs.Common.{◌≡◌, ◌∙◌, ℕ, zero, suc, ◌+◌, ◌-◌, ◌≤◌, Bool, true, false, List, [], ◌∷◌, ◌++◌, take, drop, Result}
use Rattle.std.proofs.Common.{Ok, Err, refl, sym, ap, arith, sub-one, append_assoc}
use Rattle.std.proofs.Math.Seq.{take-append_seam, drop-append_seam}
use Rattle.std.specs.Prelude.{◌&&◌}
use Rattle.html_tokens.specs.declared.replies.TokenSinkResult.{TokenSinkResult}
use Rattle.html_tokens.specs.declared.token.Token.{Token}
use Rattle.html_tokens.specs.Clean.{is_clean, quiet_by, clean_by, clean_from, is_clean_reading}
use Rattle.html_tokens.specs.Item.{Item, Fault, Stand}
use Rattle.html_tokens.specs.Items.{item}
use Rattle.html_tokens.specs.Reading.{said, next_stand, line_number, line_breaks, reading, play}
use Rattle.html_tokens.specs.Table.{Row}
use Rattle.html_tokens.proofs.Lengths.{item-takes}
use Rattle.html_tokens.proofs.Readings.{reading-item}
use Rattle.html_tokens.proofs.TextLaws.{line_breaks-append}
use Rattle.html_round_trip.specs.Slices.Slices.{Spells, Last, More, after, IsToken, IsCleanToken}

-- a first character more, which is dropped
drop-more : (n : ℕ) (c : ℕ) (t : List ℕ) → 1 ≤ n → drop n (c ∷ t) ≡ drop (n - 1) t
drop-more zero c t h = absurd (omega arith)
drop-more (suc n) c t h = rw sub-one refl

lines-two : (breaks : ℕ) (a b : List ℕ) → (breaks + line_breaks a) + line_breaks b ≡ breaks + line_breaks (a ++ b)
lines-two breaks a b = omega (arith, line_breaks-append a b)

module _ {S H F : Type 0} (step : S → Token → ℕ → Result (S × TokenSinkResult H) F) (erred : Fault → S → S)
    (cdata : S → Bool) (ends : S → S) (rows : List Row) where
  abbrev read : Stand → ℕ → S → List ℕ → Result S F
  read st breaks s t = reading step erred cdata ends rows st breaks s t

  abbrev told_at : Stand → Token → S → List ℕ → ℕ → Result S F
  told_at next token s t n = after step erred cdata ends rows next n (step s token (line_number n)) t

  one-read : (st : Stand) (breaks : ℕ) (s : S) (c : ℕ) (cs u : List ℕ) (i : Item) → item rows (cdata s) st c
      (cs ++ u) ≡ i → read st breaks s ((c ∷ cs) ++ u) ≡ play step erred cdata ends rows i breaks s (c ∷ (cs ++ u))
  one-read st breaks s c cs u i e = reading-item step erred cdata ends rows st breaks s c (cs ++ u)
      ∙ ap (λ i. play step erred cdata ends rows i breaks s (c ∷ (cs ++ u))) e

  pub spelled-read : (s : S) (t : List ℕ) (st next : Stand) (slice : List ℕ) (token : Token) (breaks : ℕ)
      → Spells rows (cdata s) t st slice token next
      → read st breaks s (slice ++ t) ≡ told_at next token s t (breaks + line_breaks slice)
  spelled-read s t st next slice token breaks (Last c cs e k) =
      one-read st breaks s c cs t _ e ∙ (rw (take-append_seam cs t, drop-append_seam cs t) refl)
  spelled-read s t st next slice token breaks (More mid c cs b e k rest) =
      ap (read st breaks s) (append_assoc (c ∷ cs) b t)
      ∙ (one-read st breaks s c cs (b ++ t) _ e
      ∙ (rw (take-append_seam cs (b ++ t), drop-append_seam cs (b ++ t))
      (spelled-read s t mid next b token (breaks + line_breaks (c ∷ cs)) rest)
      ∙ ap (told_at next token s t) (lines-two breaks (c ∷ cs) b)))

  pub token-read : (st next : Stand) (slice : List ℕ) (token : Token)
      → ((asked : Bool) (t : List ℕ) → Spells rows asked t st slice token next) → IsToken step erred cdata ends rows st slice token next
  token-read st next slice token h breaks s t = spelled-read s t st next slice token breaks (h (cdata s) t)

module _ {S H F : Type 0} (step : S → Token → ℕ → Result (S × TokenSinkResult H) F) (quiet : S → Token → Bool)
    (cdata : S → Bool) (ends : S → S) (rows : List Row) where
  abbrev clean : Stand → ℕ → S → List ℕ → Bool
  clean st breaks s t = is_clean_reading step quiet cdata rows st breaks s t

  clean-skip : (n : ℕ) (st : Stand) (breaks : ℕ) (s : S) (t : List ℕ) → clean_from step quiet cdata rows n st breaks
      s t ≡ clean st breaks s (drop n t)
  unfolding clean_from
  clean-skip zero st breaks s t = refl
  clean-skip (suc n) st breaks s [] = refl
  clean-skip (suc n) st breaks s (c ∷ t) = clean-skip n st breaks s t

  clean-same : (b : Bool) (r : Result (S × TokenSinkResult H) F) (f g : S × TokenSinkResult H → Bool)
      → ((p : S × TokenSinkResult H) → f p ≡ g p) → clean_by step quiet cdata rows b r f ≡ clean_by step quiet cdata rows b r g
  clean-same false r f g h = refl
  clean-same true (Ok p) f g h = h p
  clean-same true (Err e) f g h = refl

  -- an item, and then what follows it
  abbrev played : Bool → Item → ℕ → S → List ℕ → Bool
  played good i breaks s t =
      let behind = breaks + line_breaks (take i.len t) in
      clean_by step quiet cdata rows (good && quiet_by quiet i.token s)
      (said step (λ (fault : Fault) s. s) i.fault i.token behind s) (λ p. clean (next_stand i.next p.1) behind p.0 (drop i.len t))

  clean-item : (st : Stand) (breaks : ℕ) (s : S) (c : ℕ) (t : List ℕ) → clean st breaks s (c ∷ t) ≡ played
      (is_clean rows st c t) (item rows (cdata s) st c t) breaks s (c ∷ t)
  unfolding clean_from
  clean-item st breaks s c t =
      let i = item rows (cdata s) st c t in
      let behind = breaks + line_breaks (take i.len (c ∷ t)) in
      clean-same (is_clean rows st c t && quiet_by quiet i.token s) (said step (λ (fault : Fault) s. s) i.fault i.token behind s) _ _
      (λ p. clean-skip (i.len - 1) (next_stand i.next p.1) behind p.0 t
      ∙ ap (λ u. clean (next_stand i.next p.1) behind p.0 u) (sym (drop-more i.len c t (item-takes rows (cdata s) st c t).some)))

  one-clean : (st : Stand) (breaks : ℕ) (s : S) (c : ℕ) (cs u : List ℕ) (i : Item) → item rows (cdata s) st c
      (cs ++ u) ≡ i → is_clean rows st c (cs ++ u) ≡ true → clean st breaks s ((c ∷ cs) ++ u) ≡ played true i breaks s (c ∷ (cs ++ u))
  one-clean st breaks s c cs u i e k =
      clean-item st breaks s c (cs ++ u)
      ∙ (ap (λ i. played (is_clean rows st c (cs ++ u)) i breaks s (c ∷ (cs ++ u))) e ∙ ap (λ b. played b i breaks s (c ∷ (cs ++ u))) k)

  abbrev quiet_at : Stand → Token → S → List ℕ → ℕ → Bool
  quiet_at next token s t n = clean_by step quiet cdata rows (quiet s token) (step s token (line_number n))
      (λ p. clean (next_stand next p.1) n p.0 t)

  pub spelled-clean : (s : S) (t : List ℕ) (st next : Stand) (slice : List ℕ) (token : Token) (breaks : ℕ)
      → Spells rows (cdata s) t st slice token next
      → clean st breaks s (slice ++ t) ≡ quiet_at next token s t (breaks + line_breaks slice)
  spelled-clean s t st next slice token breaks (Last c cs e k) =
      one-clean st breaks s c cs t _ e k ∙ (rw (take-append_seam cs t, drop-append_seam cs t) refl)
  spelled-clean s t st next slice token breaks (More mid c cs b e k rest) =
      ap (clean st breaks s) (append_assoc (c ∷ cs) b t)
      ∙ (one-clean st breaks s c cs (b ++ t) _ e k
      ∙ (rw (take-append_seam cs (b ++ t), drop-append_seam cs (b ++ t))
      (spelled-clean s t mid next b token (breaks + line_breaks (c ∷ cs)) rest)
      ∙ ap (quiet_at next token s t) (lines-two breaks (c ∷ cs) b)))

  pub token-clean : (st next : Stand) (slice : List ℕ) (token : Token)
      → ((asked : Bool) (t : List ℕ) → Spells rows asked t st slice token next) → IsCleanToken step quiet cdata ends
      rows st slice token next
  token-clean st next slice token h breaks s t = spelled-clean s t st next slice token breaks (h (cdata s) t)
