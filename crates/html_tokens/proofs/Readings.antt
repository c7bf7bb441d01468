-- A reading begins with the item at its front.
use Rattle.std.proofs.Common.{◌≡◌, ◌∙◌, ℕ, zero, suc, ◌+◌, ◌-◌, ◌≤◌, Bool, List, [], ◌∷◌, take, drop, Result, Ok, Err, refl}
use Rattle.std.proofs.Common.{sym, ap, arith, sub-one}
use Rattle.std.specs.Prelude.{IfOk}
use Rattle.html_tokens.specs.declared.replies.TokenSinkResult.{TokenSinkResult}
use Rattle.html_tokens.specs.declared.token.Token.{Token}
use Rattle.html_tokens.specs.Item.{Fault, Stand}
use Rattle.html_tokens.specs.Items.{item}
use Rattle.html_tokens.specs.Reading.{◌>>=◌, said, next_stand, line_breaks, reading_from, reading, play}
use Rattle.html_tokens.specs.Table.{Row}
use Rattle.html_tokens.proofs.Lengths.{item-takes}

-- the next step is the same where what it does with each value is
pub bind_same : {A B F : Type 0} (r : Result A F) (f g : A → Result B F) → ((x : A) → f x ≡ g x) → (r >>= f) ≡ (r >>= g)
bind_same (Ok x) f g h = h x
bind_same (Err e) f g h = refl

-- the same where what it does with the value that is given is
pub bind_where : {A B F : Type 0} (r : Result A F) (f g : A → Result B F) → IfOk r (λ x. f x ≡ g x) → (r >>= f) ≡ (r >>= g)
bind_where (Ok x) f g h = h
bind_where (Err e) f g h = refl

-- a first character more, which is dropped
drop-more : (n : ℕ) (c : ℕ) (t : List ℕ) → 1 ≤ n → drop n (c ∷ t) ≡ drop (n - 1) t
drop-more zero c t h = absurd (omega arith)
drop-more (suc n) c t h = rw sub-one refl

module _ {S H F : Type 0} (step : S → Token → ℕ → Result (S × TokenSinkResult H) F) (erred : Fault → S → S)
    (cdata : S → Bool) (ends : S → S) (rows : List Row) where
  pub reading-skip : (n : ℕ) (st : Stand) (breaks : ℕ) (s : S) (t : List ℕ) → reading_from step erred cdata ends
      rows n st breaks s t ≡ reading step erred cdata ends rows st breaks s (drop n t)
  unfolding reading_from
  reading-skip zero st breaks s t = refl
  reading-skip (suc n) st breaks s [] = refl
  reading-skip (suc n) st breaks s (c ∷ t) = reading-skip n st breaks s t

  pub reading-item : (st : Stand) (breaks : ℕ) (s : S) (c : ℕ) (t : List ℕ) → reading step erred cdata ends rows st
      breaks s (c ∷ t) ≡ play step erred cdata ends rows (item rows (cdata s) st c t) breaks s (c ∷ t)
  unfolding reading_from
  reading-item st breaks s c t =
      let i = item rows (cdata s) st c t in
      bind_same (said step erred i.fault i.token (breaks + line_breaks (take i.len (c ∷ t))) s) _ _
      (λ p. reading-skip (i.len - 1) _ _ p.0 t
      ∙ ap (λ u. reading step erred cdata ends rows (next_stand i.next p.1)
      (breaks + line_breaks (take i.len (c ∷ t))) p.0 u) (sym (drop-more i.len c t (item-takes rows (cdata s) st c t).some)))
