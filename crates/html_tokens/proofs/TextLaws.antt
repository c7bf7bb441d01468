-- How text is read: character by character, and as one.
use Rattle.std.proofs.Common.{◌≡◌, ◌∙◌, ℕ, ◌+◌, Bool, true, false, nat_eq, List, [], ◌∷◌, ◌++◌, take, drop, Option, Result, Ok}
use Rattle.std.proofs.Common.{Err, refl, sym, ap, arith, append-nil}
use Rattle.std.specs.Prelude.{not, IfOk}
use Rattle.std.specs.List.{list_all}
use Rattle.std.proofs.lemmas.Bool.{and_parts}
use Rattle.std.proofs.lemmas.Result.{IfOk-weaker}
use Rattle.html_tokens.specs.declared.replies.TokenSinkResult.{TokenSinkResult}
use Rattle.html_tokens.specs.declared.replies.TokenSinkResult.TheVariants.{Continue}
use Rattle.html_tokens.specs.declared.token.Token.{Token}
use Rattle.html_tokens.specs.declared.token.Token.TheVariants.{CharacterTokens}
use Rattle.html_tokens.specs.Item.{Fault, Stand, character, clean_item}
use Rattle.html_tokens.specs.Items.{item}
use Rattle.html_tokens.specs.Laws.{JoinsText, is_itself, in_data}
use Rattle.html_tokens.specs.Reading.{◌>>=◌, next_stand, line_number, line_breaks, reading, play}
use Rattle.html_tokens.specs.Table.{Row}
use Rattle.html_tokens.proofs.Readings.{bind_where, reading-item}

not-false : (b : Bool) → not b ≡ true → b ≡ false
not-false true h = cc
not-false false h = refl

pub line_breaks-append : (a b : List ℕ) → line_breaks (a ++ b) ≡ line_breaks a + line_breaks b
line_breaks-append [] b = omega arith
line_breaks-append (c ∷ a) b = omega (arith, line_breaks-append a b)

-- one step, the next, and the one after both
pub bind-assoc : {A B C F : Type 0} (r : Result A F) (f : A → Result B F) (g : B → Result C F) → ((r >>= f) >>= g) ≡ (r >>= λ x. f x >>= g)
bind-assoc (Ok x) f g = refl
bind-assoc (Err e) f g = refl

module _ {S H F : Type 0} (step : S → Token → ℕ → Result (S × TokenSinkResult H) F) (erred : Fault → S → S)
    (cdata : S → Bool) (ends : S → S) (rows : List Row) (is_sound : S → Type 0) (joins : JoinsText is_sound step) where
  -- after text the reading stands where it stood
  pub stays : (st : Stand) (breaks : ℕ) (r : Result (S × TokenSinkResult H) F) (t : List ℕ) → IfOk r (λ p. p.1 ≡ Continue)
      → (r >>= λ p. reading step erred cdata ends rows (next_stand st p.1) breaks p.0 t) ≡
      (r >>= λ p. reading step erred cdata ends rows st breaks p.0 t)
  stays st breaks (Ok p) t h = ap (λ reply. reading step erred cdata ends rows (next_stand st reply) breaks p.0 t) h
  stays st breaks (Err e) t h = refl

  -- a text, and what follows it told as one text, are told as one
  pub joined : (st : Stand) (a b t : List ℕ) (breaks : ℕ) (s : S) → is_sound s → (k l m : ℕ) (go : S → Result S F)
      → ((q : S) → is_sound q → go q ≡ (step q (CharacterTokens b) l >>= λ p. reading step erred cdata ends rows st breaks p.0 t))
      → (step s (CharacterTokens a) k >>= λ p. go p.0) ≡ (step s (CharacterTokens (a ++ b)) m
      >>= λ p. reading step erred cdata ends rows st breaks p.0 t)
  joined st a b t breaks s sound k l m go h =
      bind_where (step s (CharacterTokens a) k) _ _ (IfOk-weaker (step s (CharacterTokens a) k) _ _ (λ p q. h p.0 q)
      (joins.keeps s sound a k))
      ∙ sym (bind-assoc (step s (CharacterTokens a) k) (λ p. step p.0 (CharacterTokens b) l)
      (λ p. reading step erred cdata ends rows st breaks p.0 t))
      ∙ ap (λ r. r >>= λ p. reading step erred cdata ends rows st breaks p.0 t) (joins.pieces s sound a b k l m)

  -- text is told alike on every line
  pub line_free : (s : S) → is_sound s → (a : List ℕ) (k m : ℕ) → step s (CharacterTokens a) k ≡ step s (CharacterTokens a) m
  line_free s sound a k m =
      let e : step s (CharacterTokens (a ++ [])) k ≡ step s (CharacterTokens (a ++ [])) m =
      sym (joins.pieces s sound a [] 0 0 k) ∙ joins.pieces s sound a [] 0 0 m in
      rw append-nil at e

  -- on whatever line a text is told
  any_line : (st : Stand) (a t : List ℕ) (breaks : ℕ) (s : S) → is_sound s → (k m : ℕ)
      → (step s (CharacterTokens a) k >>= λ p. reading step erred cdata ends rows st breaks p.0 t) ≡
      (step s (CharacterTokens a) m >>= λ p. reading step erred cdata ends rows st breaks p.0 t)
  any_line st a t breaks s sound k m = ap (λ r. r >>= λ p. reading step erred cdata ends rows st breaks p.0 t) (line_free s sound a k m)

  -- an item that is text
  emitted_text : (st : Stand) (breaks : ℕ) (s : S) → is_sound s → (c : ℕ) (u a : List ℕ) (n l : ℕ)
      → item rows (cdata s) st c u ≡ clean_item (CharacterTokens a) n st
      → reading step erred cdata ends rows st breaks s (c ∷ u) ≡ (step s (CharacterTokens a) l
      >>= λ p. reading step erred cdata ends rows st (breaks + line_breaks (take n (c ∷ u))) p.0 (drop n (c ∷ u)))
  emitted_text st breaks s sound c u a n l e =
      let read = breaks + line_breaks (take n (c ∷ u)) in
      reading-item step erred cdata ends rows st breaks s c u
      ∙ (ap (λ i. play step erred cdata ends rows i breaks s (c ∷ u)) e
      ∙ (stays st read (step s (CharacterTokens a) (line_number read)) (drop n (c ∷ u)) (joins.goes_on s sound a (line_number read))
      ∙ any_line st a (drop n (c ∷ u)) read s sound (line_number read) l))

  -- a character, and what follows it told as one text
  grown : (st : Stand) (breaks : ℕ) (s : S) → is_sound s → (c : ℕ) (b t : List ℕ) (line : ℕ) (go : S → Result S F)
      → ((q : S) → is_sound q → go q ≡ (step q (CharacterTokens b) 0 >>= λ p. reading step erred cdata ends rows st
      ((breaks + line_breaks (c ∷ [])) + line_breaks b) p.0 t))
      → (step s (CharacterTokens (c ∷ [])) 0 >>= λ p. go p.0) ≡ (step s (CharacterTokens (c ∷ b)) line
      >>= λ p. reading step erred cdata ends rows st (breaks + line_breaks (c ∷ b)) p.0 t)
  grown st breaks s sound c b t line go h =
      let sum : (breaks + line_breaks (c ∷ [])) + line_breaks b ≡ breaks + line_breaks (c ∷ b) = omega arith in
      joined st (c ∷ []) b t (breaks + line_breaks (c ∷ b)) s sound 0 0 line go
      (λ q k. h q k ∙ ap (λ n. step q (CharacterTokens b) 0 >>= λ p. reading step erred cdata ends rows st n p.0 t) sum)

  plain_item : (last : Option (List ℕ)) (asked : Bool) (c : ℕ) (u : List ℕ) → nat_eq c 60 ≡ false
      → nat_eq c 38 ≡ false → nat_eq c 0 ≡ false → item rows asked (in_data last) c u ≡ character c (in_data last)
  plain_item last asked c u e f g = rw (e, f, g) refl

  pub itself-one : (last : Option (List ℕ)) (breaks : ℕ) (s : S) → is_sound s → (c : ℕ) (u : List ℕ) (l : ℕ) → is_itself c ≡ true
      → reading step erred cdata ends rows (in_data last) breaks s (c ∷ u) ≡ (step s (CharacterTokens (c ∷ [])) l
      >>= λ p. reading step erred cdata ends rows (in_data last) (breaks + line_breaks (c ∷ [])) p.0 u)
  itself-one last breaks s sound c u l h =
      let parts = and_parts _ _ h in
      let firsts = and_parts _ _ parts.0 in
      emitted_text (in_data last) breaks s sound c u (c ∷ []) 1 l
      (plain_item last (cdata s) c u (not-false _ firsts.0) (not-false _ firsts.1) (not-false _ parts.1))

  pub run-one_text : (last : Option (List ℕ)) (breaks : ℕ) (s : S) → is_sound s → (c : ℕ) (front t : List ℕ)
      (line : ℕ) → list_all is_itself (c ∷ front) ≡ true
      → reading step erred cdata ends rows (in_data last) breaks s ((c ∷ front) ++ t) ≡
      (step s (CharacterTokens (c ∷ front)) line >>= λ p. reading step erred cdata ends rows (in_data last)
      (breaks + line_breaks (c ∷ front)) p.0 t)
  run-one_text last breaks s sound c [] t line h = itself-one last breaks s sound c t line (and_parts _ _ h).0
  run-one_text last breaks s sound c (d ∷ front) t line h =
      let parts = and_parts (is_itself c) (list_all is_itself (d ∷ front)) h in
      itself-one last breaks s sound c ((d ∷ front) ++ t) 0 parts.0
      ∙ grown (in_data last) breaks s sound c (d ∷ front) t line
      (λ q. reading step erred cdata ends rows (in_data last) (breaks + line_breaks (c ∷ [])) q ((d ∷ front) ++ t))
      (λ q k. run-one_text last (breaks + line_breaks (c ∷ [])) q k d front t 0 parts.1)
