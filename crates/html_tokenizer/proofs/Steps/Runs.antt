-- How a reading goes on by one character that is no line break, and by a run of text.
use Rattle.std.proofs.Common.{◌≡◌, ◌∙◌, ℕ, ◌+◌, Bool, false, nat_eq, List, [], ◌∷◌, ◌++◌, Result, Ok, Err, refl, ap, Option}
use Rattle.html_tokens.specs.declared.token.Token.{Token}
use Rattle.html_tokens.specs.declared.token.Token.TheVariants.{CharacterTokens}
use Rattle.html_tokens.specs.Item.{Fault, Stand, token_item, character}
use Rattle.html_tokens.specs.Items.{item}
use Rattle.html_tokens.specs.Reading.{◌>>=◌, erred_by, line_number, line_break}
use Rattle.html_tokens.specs.Table.{Row}
use Rattle.html_tokens.proofs.Readings.{bind_where}
use Rattle.std.proofs.lemmas.Result.{IfOk-weaker}
use Rattle.html_tokenizer.specs.Steps.{IsNoTag}
use Rattle.html_tokenizer.proofs.Steps.Lawful.{Lawful}
use Rattle.html_tokenizer.proofs.Steps.Readings.{reading-char, reading-is, play-token_item, sum-zero}
use Rattle.html_tokenizer.proofs.Steps.Keeping.{no-break}
use Rattle.html_tokenizer.specs.Listeners.{Listener, emitted_text}

bind-again : {A B C F : Type 0} (r : Result A F) (f : A → Result B F) (g : B → Result C F) → (r >>= λ x. f x >>= g) ≡ ((r >>= f) >>= g)
bind-again (Ok x) f g = refl
bind-again (Err e) f g = refl

module _ {T : Type 0} (sound : T → Type 0) (to : Listener T) (rows : List Row) (laws : Lawful sound to.step) where
  -- a character that is read as a token that is no tag, and is no line break
  pub reading-token : (fault : Option Fault) (st next : Stand) (b : ℕ) (s : T) → sound (erred_by to.erred fault s)
      → (c : ℕ) (t : List ℕ) (token : Token) → IsNoTag token → nat_eq c 10 ≡ false
      → item rows (to.cdata s) st c t ≡ token_item fault token 1 next
      → emitted_text to rows st b s (c ∷ t) ≡ (to.step (erred_by to.erred fault s) token (line_number b)
      >>= λ p. emitted_text to rows next (b + line_break (nat_eq c 10)) p.0 t)
  reading-token fault st next b s h c t token none unbroken e =
      let read = b + line_break (nat_eq c 10) in
      let q = erred_by to.erred fault s in
      reading-is to rows st b s c t (token_item fault token 0 next) e
      ∙ play-token_item sound to rows laws fault token 0 next read s h t none
      ∙ ap (λ n. to.step q token (line_number n) >>= λ p. emitted_text to rows next n p.0 t) (sum-zero read)
      ∙ ap (λ n. to.step q token (line_number n) >>= λ p. emitted_text to rows next read p.0 t) (no-break b c unbroken)

  -- a character that is read as one of text, and is no line break
  pub reading-text : (st next : Stand) (b : ℕ) (s : T) → sound s → (c : ℕ) (t : List ℕ) (l : ℕ)
      → nat_eq c 10 ≡ false → item rows (to.cdata s) st c t ≡ character c next
      → emitted_text to rows st b s (c ∷ t) ≡ (to.step s (CharacterTokens (c ∷ [])) l >>= λ p. emitted_text to rows next b p.0 t)
  reading-text st next b s h c t l unbroken e =
      reading-char sound to rows laws st next b s h c c t l e
      ∙ ap (λ n. to.step s (CharacterTokens (c ∷ [])) l >>= λ p. emitted_text to rows next n p.0 t) (no-break b c unbroken)

  -- text, and then one character more of it, after which so many line breaks were read
  pub told-then : (st next : Stand) (b d : ℕ) (s : T) → sound s → (a : List ℕ) (c : ℕ) (t : List ℕ) (l : ℕ)
      → ((s : T) → sound s → emitted_text to rows st b s (c ∷ t) ≡ (to.step s (CharacterTokens (c ∷ [])) l
      >>= λ p. emitted_text to rows next d p.0 t))
      → (to.step s (CharacterTokens a) l >>= λ p. emitted_text to rows st b p.0 (c ∷ t)) ≡
      (to.step s (CharacterTokens (a ++ c ∷ [])) l >>= λ p. emitted_text to rows next d p.0 t)
  told-then st next b d s h a c t l each =
      bind_where (to.step s (CharacterTokens a) l) _ _
      (IfOk-weaker (to.step s (CharacterTokens a) l) _ _ (λ p ok. each p.0 ok) (laws.keeps s h (CharacterTokens a) l))
      ∙ bind-again (to.step s (CharacterTokens a) l) (λ p. to.step p.0 (CharacterTokens (c ∷ [])) l)
      (λ p. emitted_text to rows next d p.0 t)
      ∙ ap (λ r. r >>= λ p. emitted_text to rows next d p.0 t) (laws.pieces s h a (c ∷ []) l l l)

  -- the same of a character that is no line break
  pub told-more : (st next : Stand) (b : ℕ) (s : T) → sound s → (a : List ℕ) (c : ℕ) (t : List ℕ) (l : ℕ)
      → ((s : T) → sound s → emitted_text to rows st b s (c ∷ t) ≡ (to.step s (CharacterTokens (c ∷ [])) l
      >>= λ p. emitted_text to rows next b p.0 t))
      → (to.step s (CharacterTokens a) l >>= λ p. emitted_text to rows st b p.0 (c ∷ t)) ≡
      (to.step s (CharacterTokens (a ++ c ∷ [])) l >>= λ p. emitted_text to rows next b p.0 t)
  told-more st next b s h a c t l each = told-then st next b b s h a c t l each

  -- two characters that are read as text, and are no line breaks
  pub reading-two : (st mid next : Stand) (b : ℕ) (s : T) → sound s → (c d : ℕ) (t : List ℕ) (l : ℕ)
      → nat_eq c 10 ≡ false → nat_eq d 10 ≡ false
      → ((x : Bool) → item rows x st c (d ∷ t) ≡ character c mid) → ((x : Bool) → item rows x mid d t ≡ character d next)
      → emitted_text to rows st b s (c ∷ d ∷ t) ≡ (to.step s (CharacterTokens (c ∷ d ∷ [])) l >>= λ p. emitted_text to rows next b p.0 t)
  reading-two st mid next b s h c d t l first second e f =
      reading-text st mid b s h c (d ∷ t) l first (e (to.cdata s))
      ∙ told-more mid next b s h (c ∷ []) d t l (λ s h. reading-text mid next b s h d t l second (f (to.cdata s)))
