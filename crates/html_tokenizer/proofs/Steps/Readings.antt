-- How a reading goes on by one character.
use Rattle.std.proofs.Common.{◌≡◌, ◌∙◌, ℕ, ◌+◌, Bool, false, nat_eq, List, [], ◌∷◌, ◌++◌, take, drop, Result, Ok, Err, refl}
use Rattle.std.proofs.Common.{sym, ap, arith, append-nil, true, Option, Some, None}
use Rattle.std.specs.Prelude.{IfOk, is_some, ◌||◌}
use Rattle.html_tokens.specs.declared.replies.TokenSinkResult.TheVariants.{Continue}
use Rattle.html_tokens.specs.declared.token.Token.{Token}
use Rattle.html_tokens.specs.declared.token.Token.TheVariants.{CharacterTokens}
use Rattle.html_tokens.specs.Item.{Fault, Stand, Item, longer, character, token_item, silent, Slight, slight_if, and_slight}
use Rattle.html_tokens.specs.Item.{and_slight_if, marked}
use Rattle.html_tokens.specs.Items.{item}
use Rattle.html_tokens.specs.Reading.{◌>>=◌, next_stand, erred_by, said, line_number, line_break, line_breaks}
use Rattle.html_tokens.specs.Sink.{Reply, Refusal}
use Rattle.html_tokens.specs.Table.{Row}
use Rattle.html_tokens.proofs.Readings.{reading-item}
use Rattle.html_tokenizer.specs.Steps.{IsNoTag}
use Rattle.html_tokenizer.proofs.Steps.Lawful.{Lawful}
use Rattle.html_tokenizer.specs.Listeners.{Listener, emitted_text, emitted_item}

sum-first : (b x y : ℕ) → b + (x + y) ≡ (b + x) + y
sum-first b x y = omega arith

pub sum-zero : (b : ℕ) → b + 0 ≡ b
sum-zero b = omega arith

module _ {T : Type 0} (to : Listener T) (rows : List Row) where
  -- an item after one character more, read from that character on
  play-behind : (j : Item) (b : ℕ) (s : T) (c : ℕ) (t : List ℕ) → emitted_item to rows (longer j) b s
      (c ∷ t) ≡ emitted_item to rows j (b + line_break (nat_eq c 10)) s t
  play-behind j b s c t = ap (λ read. said to.step to.erred j.fault j.token read s >>= λ p. emitted_text to rows
      (next_stand j.next p.1) read p.0 (drop j.len t)) (sum-first b (line_break (nat_eq c 10)) (line_breaks (take j.len t)))

  pub play-is : (i j : Item) (b : ℕ) (s : T) (c : ℕ) (t : List ℕ) → i ≡ longer j → emitted_item to rows i b s
      (c ∷ t) ≡ emitted_item to rows j (b + line_break (nat_eq c 10)) s t
  play-is i j b s c t e = ap (λ i. emitted_item to rows i b s (c ∷ t)) e ∙ play-behind j b s c t

  -- a reading begins with the item at its front
  pub reading-is : (st : Stand) (b : ℕ) (s : T) (c : ℕ) (t : List ℕ) (j : Item)
      → item rows (to.cdata s) st c t ≡ longer j → emitted_text to rows st b s (c ∷ t) ≡ emitted_item to rows j
      (b + line_break (nat_eq c 10)) s t
  reading-is st b s c t j e = reading-item to.step to.erred to.cdata to.ends rows st b s c t
      ∙ play-is (item rows (to.cdata s) st c t) j b s c t e

  -- an item of no characters and no token
  pub play-nothing : (st : Stand) (b : ℕ) (s : T) (t : List ℕ) → emitted_item to rows (silent 0 st) b s t ≡ emitted_text to rows st b s t
  play-nothing st b s t = ap (λ n. emitted_text to rows st n s t) (sum-zero b)

-- a fault with something slight before it is the fault alone
abbrev pub Absorbing : {T : Type 0} → (Fault → T → T) → Type 0
Absorbing {T} erred = (fault : Fault) (s : T) → erred fault (erred Slight s) ≡ erred fault s

slight-both : (a b : Bool) (fault : Option Fault) → and_slight_if (a || b) fault ≡ and_slight_if a (and_slight_if b fault)
slight-both true true None = refl
slight-both true true (Some fault) = refl
slight-both true false fault = refl
slight-both false b fault = refl

-- an item in which one thing or another is odd
pub marked-both : (a b : Bool) (i : Item) → marked (a || b) i ≡ marked a (marked b i)
marked-both a b i = ap (λ fault. record i { fault = fault }) (slight-both a b i.fault)

slight-again : (fault : Option Fault) → is_some fault ≡ true → fault ≡ and_slight fault
slight-again None h = absurd cc
slight-again (Some fault) h = refl

-- an item with a fault is as it would be with something odd in it
pub marked-again : (i : Item) → is_some i.fault ≡ true → i ≡ marked true i
marked-again i h = ap (λ fault. record i { fault = fault }) (slight-again i.fault h)

module _ {T : Type 0} (to : Listener T) (rows : List Row) (absorbs : Absorbing to.erred) where
  marked-erred : (odd : Bool) (fault : Option Fault) (s : T) → erred_by to.erred (and_slight_if odd fault)
      s ≡ erred_by to.erred fault (erred_by to.erred (slight_if odd) s)
  marked-erred true None s = refl
  marked-erred true (Some fault) s = sym (absorbs fault s)
  marked-erred false fault s = refl

  said-odd : (odd : Bool) (fault : Option Fault) (token : Option Token) (n : ℕ) (s : T) → said to.step to.erred
      (and_slight_if odd fault) token n s ≡ said to.step to.erred fault token n (erred_by to.erred (slight_if odd) s)
  said-odd odd fault None n s = ap (λ q. Ok (q, Continue)) (marked-erred odd fault s)
  said-odd odd fault (Some token) n s = ap (λ q. to.step q token (line_number n)) (marked-erred odd fault s)

  -- an item in which something is odd is the item after something slight
  pub play-marked : (odd : Bool) (i : Item) (b : ℕ) (s : T) (t : List ℕ) → emitted_item to rows (marked odd i) b s
      t ≡ emitted_item to rows i b (erred_by to.erred (slight_if odd) s) t
  play-marked odd i b s t =
      let read = b + line_breaks (take i.len t) in
      ap (λ r. r >>= λ p. emitted_text to rows (next_stand i.next p.1) read p.0 (drop i.len t)) (said-odd odd i.fault i.token read s)

  -- an item after one character more, which may be odd
  pub play-odd : (odd : Bool) (i j : Item) (b : ℕ) (s : T) (c : ℕ) (t : List ℕ) → i ≡ marked odd (longer j)
      → emitted_item to rows i b s (c ∷ t) ≡ emitted_item to rows j (b + line_break (nat_eq c 10)) (erred_by to.erred (slight_if odd) s) t
  play-odd odd i j b s c t e =
      ap (λ i. emitted_item to rows i b s (c ∷ t)) e
      ∙ play-marked odd (longer j) b s (c ∷ t)
      ∙ play-is to rows (longer j) j b (erred_by to.erred (slight_if odd) s) c t refl

  -- the same of the item at the front of a reading
  pub reading-odd : (odd : Bool) (st : Stand) (b : ℕ) (s : T) (c : ℕ) (t : List ℕ) (j : Item)
      → item rows (to.cdata s) st c t ≡ marked odd (longer j) → emitted_text to rows st b s (c ∷ t) ≡ emitted_item
      to rows j (b + line_break (nat_eq c 10)) (erred_by to.erred (slight_if odd) s) t
  reading-odd odd st b s c t j e = reading-item to.step to.erred to.cdata to.ends rows st b s c t
      ∙ play-odd odd (item rows (to.cdata s) st c t) j b s c t e

  -- an item with a fault absorbs what is slight before it
  pub play-absorbs : (i : Item) (b : ℕ) (s : T) (t : List ℕ) → is_some i.fault ≡ true
      → emitted_item to rows i b s t ≡ emitted_item to rows i b (to.erred Slight s) t
  play-absorbs i b s t h = ap (λ i. emitted_item to rows i b s t) (marked-again i h) ∙ play-marked true i b s t

module _ {T : Type 0} (sound : T → Type 0) (to : Listener T) (rows : List Row) (laws : Lawful sound to.step) where
  stays : (st : Stand) (b : ℕ) (r : Result (T × Reply) (Refusal × ℕ)) (t : List ℕ) → IfOk r (λ p. p.1 ≡ Continue)
      → (r >>= λ p. emitted_text to rows (next_stand st p.1) b p.0 t) ≡ (r >>= λ p. emitted_text to rows st b p.0 t)
  stays st b (Ok p) t h = ap (λ reply. emitted_text to rows (next_stand st reply) b p.0 t) h
  stays st b (Err e) t h = refl

  -- on whatever line a text is told
  pub any_line : (s : T) → sound s → (a : List ℕ) (k m : ℕ) → to.step s (CharacterTokens a) k ≡ to.step s (CharacterTokens a) m
  any_line s h a k m =
      let e : to.step s (CharacterTokens (a ++ [])) k ≡ to.step s (CharacterTokens (a ++ [])) m =
      sym (laws.pieces s h a [] 0 0 k) ∙ laws.pieces s h a [] 0 0 m in
      rw append-nil at e

  -- an item that is a token but no tag, of n characters
  pub play-token_item : (fault : Option Fault) (token : Token) (n : ℕ) (st : Stand) (b : ℕ) (s : T)
      → sound (erred_by to.erred fault s) → (t : List ℕ) → IsNoTag token
      → emitted_item to rows (token_item fault token n st) b s t ≡
      (to.step (erred_by to.erred fault s) token (line_number (b + line_breaks (take n t)))
      >>= λ p. emitted_text to rows st (b + line_breaks (take n t)) p.0 (drop n t))
  play-token_item fault token n st b s h t none =
      let q = erred_by to.erred fault s in
      stays st (b + line_breaks (take n t)) (to.step q token (line_number (b + line_breaks (take n t)))) (drop n t)
      (laws.goes_on q h token none (line_number (b + line_breaks (take n t))))

  -- a character that is read as one of text
  pub reading-char_as : (fault : Option Fault) (st next : Stand) (b : ℕ) (s : T) → sound (erred_by to.erred fault s)
      → (c d : ℕ) (t : List ℕ) (l : ℕ) → item rows (to.cdata s) st c t ≡ token_item fault (CharacterTokens (d ∷ [])) 1 next
      → emitted_text to rows st b s (c ∷ t) ≡ (to.step (erred_by to.erred fault s) (CharacterTokens (d ∷ [])) l
      >>= λ p. emitted_text to rows next (b + line_break (nat_eq c 10)) p.0 t)
  reading-char_as fault st next b s h c d t l e =
      let read = b + line_break (nat_eq c 10) in
      let q = erred_by to.erred fault s in
      reading-is to rows st b s c t (token_item fault (CharacterTokens (d ∷ [])) 0 next) e
      ∙ play-token_item fault (CharacterTokens (d ∷ [])) 0 next read s h t tt
      ∙ ap (λ n. to.step q (CharacterTokens (d ∷ [])) (line_number n) >>= λ p. emitted_text to rows next n p.0 t) (sum-zero read)
      ∙ ap (λ r. r >>= λ p. emitted_text to rows next read p.0 t) (any_line q h (d ∷ []) (line_number read) l)

  -- the same without a fault
  pub reading-char : (st next : Stand) (b : ℕ) (s : T) → sound s → (c d : ℕ) (t : List ℕ) (l : ℕ)
      → item rows (to.cdata s) st c t ≡ character d next
      → emitted_text to rows st b s (c ∷ t) ≡ (to.step s (CharacterTokens (d ∷ [])) l
      >>= λ p. emitted_text to rows next (b + line_break (nat_eq c 10)) p.0 t)
  reading-char st next b s h c d t l e = reading-char_as None st next b s h c d t l e

  -- an item that is a token but no tag, and breaks no line
  pub play-end : (fault : Option Fault) (i : Item) (token : Token) (n : ℕ) (st : Stand) (b : ℕ) (s : T)
      → sound (erred_by to.erred fault s) → (t : List ℕ) → IsNoTag token → i ≡ token_item fault token n st → line_breaks (take n t) ≡ 0
      → emitted_item to rows i b s t ≡ (to.step (erred_by to.erred fault s) token (line_number b)
      >>= λ p. emitted_text to rows st b p.0 (drop n t))
  play-end fault i token n st b s h t none is unbroken =
      ap (λ i. emitted_item to rows i b s t) is
      ∙ play-token_item fault token n st b s h t none
      ∙ ap (λ read. to.step (erred_by to.erred fault s) token (line_number read)
      >>= λ p. emitted_text to rows st read p.0 (drop n t)) (ap (λ x. b + x) unbroken ∙ sum-zero b)
