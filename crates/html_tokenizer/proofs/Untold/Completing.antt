-- How the text that ends an item is read.
use Rattle.std.proofs.Common.{◌≡◌, ◌∙◌, ℕ, length, Bool, true, false, nat_eq, List, [], ◌∷◌, ◌++◌, refl, ap, lit<}
use Rattle.std.specs.Prelude.{codes, not}
use Rattle.std.specs.List.{list_all}
use Rattle.html_tokens.specs.declared.states.State.{State}
use Rattle.html_tokens.specs.Item.{Item, longer_by}
use Rattle.html_tokens.specs.Table.{Row}
use Rattle.html_tokenizer.specs.declared.tokenizer.Tokenizer.{Tokenizer}
use Rattle.html_tokenizer.specs.Rest.{held_at, played}
use Rattle.html_tokenizer.specs.Untold.{Untold, Front, is_markup}
use Rattle.html_tokenizer.proofs.Steps.Keeping.{no-break}
use Rattle.html_tokenizer_parts.proofs.Keywords.{and_both}
use Rattle.html_tokenizer.proofs.Steps.Readings.{play-is}
use Rattle.html_tokenizer_parts.proofs.Words.{and_parts}
use Rattle.html_tokenizer.specs.Listeners.{Listener, emitted_item}

-- a character that ends no line
abbrev pub is_inline : ℕ → Bool
is_inline c = not (nat_eq c 10)

not-so : (b : Bool) → not b ≡ true → b ≡ false
not-so true h = absurd cc
not-so false h = refl

-- what all pass passes too what each passes that passes it
pub all-pass : (p q : ℕ → Bool) → ((c : ℕ) → p c ≡ true → q c ≡ true) → (w : List ℕ) → list_all p w ≡ true → list_all q w ≡ true
all-pass p q f [] h = refl
all-pass p q f (c ∷ w) h =
    let parts = and_parts (p c) (list_all p w) h in
    and_both (q c) (list_all q w) (f c parts.0) (all-pass p q f w parts.1)

module _ {T : Type 0} (to : Listener T) (rows : List Row) where
  -- an item after characters that end no line
  pub play-inline : (cs t : List ℕ) (j : Item) (b : ℕ) (s : T) → list_all is_inline cs ≡ true → emitted_item to rows
      (longer_by (length cs) j) b s (cs ++ t) ≡ emitted_item to rows j b s t
  play-inline [] t j b s h = refl
  play-inline (c ∷ cs) t j b s h =
      let p = and_parts (is_inline c) (list_all is_inline cs) h in
      play-is to rows (longer_by (length (c ∷ cs)) j) (longer_by (length cs) j) b s c (cs ++ t) refl
      ∙ ap (λ n. emitted_item to rows (longer_by (length cs) j) n s (cs ++ t)) (no-break b c (not-so (nat_eq c 10) p.0))
      ∙ play-inline cs t j b s p.1

module _ (T : Type 0) {K : Type 0} (k : Tokenizer K) where
  -- The front of an item is held that ends at ">".
  pub by-mark : (st : State) (i : Item) → i.len ≡ 1 → is_markup i.token ≡ true
      → ((to : Listener T) (b : ℕ) (s : T) (t : List ℕ) → held_at to st k b s (62 ∷ t) ≡ played to i k b s (62 ∷ t))
      → Untold T st k
  by-mark st i len markup same = Front (record { more = codes ">"; item = i; some = lit< tt; whole = len; markup = markup; same = same })
