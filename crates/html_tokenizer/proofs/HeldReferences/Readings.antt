-- How text is read in which a reference was held.
use Rattle.std.proofs.Common.{◌≡◌, ◌∙◌, ℕ, zero, suc, ◌+◌, ◌≤◌, Bool, true, false, nat_eq, List, [], ◌∷◌, ◌++◌, length, take}
use Rattle.std.proofs.Common.{drop, Option, Some, None, refl, sym, ap, arith, append-nil, append_assoc}
use Rattle.std.specs.Prelude.{IfSome}
use Rattle.std.specs.List.{list_all}
use Rattle.std.proofs.lemmas.Bool.{and_parts}
use Rattle.std.proofs.lemmas.Bool.Decides.{nat_tests}
use Rattle.std.proofs.lemmas.List.{take-append-le, drop-append-le}
use Rattle.html_tokens.specs.declared.token.Token.TheVariants.{CharacterTokens}
use Rattle.html_tokens.specs.Item.{Fault, Stand, token_item, character, reference_item}
use Rattle.html_tokens.specs.Items.{item}
use Rattle.html_tokens.specs.Reading.{◌>>=◌, erred_by, line_number, line_breaks}
use Rattle.html_tokens.specs.Reference.{Reference, fault_of_reference, reference_at}
use Rattle.html_tokens.specs.Table.{Row}
use Rattle.html_tokenizer_parts.specs.CharRefs.{IsDecided, decided, is_held, resolved, resolved_by}
use Rattle.html_tokenizer_parts.proofs.CharRefs.{decided-in_text, decided-within, fault-decided, reference-decided, reference-end}
use Rattle.html_tokenizer_parts.proofs.HeldTexts.{held-drop}
use Rattle.html_tokenizer.proofs.Steps.Lawful.{Lawful}
use Rattle.html_tokenizer.proofs.Steps.Readings.{play-end, reading-is, sum-zero}
use Rattle.html_tokenizer.proofs.Steps.Runs.{reading-text, told-more}
use Rattle.html_tokenizer.specs.Listeners.{Listener, emitted_text}

pub held-unbroken : (c : ℕ) → is_held c ≡ true → nat_eq c 10 ≡ false
held-unbroken c h = grind (arith, nat_tests)

pub held-no_open : (c : ℕ) → is_held c ≡ true → nat_eq c 60 ≡ false
held-no_open c h = grind (arith, nat_tests)

pub held-no_reference : (c : ℕ) → is_held c ≡ true → nat_eq c 38 ≡ false
held-no_reference c h = grind (arith, nat_tests)

pub held-no_null : (c : ℕ) → is_held c ≡ true → nat_eq c 0 ≡ false
held-no_null c h = grind (arith, nat_tests)

-- what is held breaks no line
held-breaks : (n : ℕ) (cs : List ℕ) → list_all is_held cs ≡ true → line_breaks (take n cs) ≡ 0
held-breaks zero cs h = refl
held-breaks (suc n) [] h = refl
held-breaks (suc n) (c ∷ cs) h =
    let p = and_parts (is_held c) (list_all is_held cs) h in
    rw (held-unbroken c p.0, held-breaks n cs p.1) refl

-- Where a text is read in which references stand and what is held of one is text.
pub record ReadsHeld (rows : List Row) (st : Stand) : Type 0 where
  pub reference : (x : Bool) (t : List ℕ) → item rows x st 38 t ≡ reference_item (fault_of_reference rows t) (reference_at false rows t) st
  pub plain : (x : Bool) (c : ℕ) (t : List ℕ) → is_held c ≡ true → item rows x st c t ≡ character c st

module _ {T : Type 0} (sound : T → Type 0) (to : Listener T) (rows : List Row) (laws : Lawful sound to.step) where
  -- text, and then more of it that was held
  told-run : (st : Stand) (b : ℕ) (s : T) → sound s → (a cs t : List ℕ) (l : ℕ) → ReadsHeld rows st → list_all is_held cs ≡ true
      → (to.step s (CharacterTokens a) l >>= λ p. emitted_text to rows st b p.0 (cs ++ t)) ≡
      (to.step s (CharacterTokens (a ++ cs)) l >>= λ p. emitted_text to rows st b p.0 t)
  told-run st b s h a [] t l reads held =
      ap (λ x. to.step s (CharacterTokens x) l >>= λ p. emitted_text to rows st b p.0 t) (sym (append-nil a))
  told-run st b s h a (c ∷ cs) t l reads held =
      let p = and_parts (is_held c) (list_all is_held cs) held in
      told-more sound to rows laws st st b s h a c (cs ++ t) l
      (λ s h. reading-text sound to rows laws st st b s h c (cs ++ t) l (held-unbroken c p.0)
      (reads.plain (to.cdata s) c (cs ++ t) p.0))
      ∙ told-run st b s h (a ++ c ∷ []) cs t l reads p.1
      ∙ ap (λ x. to.step s (CharacterTokens x) l >>= λ p. emitted_text to rows st b p.0 t) (append_assoc a (c ∷ []) cs)

  -- "&" that is text, or a reference, and then text that was held
  reading-by : (fault : Option Fault) (st : Stand) (b : ℕ) (s : T) → sound (erred_by to.erred fault s)
      → (o : Option Reference) (cs t : List ℕ) → ReadsHeld rows st → list_all is_held cs ≡ true → IfSome o (λ r. r.len ≤ length cs)
      → reference_at false rows (cs ++ t) ≡ o → fault_of_reference rows (cs ++ t) ≡ fault
      → emitted_text to rows st b s (38 ∷ cs ++ t) ≡
      (to.step (erred_by to.erred fault s) (CharacterTokens (resolved_by o cs)) (line_number b)
      >>= λ p. emitted_text to rows st b p.0 t)
  reading-by fault st b s h None cs t reads held within e f =
      let q = erred_by to.erred fault s in
      reading-is to rows st b s 38 (cs ++ t) (token_item fault (CharacterTokens (38 ∷ [])) 0 st)
      (reads.reference (to.cdata s) (cs ++ t)
      ∙ ap (λ o. reference_item (fault_of_reference rows (cs ++ t)) o st) e ∙ ap (λ x. reference_item x None st) f)
      ∙ play-end sound to rows laws fault (token_item fault (CharacterTokens (38 ∷ [])) 0 st)
      (CharacterTokens (38 ∷ [])) 0 st (b + 0) s h (cs ++ t) tt refl refl
      ∙ ap (λ n. to.step q (CharacterTokens (38 ∷ [])) (line_number n) >>= λ p. emitted_text to rows st n p.0 (cs ++ t)) (sum-zero b)
      ∙ told-run st b q h (38 ∷ []) cs t (line_number b) reads held
  reading-by fault st b s h (Some r) cs t reads held within e f =
      let q = erred_by to.erred fault s in
      reading-is to rows st b s 38 (cs ++ t) (token_item fault (CharacterTokens r.chars) r.len st)
      (reads.reference (to.cdata s) (cs ++ t)
      ∙ ap (λ o. reference_item (fault_of_reference rows (cs ++ t)) o st) e ∙ ap (λ x. reference_item x (Some r) st) f)
      ∙ play-end sound to rows laws fault (token_item fault (CharacterTokens r.chars) r.len st)
      (CharacterTokens r.chars) r.len st (b + 0) s h (cs ++ t) tt refl
      (ap line_breaks (take-append-le r.len cs t within) ∙ held-breaks r.len cs held)
      ∙ ap (λ n. to.step q (CharacterTokens r.chars) (line_number n) >>= λ p. emitted_text to rows st n p.0
      (drop r.len (cs ++ t))) (sum-zero b)
      ∙ ap (λ u. to.step q (CharacterTokens r.chars) (line_number b) >>= λ p. emitted_text to rows st b p.0 u)
      (drop-append-le r.len cs t within)
      ∙ told-run st b q h r.chars (drop r.len cs) t (line_number b) reads (held-drop r.len cs held)

  -- a reference that is decided is told with the text that was held after it
  pub reading-held : (st : Stand) (b : ℕ) (s : T) (cs : List ℕ)
      → sound (erred_by to.erred (fault_of_reference rows cs) s) → (c : ℕ) (t : List ℕ) → ReadsHeld rows st → IsDecided rows cs c
      → emitted_text to rows st b s (38 ∷ cs ++ c ∷ t) ≡ (to.step (erred_by to.erred (fault_of_reference rows cs) s)
      (CharacterTokens (resolved false rows cs false)) (line_number b) >>= λ p. emitted_text to rows st b p.0 (c ∷ t))
  reading-held st b s cs h c t reads d =
      reading-by (fault_of_reference rows cs) st b s h (decided false rows cs false) cs (c ∷ t) reads d.held
      (decided-within false rows cs false) (reference-decided false rows cs c t d.checked d.front d.ends
      ∙ decided-in_text rows cs _) (fault-decided rows cs c t d.checked d.front d.ends)

  -- the same where the input to.ends
  pub reading-at_end : (st : Stand) (b : ℕ) (s : T) (cs : List ℕ)
      → sound (erred_by to.erred (fault_of_reference rows cs) s) → ReadsHeld rows st → list_all is_held cs ≡ true
      → emitted_text to rows st b s (38 ∷ cs ++ []) ≡ (to.step (erred_by to.erred (fault_of_reference rows cs) s)
      (CharacterTokens (resolved false rows cs false)) (line_number b) >>= λ p. emitted_text to rows st b p.0 [])
  reading-at_end st b s cs h reads held =
      reading-by (fault_of_reference rows cs) st b s h (decided false rows cs false) cs [] reads held
      (decided-within false rows cs false) (ap (reference_at false rows) (append-nil cs)
      ∙ reference-end false rows cs) (ap (fault_of_reference rows) (append-nil cs))
