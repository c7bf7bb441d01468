-- How an attribute's value is read in which a reference was held.
use Rattle.std.proofs.Common.{◌≡◌, ◌∙◌, ℕ, zero, suc, ◌≤◌, Bool, true, false, nat_eq, List, [], ◌∷◌, ◌++◌, length, drop, Option}
use Rattle.std.proofs.Common.{Some, None, refl, sym, ap, arith, append_assoc}
use Rattle.std.specs.Prelude.{IfSome, is_some, ◌||◌}
use Rattle.std.specs.List.{list_all}
use Rattle.std.proofs.lemmas.Bool.{and_parts}
use Rattle.std.proofs.lemmas.Bool.Decides.{nat_tests}
use Rattle.html_tokens.specs.declared.tags.Tag.{Tag}
use Rattle.html_tokens.specs.Characters.{ends_word, is_null}
use Rattle.html_tokens.specs.Item.{slight_if, InTag, Item, Stand, longer, longer_by, marked, moved, silent}
use Rattle.html_tokens.specs.Reading.{erred_by}
use Rattle.html_tokens.specs.Reference.{Reference, fault_of_reference, reference_at}
use Rattle.html_tokens.specs.Table.{Row}
use Rattle.html_tokens.specs.Tags.{Value, is_odd_unquoted, later, quote_at, quoted_after, reference_chars, reference_len}
use Rattle.html_tokens.specs.Tags.{unquoted_after, value_from, with_attribute}
use Rattle.html_tokenizer_parts.specs.CharRefs.{decided, is_held, resolved, resolved_by}
use Rattle.html_tokenizer.proofs.Attributes.Readings.{quote_at-more}
use Rattle.html_tokenizer_parts.proofs.CharRefs.{decided-within}
use Rattle.html_tokenizer.proofs.Steps.Keeping.{no-break}
use Rattle.html_tokenizer.proofs.HeldReferences.Readings.{held-no_null, held-no_reference, held-unbroken}
use Rattle.html_tokenizer_parts.proofs.HeldTexts.{held-drop}
use Rattle.html_tokenizer.proofs.Steps.Readings.{Absorbing, marked-both, play-is, play-odd}
use Rattle.html_tokenizer.specs.Listeners.{Listener, emitted_item}

-- so many more
abbrev more : ℕ → ℕ → ℕ
more zero m = m
more (suc n) m = suc (more n m)

-- a value after n characters that stand for others, in which something may be odd
abbrev later_all : Bool → ℕ → List ℕ → Value → Value
later_all odd n cs v = record { chars = cs ++ v.chars; len = more n v.len; is_odd = odd || v.is_odd }

more-drop : (n m : ℕ) (cs : List ℕ) → n ≤ length cs → more n (more (length (drop n cs)) m) ≡ more (length cs) m
more-drop zero m cs l = refl
more-drop (suc n) m [] l = absurd (omega arith)
more-drop (suc n) m (c ∷ cs) l = ap suc (more-drop n m cs (omega arith))

drop-more : (xs u : List ℕ) (m : ℕ) → drop (more (length xs) m) (xs ++ u) ≡ drop m u
drop-more [] u m = refl
drop-more (x ∷ xs) u m = drop-more xs u m

silent-more : (n m : ℕ) (st : Stand) → silent (more n m) st ≡ longer_by n (silent m st)
silent-more zero m st = refl
silent-more (suc n) m st = ap longer (silent-more n m st)

quote-more : (n m : ℕ) (st : Stand) (t : List ℕ) → quote_at (more n m) st t ≡ longer_by n (quote_at m st t)
quote-more zero m st t = refl
quote-more (suc n) m st t = quote_at-more (more n m) st t ∙ ap longer (quote-more n m st t)

-- an item with something odd in it, after n characters more
marked-longer_by : (n : ℕ) (odd : Bool) (i : Item) → marked odd (longer_by n i) ≡ longer_by n (marked odd i)
marked-longer_by zero odd i = refl
marked-longer_by (suc n) odd i = ap longer (marked-longer_by n odd i)

-- what no value ends before: what is held, of which nothing is odd, and "&"
record GoesOn (odd ends : ℕ → Bool) : Type 0 where
  held : (c : ℕ) → is_held c ≡ true → ends c ≡ false
  plain : (c : ℕ) → is_held c ≡ true → odd c ≡ false
  reference : ends 38 ≡ false

module _ (rows : List Row) (odd ends : ℕ → Bool) (goes : GoesOn odd ends) where
  -- characters that a reference took
  value-skip : (n : ℕ) (xs u : List ℕ) → n ≤ length xs → value_from rows odd ends n (xs ++ u) ≡ later_all false n []
      (value_from rows odd ends 0 (drop n xs ++ u))
  unfolding value_from
  value-skip zero xs u l = refl
  value-skip (suc n) [] u l = absurd (omega arith)
  value-skip (suc n) (x ∷ xs) u l = ap (later false []) (value-skip n xs u (omega arith))

  -- characters that are text
  value-text : (xs u : List ℕ) → list_all is_held xs ≡ true → value_from rows odd ends 0 (xs ++ u) ≡ later_all false
      (length xs) xs (value_from rows odd ends 0 u)
  unfolding value_from
  value-text [] u h = refl
  value-text (x ∷ xs) u h =
      let p = and_parts (is_held x) (list_all is_held xs) h in
      rw (goes.held x p.0, held-no_reference x p.0, held-no_null x p.0, goes.plain x p.0) (ap (later false (x ∷ [])) (value-text xs u p.1))

  value-begun : (t : List ℕ) (o : Option Reference) → reference_at true rows t ≡ o → value_from rows odd ends 0
      (38 ∷ t) ≡ later (is_some (fault_of_reference rows t)) (reference_chars o) (value_from rows odd ends (reference_len o) t)
  unfolding value_from
  value-begun t o e = rw goes.reference
      (ap (λ o. later (is_some (fault_of_reference rows t)) (reference_chars o) (value_from rows odd ends (reference_len o) t)) e)

  value-by : (wrong : Bool) (cs u : List ℕ) (o : Option Reference) → list_all is_held cs ≡ true → IfSome o (λ r. r.len ≤ length cs)
      → later wrong (reference_chars o) (value_from rows odd ends (reference_len o) (cs ++ u)) ≡ later_all wrong
      (suc (length cs)) (resolved_by o cs) (value_from rows odd ends 0 u)
  value-by wrong cs u None held within = ap (later wrong (38 ∷ [])) (value-text cs u held)
  value-by wrong cs u (Some r) held within =
      let v = value_from rows odd ends 0 u in
      ap (later wrong r.chars) (value-skip r.len cs u within)
      ∙ ap (λ v. later wrong r.chars (later_all false r.len [] v)) (value-text (drop r.len cs) u (held-drop r.len cs held))
      ∙ ap (λ n. record { chars = r.chars ++ (drop r.len cs ++ v.chars); len = suc n; is_odd = wrong || v.is_odd })
      (more-drop r.len v.len cs within)
      ∙ ap (λ chars. record { chars = chars; len = suc (more (length cs) v.len); is_odd = wrong || v.is_odd })
      (sym (append_assoc r.chars (drop r.len cs) v.chars))

  -- what was held stands in a value for its characters, where what follows makes no other reference of it
  value-held : (cs u : List ℕ) (follows : Bool) → list_all is_held cs ≡ true → reference_at true rows
      (cs ++ u) ≡ decided true rows cs follows → fault_of_reference rows (cs ++ u) ≡ fault_of_reference rows cs
      → value_from rows odd ends 0 (38 ∷ cs ++ u) ≡ later_all (is_some (fault_of_reference rows cs))
      (suc (length cs)) (resolved true rows cs follows) (value_from rows odd ends 0 u)
  value-held cs u follows held e f =
      let o = decided true rows cs follows in
      value-begun (cs ++ u) o e
      ∙ value-by (is_some (fault_of_reference rows (cs ++ u))) cs u o held (decided-within true rows cs follows)
      ∙ ap (λ fault. later_all (is_some fault) (suc (length cs)) (resolved true rows cs follows) (value_from rows odd ends 0 u)) f

held-no_space : (c : ℕ) → is_held c ≡ true → ends_word c ≡ false
held-no_space c h = grind (arith, nat_tests)

held-no_double : (c : ℕ) → is_held c ≡ true → nat_eq 34 c ≡ false
held-no_double c h = grind (arith, nat_tests)

held-no_single : (c : ℕ) → is_held c ≡ true → nat_eq 39 c ≡ false
held-no_single c h = grind (arith, nat_tests)

held-not_odd : (c : ℕ) → is_held c ≡ true → is_odd_unquoted c ≡ false
held-not_odd c h = grind (arith, nat_tests)

word-goes_on : GoesOn is_odd_unquoted ends_word
word-goes_on = record { held = held-no_space; plain = held-not_odd; reference = refl }

double-goes_on : GoesOn is_null (nat_eq 34)
double-goes_on = record { held = held-no_double; plain = held-no_null; reference = refl }

single-goes_on : GoesOn is_null (nat_eq 39)
single-goes_on = record { held = held-no_single; plain = held-no_null; reference = refl }

module _ (rows : List Row) (st : Stand) (tag : Tag) (name front cs u : List ℕ) (follows : Bool)
    (held : list_all is_held cs ≡ true) (e : reference_at true rows (cs ++ u) ≡ decided true rows cs follows)
    (f : fault_of_reference rows (cs ++ u) ≡ fault_of_reference rows cs) where
  abbrev told_value : List ℕ
  told_value = resolved true rows cs follows

  -- whether something is wrong with what was held
  abbrev is_wrong : Bool
  is_wrong = is_some (fault_of_reference rows cs)

  unquoted-held : unquoted_after rows st tag name front (38 ∷ cs ++ u) ≡ marked is_wrong
      (longer_by (suc (length cs)) (unquoted_after rows st tag name (front ++ told_value) u))
  unquoted-held =
      let v = value_from rows is_odd_unquoted ends_word 0 u in
      let next = moved st (InTag (with_attribute tag name ((front ++ told_value) ++ v.chars))) in
      ap (λ v. marked v.is_odd (silent v.len (moved st (InTag (with_attribute tag name (front ++ v.chars))))))
      (value-held rows is_odd_unquoted ends_word word-goes_on cs u follows held e f)
      ∙ ap (λ value. marked (is_wrong || v.is_odd)
      (silent (more (suc (length cs)) v.len) (moved st (InTag (with_attribute tag name value)))))
      (sym (append_assoc front told_value v.chars))
      ∙ marked-both is_wrong v.is_odd (silent (more (suc (length cs)) v.len) next)
      ∙ ap (λ i. marked is_wrong (marked v.is_odd i)) (silent-more (suc (length cs)) v.len next)
      ∙ ap (marked is_wrong) (marked-longer_by (suc (length cs)) v.is_odd (silent v.len next))

  quoted-held : (quote : ℕ) → GoesOn is_null (nat_eq quote) → quoted_after rows quote st tag name front
      (38 ∷ cs ++ u) ≡ marked is_wrong (longer_by (suc (length cs)) (quoted_after rows quote st tag name (front ++ told_value) u))
  quoted-held quote goes =
      let v = value_from rows is_null (nat_eq quote) 0 u in
      let next = moved st (InTag (with_attribute tag name ((front ++ told_value) ++ v.chars))) in
      ap (λ v. marked v.is_odd (quote_at v.len (moved st (InTag (with_attribute tag name (front ++ v.chars))))
      (drop v.len (38 ∷ cs ++ u)))) (value-held rows is_null (nat_eq quote) goes cs u follows held e f)
      ∙ ap (λ value. marked (is_wrong || v.is_odd)
      (quote_at (more (suc (length cs)) v.len) (moved st (InTag (with_attribute tag name value)))
      (drop (more (suc (length cs)) v.len) (38 ∷ cs ++ u)))) (sym (append_assoc front told_value v.chars))
      ∙ ap (λ u. marked (is_wrong || v.is_odd) (quote_at (more (suc (length cs)) v.len) next u)) (drop-more (38 ∷ cs) u v.len)
      ∙ marked-both is_wrong v.is_odd (quote_at (more (suc (length cs)) v.len) next (drop v.len u))
      ∙ ap (λ i. marked is_wrong (marked v.is_odd i)) (quote-more (suc (length cs)) v.len next (drop v.len u))
      ∙ ap (marked is_wrong) (marked-longer_by (suc (length cs)) v.is_odd (quote_at v.len next (drop v.len u)))

module _ {T : Type 0} (to : Listener T) (rows : List Row) where
  -- an item after characters that were held
  play-longer_by : (j : Item) (b : ℕ) (s : T) (xs t : List ℕ) → list_all is_held xs ≡ true → emitted_item to rows
      (longer_by (length xs) j) b s (xs ++ t) ≡ emitted_item to rows j b s t
  play-longer_by j b s [] t h = refl
  play-longer_by j b s (x ∷ xs) t h =
      let p = and_parts (is_held x) (list_all is_held xs) h in
      play-is to rows (longer_by (length (x ∷ xs)) j) (longer_by (length xs) j) b s x (xs ++ t) refl
      ∙ ap (λ n. emitted_item to rows (longer_by (length xs) j) n s (xs ++ t)) (no-break b x (held-unbroken x p.0))
      ∙ play-longer_by j b s xs t p.1

  module _ (absorbs : Absorbing to.erred) where
    -- an item after what was held, with which something may be wrong
    play-held : (wrong : Bool) (i j : Item) (b : ℕ) (s : T) (cs t : List ℕ) → list_all is_held cs ≡ true
        → i ≡ marked wrong (longer_by (suc (length cs)) j) → emitted_item to rows i b s
        (38 ∷ cs ++ t) ≡ emitted_item to rows j b (erred_by to.erred (slight_if wrong) s) t
    play-held wrong i j b s cs t h e =
        let q = erred_by to.erred (slight_if wrong) s in
        play-odd to rows absorbs wrong i (longer_by (length cs) j) b s 38 (cs ++ t) e
        ∙ ap (λ n. emitted_item to rows (longer_by (length cs) j) n q (cs ++ t)) (no-break b 38 refl)
        ∙ play-longer_by j b q cs t h

    module _ (st : Stand) (tag : Tag) (name front cs u : List ℕ) (follows : Bool) (b : ℕ) (s : T)
        (held : list_all is_held cs ≡ true) (e : reference_at true rows (cs ++ u) ≡ decided true rows cs follows)
        (f : fault_of_reference rows (cs ++ u) ≡ fault_of_reference rows cs) where
      -- what is noted of what was held
      abbrev wronged_by : T
      wronged_by = erred_by to.erred (slight_if (is_some (fault_of_reference rows cs))) s

      pub play-unquoted : emitted_item to rows (unquoted_after rows st tag name front (38 ∷ cs ++ u)) b s
          (38 ∷ cs ++ u) ≡ emitted_item to rows (unquoted_after rows st tag name (front ++ resolved true rows cs follows) u) b wronged_by u
      play-unquoted = play-held _ _ _ b s cs u held (unquoted-held rows st tag name front cs u follows held e f)

      pub play-double : emitted_item to rows (quoted_after rows 34 st tag name front (38 ∷ cs ++ u)) b s
          (38 ∷ cs ++ u) ≡ emitted_item to rows (quoted_after rows 34 st tag name (front ++ resolved true rows cs follows) u) b wronged_by u
      play-double = play-held _ _ _ b s cs u held (quoted-held rows st tag name front cs u follows held e f 34 double-goes_on)

      pub play-single : emitted_item to rows (quoted_after rows 39 st tag name front (38 ∷ cs ++ u)) b s
          (38 ∷ cs ++ u) ≡ emitted_item to rows (quoted_after rows 39 st tag name (front ++ resolved true rows cs follows) u) b wronged_by u
      play-single = play-held _ _ _ b s cs u held (quoted-held rows st tag name front cs u follows held e f 39 single-goes_on)
