-- How an attribute is read, character by character.
use Rattle.std.proofs.Common.{◌≡◌, ◌∙◌, ℕ, suc, ◌+◌, Bool, true, false, nat_eq, List, [], ◌∷◌, ◌++◌, take, drop, refl, sym, ap}
use Rattle.std.proofs.Common.{append-nil, append_assoc}
use Rattle.std.specs.Prelude.{codes, ◌||◌}
use Rattle.html_tokens.specs.declared.tags.Tag.{Tag}
use Rattle.html_tokens.specs.Characters.{is_white_space, ends_attribute_name, ends_word, lowered, all_lowered, shown, run}
use Rattle.html_tokens.specs.Characters.{white, begins, is_null}
use Rattle.html_tokens.specs.Item.{InTag, Stand, moved, longer, longer_by, silent, marked, slight_if}
use Rattle.html_tokens.specs.Reading.{line_break, erred_by}
use Rattle.html_tokens.specs.Table.{Row}
use Rattle.html_tokens.specs.Tags.{with_attribute, attribute_after, equals_by, equals_at, value_at, opening, opened_by}
use Rattle.html_tokens.specs.Tags.{value_from, quote_at, quoted_after, unquoted_after, no_value, lacks_space, is_odd_in_name}
use Rattle.html_tokens.specs.Tags.{is_odd_unquoted}
use Rattle.html_tokenizer.proofs.Steps.Readings.{play-is, play-nothing, Absorbing, marked-both, play-odd}
use Rattle.html_tokenizer.proofs.Tags.Readings.{tag-space}
use Rattle.std.specs.List.{list_any}
use Rattle.html_tokenizer.specs.Listeners.{Listener, emitted_text, emitted_item}

white-more : (c : ℕ) (t : List ℕ) → is_white_space c ≡ true → white (c ∷ t) ≡ suc (white t)
white-more c t e = rw e refl

-- where an attribute's name ends
pub name-ends : (rows : List Row) (st : Stand) (tag : Tag) (front : List ℕ) (c : ℕ) (t : List ℕ)
    → ends_attribute_name c ≡ true → attribute_after rows st tag front (c ∷ t) ≡ equals_at rows st tag front (c ∷ t)
name-ends rows st tag front c t e = rw e (ap (λ name. equals_at rows st tag name (c ∷ t)) (append-nil front))

-- no "=" comes
pub equals-none : (rows : List Row) (st : Stand) (tag : Tag) (name : List ℕ) (c : ℕ) (t : List ℕ)
    → is_white_space c ≡ false → nat_eq 61 c ≡ false → equals_at rows st tag name (c ∷ t) ≡ no_value st tag name
equals-none rows st tag name c t e f = rw (e, f) refl

-- a value begins
pub value-opens : (rows : List Row) (st : Stand) (tag : Tag) (name : List ℕ) (c : ℕ) (t : List ℕ)
    → is_white_space c ≡ false → value_at rows st tag name (c ∷ t) ≡ opened_by (opening c) rows st tag name c t
value-opens rows st tag name c t e = rw e refl

-- one character more before the quote
pub quote_at-more : (n : ℕ) (st : Stand) (t : List ℕ) → quote_at (suc n) st t ≡ longer (quote_at n st t)
quote_at-more n st [] = refl
quote_at-more n st (c ∷ t) = refl

quoted-behind : (rows : List Row) (quote : ℕ) (st : Stand) (tag : Tag) (name front : List ℕ) (c : ℕ) (t : List ℕ)
    → nat_eq quote c ≡ false → nat_eq c 38 ≡ false
    → quoted_after rows quote st tag name front (c ∷ t) ≡ marked (is_null c)
    (longer (quoted_after rows quote st tag name (front ++ shown c ∷ []) t))
unfolding value_from
quoted-behind rows quote st tag name front c t e f =
    let v = value_from rows is_null (nat_eq quote) 0 t in
    rw (e, f) (
    ap (λ value. marked (is_null c || v.is_odd)
    (quote_at (suc v.len) (moved st (InTag (with_attribute tag name value))) (drop v.len t)))
    (sym (append_assoc front (shown c ∷ []) v.chars))
    ∙ marked-both (is_null c) v.is_odd _
    ∙ ap (λ i. marked (is_null c) (marked v.is_odd i))
    (quote_at-more v.len (moved st (InTag (with_attribute tag name ((front ++ shown c ∷ []) ++ v.chars)))) (drop v.len t)))

quoted-ends : (rows : List Row) (quote : ℕ) (st : Stand) (tag : Tag) (name front : List ℕ) (c : ℕ) (t : List ℕ) → nat_eq quote c ≡ true
    → quoted_after rows quote st tag name front (c ∷ t) ≡ marked (lacks_space t)
    (longer (silent 0 (moved st (InTag (with_attribute tag name front)))))
unfolding value_from
quoted-ends rows quote st tag name front c t e =
    rw e (ap (λ value. marked (lacks_space t) (silent 1 (moved st (InTag (with_attribute tag name value))))) (append-nil front))

unquoted-behind : (rows : List Row) (st : Stand) (tag : Tag) (name front : List ℕ) (c : ℕ) (t : List ℕ)
    → ends_word c ≡ false → nat_eq c 38 ≡ false
    → unquoted_after rows st tag name front (c ∷ t) ≡ marked (is_odd_unquoted c)
    (longer (unquoted_after rows st tag name (front ++ shown c ∷ []) t))
unfolding value_from
unquoted-behind rows st tag name front c t e f =
    let v = value_from rows is_odd_unquoted ends_word 0 t in
    rw (e, f) (
    ap (λ value. marked (is_odd_unquoted c || v.is_odd)
    (silent (suc v.len) (moved st (InTag (with_attribute tag name value))))) (sym (append_assoc front (shown c ∷ []) v.chars))
    ∙ marked-both (is_odd_unquoted c) v.is_odd _)

-- where a value without quotes ends
pub unquoted-ends : (rows : List Row) (st : Stand) (tag : Tag) (name front : List ℕ) (c : ℕ) (t : List ℕ) → ends_word c ≡ true
    → unquoted_after rows st tag name front (c ∷ t) ≡ silent 0 (moved st (InTag (with_attribute tag name front)))
unfolding value_from
unquoted-ends rows st tag name front c t e =
    rw e (ap (λ value. silent 0 (moved st (InTag (with_attribute tag name value)))) (append-nil front))

module _ {T : Type 0} (to : Listener T) (rows : List Row) where
  -- a character of an attribute's name, which may be odd
  pub name-goes_on : (absorbs : Absorbing to.erred) (st : Stand) (tag : Tag) (front : List ℕ) (b : ℕ) (s : T)
      (c : ℕ) (t : List ℕ) → ends_attribute_name c ≡ false
      → emitted_item to rows (attribute_after rows st tag front (c ∷ t)) b s (c ∷ t) ≡ emitted_item to rows
      (attribute_after rows st tag (front ++ lowered c ∷ []) t) (b + line_break (nat_eq c 10))
      (erred_by to.erred (slight_if (is_odd_in_name c)) s) t
  name-goes_on absorbs st tag front b s c t e =
      let n = run ends_attribute_name t in
      play-odd to rows absorbs (is_odd_in_name c) (attribute_after rows st tag front (c ∷ t))
      (attribute_after rows st tag (front ++ lowered c ∷ []) t) b s c t
      (rw e (ap (λ name. marked (is_odd_in_name c || list_any is_odd_in_name (take n t))
      (longer (longer_by n (equals_at rows st tag name (drop n t)))))
      (sym (append_assoc front (lowered c ∷ []) (all_lowered (take n t))))
      ∙ marked-both (is_odd_in_name c) (list_any is_odd_in_name (take n t)) _))

  -- white space before "=", or before what follows an attribute without value
  equals_by-space : (equals : Bool) (st : Stand) (tag : Tag) (name : List ℕ) (b : ℕ) (s : T) (c : ℕ) (t : List ℕ) → is_white_space c ≡ true
      → emitted_item to rows (equals_by equals rows st tag name (c ∷ t)) b s (c ∷ t) ≡ emitted_item to rows
      (equals_by equals rows st tag name t) (b + line_break (nat_eq c 10)) s t
  equals_by-space true st tag name b s c t e =
      play-is to rows (equals_by true rows st tag name (c ∷ t)) (equals_by true rows st tag name t) b s c t
      (ap (λ n. longer_by (suc n) (value_at rows st tag name (drop (suc n) (c ∷ t)))) (white-more c t e))
  equals_by-space false st tag name b s c t e =
      let next = with_attribute tag name [] in
      play-nothing to rows (moved st (InTag next)) b s (c ∷ t)
      ∙ tag-space to rows st next b s c t e
      ∙ sym (play-nothing to rows (moved st (InTag next)) (b + line_break (nat_eq c 10)) s t)

  pub equals-space : (st : Stand) (tag : Tag) (name : List ℕ) (b : ℕ) (s : T) (c : ℕ) (t : List ℕ) → is_white_space c ≡ true
      → emitted_item to rows (equals_at rows st tag name (c ∷ t)) b s (c ∷ t) ≡ emitted_item to rows
      (equals_at rows st tag name t) (b + line_break (nat_eq c 10)) s t
  equals-space st tag name b s c t e =
      ap (λ n. emitted_item to rows (equals_by (begins (codes "=") (drop n (c ∷ t))) rows st tag name (c ∷ t)) b s
      (c ∷ t)) (white-more c t e)
      ∙ equals_by-space (begins (codes "=") (drop (white t) t)) st tag name b s c t e

  pub equals-sign : (st : Stand) (tag : Tag) (name : List ℕ) (b : ℕ) (s : T) (t : List ℕ)
      → emitted_item to rows (equals_at rows st tag name (61 ∷ t)) b s (61 ∷ t) ≡ emitted_item to rows
      (value_at rows st tag name t) (b + line_break (nat_eq 61 10)) s t
  equals-sign st tag name b s t = play-is to rows (equals_at rows st tag name (61 ∷ t)) (value_at rows st tag name t) b s 61 t refl

  -- white space before a value, and the quote that begins one
  pub value-space : (st : Stand) (tag : Tag) (name : List ℕ) (b : ℕ) (s : T) (c : ℕ) (t : List ℕ) → is_white_space c ≡ true
      → emitted_item to rows (value_at rows st tag name (c ∷ t)) b s (c ∷ t) ≡ emitted_item to rows
      (value_at rows st tag name t) (b + line_break (nat_eq c 10)) s t
  value-space st tag name b s c t e = play-is to rows (value_at rows st tag name (c ∷ t)) (value_at rows st tag name t) b s c t (rw e refl)

  pub value-quote : (st : Stand) (tag : Tag) (name : List ℕ) (b : ℕ) (s : T) (t : List ℕ)
      → emitted_item to rows (value_at rows st tag name (34 ∷ t)) b s (34 ∷ t) ≡ emitted_item to rows
      (quoted_after rows 34 st tag name [] t) (b + line_break (nat_eq 34 10)) s t
  value-quote st tag name b s t = play-is to rows (value_at rows st tag name (34 ∷ t)) (quoted_after rows 34 st tag name [] t) b s 34 t refl

  pub value-apostrophe : (st : Stand) (tag : Tag) (name : List ℕ) (b : ℕ) (s : T) (t : List ℕ)
      → emitted_item to rows (value_at rows st tag name (39 ∷ t)) b s (39 ∷ t) ≡ emitted_item to rows
      (quoted_after rows 39 st tag name [] t) (b + line_break (nat_eq 39 10)) s t
  value-apostrophe st tag name b s t = play-is to rows (value_at rows st tag name (39 ∷ t))
      (quoted_after rows 39 st tag name [] t) b s 39 t refl

  -- a character of a value that begins no reference
  pub quoted-goes_on : (absorbs : Absorbing to.erred) (quote : ℕ) (st : Stand) (tag : Tag) (name front : List ℕ)
      (b : ℕ) (s : T) (c : ℕ) (t : List ℕ) → nat_eq quote c ≡ false → nat_eq c 38 ≡ false
      → emitted_item to rows (quoted_after rows quote st tag name front (c ∷ t)) b s (c ∷ t) ≡ emitted_item to rows
      (quoted_after rows quote st tag name (front ++ shown c ∷ []) t) (b + line_break (nat_eq c 10))
      (erred_by to.erred (slight_if (is_null c)) s) t
  quoted-goes_on absorbs quote st tag name front b s c t e f =
      play-odd to rows absorbs (is_null c) (quoted_after rows quote st tag name front (c ∷ t))
      (quoted_after rows quote st tag name (front ++ shown c ∷ []) t) b s c t (quoted-behind rows quote st tag name front c t e f)

  -- the quote that to.ends a value, after which no attribute may stand
  pub quoted-closes : (absorbs : Absorbing to.erred) (quote : ℕ) (st : Stand) (tag : Tag) (name front : List ℕ)
      (b : ℕ) (s : T) (c : ℕ) (t : List ℕ) → nat_eq quote c ≡ true
      → emitted_item to rows (quoted_after rows quote st tag name front (c ∷ t)) b s (c ∷ t) ≡ emitted_text to rows
      (moved st (InTag (with_attribute tag name front))) (b + line_break (nat_eq c 10))
      (erred_by to.erred (slight_if (lacks_space t)) s) t
  quoted-closes absorbs quote st tag name front b s c t e =
      let next = moved st (InTag (with_attribute tag name front)) in
      play-odd to rows absorbs (lacks_space t) (quoted_after rows quote st tag name front (c ∷ t)) (silent 0 next) b
      s c t (quoted-ends rows quote st tag name front c t e)
      ∙ play-nothing to rows next (b + line_break (nat_eq c 10)) (erred_by to.erred (slight_if (lacks_space t)) s) t

  pub unquoted-goes_on : (absorbs : Absorbing to.erred) (st : Stand) (tag : Tag) (name front : List ℕ) (b : ℕ)
      (s : T) (c : ℕ) (t : List ℕ) → ends_word c ≡ false → nat_eq c 38 ≡ false
      → emitted_item to rows (unquoted_after rows st tag name front (c ∷ t)) b s (c ∷ t) ≡ emitted_item to rows
      (unquoted_after rows st tag name (front ++ shown c ∷ []) t) (b + line_break (nat_eq c 10))
      (erred_by to.erred (slight_if (is_odd_unquoted c)) s) t
  unquoted-goes_on absorbs st tag name front b s c t e f =
      play-odd to rows absorbs (is_odd_unquoted c) (unquoted_after rows st tag name front (c ∷ t))
      (unquoted_after rows st tag name (front ++ shown c ∷ []) t) b s c t (unquoted-behind rows st tag name front c t e f)
