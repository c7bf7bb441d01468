-- How a tag is read, character by character.
use Rattle.std.proofs.Common.{◌≡◌, ◌∙◌, ℕ, suc, ◌+◌, Bool, true, false, nat_eq, List, [], ◌∷◌, ◌++◌, take, drop, refl, ap}
use Rattle.std.proofs.Common.{append-nil, append_assoc, sym}
use Rattle.std.specs.Prelude.{codes, ◌||◌}
use Rattle.html_tokens.specs.declared.tags.Tag.{Tag}
use Rattle.html_tokens.specs.declared.token.Token.TheVariants.{TagToken}
use Rattle.html_tokens.specs.Characters.{is_white_space, ends_tag_name, ends_attribute_name, lowered, all_lowered, run, white}
use Rattle.html_tokens.specs.Characters.{begins, is_null, has_null}
use Rattle.html_tokens.specs.Item.{TextPlace, InTag, Stand, moved, longer, longer_by, silent, token_item, grave_if, Slight}
use Rattle.html_tokens.specs.Item.{slight_if, marked}
use Rattle.html_tokens.specs.Reading.{◌>>=◌, next_stand, line_number, line_break, erred_by}
use Rattle.html_tokens.specs.Table.{Row}
use Rattle.html_tokens.specs.Tags.{name_after, attribute_after, after_tag, Opening, Quote, Close, Other, opening, opened_by}
use Rattle.html_tokens.specs.Tags.{opened_at, equals_by, is_faulty_tag, is_odd_in_name, is_odd_first}
use Rattle.html_tokenizer.proofs.Steps.Readings.{sum-zero, play-nothing, reading-is, Absorbing, marked-both, play-odd, reading-odd}
use Rattle.std.specs.List.{list_any}
use Rattle.html_tokenizer.specs.Listeners.{Listener, emitted_text, emitted_item}

-- Where an attribute's reading stands does not matter, but for the last start tag.
opened_by-moved : (o : Opening) (rows : List Row) (st : Stand) (p : TextPlace) (tag : Tag) (name : List ℕ) (c : ℕ)
    (t : List ℕ) → opened_by o rows (moved st p) tag name c t ≡ opened_by o rows st tag name c t
opened_by-moved Quote rows st p tag name c t = refl
opened_by-moved Close rows st p tag name c t = refl
opened_by-moved Other rows st p tag name c t = refl

opened_at-moved : (rows : List Row) (st : Stand) (p : TextPlace) (tag : Tag) (name t : List ℕ)
    → opened_at rows (moved st p) tag name t ≡ opened_at rows st tag name t
opened_at-moved rows st p tag name [] = refl
opened_at-moved rows st p tag name (c ∷ t) = opened_by-moved (opening c) rows st p tag name c t

equals_by-moved : (equals : Bool) (rows : List Row) (st : Stand) (p : TextPlace) (tag : Tag) (name t : List ℕ)
    → equals_by equals rows (moved st p) tag name t ≡ equals_by equals rows st tag name t
equals_by-moved true rows st p tag name t =
    let u = drop (suc (white t)) t in
    ap (λ i. longer_by (suc (white t)) (longer_by (white u) i)) (opened_at-moved rows st p tag name (drop (white u) u))
equals_by-moved false rows st p tag name t = refl

attribute_after-moved : (rows : List Row) (st : Stand) (p : TextPlace) (tag : Tag) (front t : List ℕ)
    → attribute_after rows (moved st p) tag front t ≡ attribute_after rows st tag front t
attribute_after-moved rows st p tag front t =
    let n = run ends_attribute_name t in
    let u = drop n t in
    ap (λ i. marked (list_any is_odd_in_name (take n t)) (longer_by n i))
    (equals_by-moved (begins (codes "=") (drop (white u) u)) rows st p tag (front ++ all_lowered (take n t)) u)

module _ {T : Type 0} (to : Listener T) (rows : List Row) where
  -- a character of a tag's name, which may be U+0000, and the name's end
  pub name-more : (absorbs : Absorbing to.erred) (st : Stand) (tag : Tag) (b : ℕ) (s : T) (c : ℕ) (t : List ℕ) → ends_tag_name c ≡ false
      → emitted_item to rows (name_after st tag (c ∷ t)) b s (c ∷ t) ≡ emitted_item to rows
      (name_after st (record tag { name = tag.name ++ lowered c ∷ [] }) t) (b + line_break (nat_eq c 10))
      (erred_by to.erred (slight_if (is_null c)) s) t
  name-more absorbs st tag b s c t e =
      play-odd to rows absorbs (is_null c) (name_after st tag (c ∷ t))
      (name_after st (record tag { name = tag.name ++ lowered c ∷ [] }) t) b s c t
      (rw e (ap (λ i. marked (is_null c || has_null (take (run ends_tag_name t) t)) (longer i))
      (ap (λ name. silent (run ends_tag_name t) (moved st (InTag (record tag { name = name }))))
      (sym (append_assoc tag.name (lowered c ∷ []) (all_lowered (take (run ends_tag_name t) t)))))
      ∙ marked-both (is_null c) (has_null (take (run ends_tag_name t) t)) _))

  pub name-end : (st : Stand) (tag : Tag) (b : ℕ) (s : T) (c : ℕ) (t : List ℕ) → ends_tag_name c ≡ true
      → emitted_item to rows (name_after st tag (c ∷ t)) b s (c ∷ t) ≡ emitted_text to rows (moved st (InTag tag)) b s (c ∷ t)
  name-end st tag b s c t e = rw e (rw append-nil (play-nothing to rows (moved st (InTag tag)) b s (c ∷ t)))

  -- in a tag: white space, "/" before anything but ">", the end, an attribute
  pub tag-space : (st : Stand) (tag : Tag) (b : ℕ) (s : T) (c : ℕ) (t : List ℕ) → is_white_space c ≡ true
      → emitted_text to rows (moved st (InTag tag)) b s (c ∷ t) ≡ emitted_text to rows (moved st (InTag tag))
      (b + line_break (nat_eq c 10)) s t
  tag-space st tag b s c t e =
      reading-is to rows (moved st (InTag tag)) b s c t (silent 0 (moved st (InTag tag))) (rw e refl)
      ∙ play-nothing to rows (moved st (InTag tag)) (b + line_break (nat_eq c 10)) s t

  -- a "/" that to.ends no tag is odd
  pub tag-slash : (absorbs : Absorbing to.erred) (st : Stand) (tag : Tag) (b : ℕ) (s : T) (c : ℕ) (t : List ℕ) → nat_eq 62 c ≡ false
      → emitted_text to rows (moved st (InTag tag)) b s (47 ∷ c ∷ t) ≡ emitted_text to rows (moved st (InTag tag)) b
      (to.erred Slight s) (c ∷ t)
  tag-slash absorbs st tag b s c t e =
      reading-odd to rows absorbs true (moved st (InTag tag)) b s 47 (c ∷ t) (silent 0 (moved st (InTag tag))) (rw e refl)
      ∙ play-nothing to rows (moved st (InTag tag)) (b + 0) (to.erred Slight s) (c ∷ t)
      ∙ ap (λ n. emitted_text to rows (moved st (InTag tag)) n (to.erred Slight s) (c ∷ t)) (sum-zero b)

  told-tag : (st : Stand) (tag : Tag) (n b : ℕ) (s : T) (t : List ℕ) → n ≡ b
      → (to.step (erred_by to.erred (grave_if (is_faulty_tag tag)) s) (TagToken tag) (line_number n)
      >>= λ p. emitted_text to rows (next_stand (after_tag st tag) p.1) n p.0 t) ≡
      (to.step (erred_by to.erred (grave_if (is_faulty_tag tag)) s) (TagToken tag) (line_number b)
      >>= λ p. emitted_text to rows (next_stand (after_tag st tag) p.1) b p.0 t)
  told-tag st tag n b s t e = ap (λ n. to.step (erred_by to.erred (grave_if (is_faulty_tag tag)) s) (TagToken tag)
      (line_number n) >>= λ p. emitted_text to rows (next_stand (after_tag st tag) p.1) n p.0 t) e

  pub tag-end : (st : Stand) (tag : Tag) (b : ℕ) (s : T) (t : List ℕ)
      → emitted_text to rows (moved st (InTag tag)) b s
      (62 ∷ t) ≡ (to.step (erred_by to.erred (grave_if (is_faulty_tag tag)) s) (TagToken tag) (line_number b)
      >>= λ p. emitted_text to rows (next_stand (after_tag st tag) p.1) b p.0 t)
  tag-end st tag b s t =
      reading-is to rows (moved st (InTag tag)) b s 62 t (token_item (grave_if (is_faulty_tag tag)) (TagToken tag) 0
      (after_tag st tag)) refl
      ∙ told-tag st tag ((b + 0) + 0) b s t (sum-zero (b + 0) ∙ sum-zero b)

  pub tag-slash_end : (st : Stand) (tag : Tag) (b : ℕ) (s : T) (t : List ℕ)
      → emitted_text to rows (moved st (InTag tag)) b s (47 ∷ 62 ∷ t)
      ≡ (to.step (erred_by to.erred (grave_if (is_faulty_tag (record tag { self_closing = true }))) s)
      (TagToken (record tag { self_closing = true })) (line_number b) >>= λ p. emitted_text to rows
      (next_stand (after_tag st tag) p.1) b p.0 t)
  tag-slash_end st tag b s t =
      reading-is to rows (moved st (InTag tag)) b s 47 (62 ∷ t)
      (token_item (grave_if (is_faulty_tag (record tag { self_closing = true })))
      (TagToken (record tag { self_closing = true })) 1 (after_tag st tag)) refl
      ∙ told-tag st (record tag { self_closing = true }) ((b + 0) + 0) b s t (sum-zero (b + 0) ∙ sum-zero b)

  -- an attribute begins, whose first character may be odd
  pub tag-attribute : (absorbs : Absorbing to.erred) (st : Stand) (tag : Tag) (b : ℕ) (s : T) (c : ℕ) (t : List ℕ)
      → is_white_space c ≡ false → nat_eq c 47 ≡ false → nat_eq c 62 ≡ false
      → emitted_text to rows (moved st (InTag tag)) b s (c ∷ t) ≡ emitted_item to rows
      (attribute_after rows st tag (lowered c ∷ []) t) (b + line_break (nat_eq c 10))
      (erred_by to.erred (slight_if (is_odd_first c)) s) t
  tag-attribute absorbs st tag b s c t e f g =
      reading-odd to rows absorbs (is_odd_first c) (moved st (InTag tag)) b s c t (attribute_after rows st tag (lowered c ∷ []) t)
      (rw (e, f, g) (ap (λ i. marked (is_odd_first c) (longer i)) (attribute_after-moved rows st (InTag tag) tag (lowered c ∷ []) t)))
