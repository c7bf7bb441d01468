-- The items of written forms are clean.
use Rattle.std.proofs.Common.{◌≡◌, ◌∙◌, ℕ, suc, Bool, true, false, nat_eq, nat_le, List, [], ◌∷◌, ◌++◌, length, take, Option}
use Rattle.std.proofs.Common.{Some, refl, ap, arith}
use Rattle.std.proofs.Math.Seq.{take-append_seam, drop-append_seam}
use Rattle.std.specs.Prelude.{not, codes, cond}
use Rattle.std.specs.Char.{is_ascii_lowercase}
use Rattle.std.specs.List.{list_all}
use Rattle.std.proofs.lemmas.Bool.{and_parts, not-true, le-leb}
use Rattle.std.proofs.lemmas.Bool.Decides.{nat_tests}
use Rattle.markup.specs.declared.attributes.Attribute.{Attribute}
use Rattle.html_tokens.specs.declared.tags.TagKind.TheVariants.{StartTag}
use Rattle.html_tokens.specs.Characters
use Rattle.html_tokens.specs.Clean.{is_clean_in_name, clean_name, is_word_end, is_clean_text, is_clean_value, is_clean_end, is_clean}
use Rattle.html_tokens.specs.Laws.{in_data, is_not_null, has_no_null, ReadsEscapes}
use Rattle.html_tokens.specs.Table.{Row}
use Rattle.html_tokens.specs.Tags
use Rattle.html_round_trip.proofs.Slices.References.{amp-named, lt-named, gt-named, quot-named, nbsp-named}
use Rattle.html_round_trip.specs.Slices.Forms.{is_tag_name, in_tag, in_rcdata, TextPlace, Data, Escapable, in_text}
use Rattle.markup.specs.Escape.{escape_value, escaped, escaped_by}
use Rattle.html_round_trip.proofs.Slices.Names.{lower-letter, run-name, white, slash, close}
use Rattle.html_round_trip.proofs.Slices.Items.{letters-of, begins-own, clean-tag}

some : (n : ℕ) → nat_le 1 (suc n) ≡ true
some n = le-leb 1 (suc n) (omega arith)

module _ (rows : List Row) (reads : ReadsEscapes rows) where
  -- VALUES

  escaped-by : (c : ℕ) (w u : List ℕ) (a b d e : Bool) → nat_eq c 38 ≡ a → nat_eq c 60 ≡ b → nat_eq c 62 ≡ d
      → nat_eq c 0xA0 ≡ e → nat_eq c 34 ≡ false → nat_eq c 0 ≡ false
      → is_clean_value rows (w ++ 34 ∷ u) ≡ true → is_clean_value rows ((escaped_by a b d e c ++ w) ++ 34 ∷ u) ≡ true
  escaped-by c w u true b d e ea eb ed ee q z h = rw (amp-named rows reads (w ++ 34 ∷ u)) h
  escaped-by c w u false true d e ea eb ed ee q z h = rw (lt-named rows reads (w ++ 34 ∷ u)) h
  escaped-by c w u false false true e ea eb ed ee q z h = rw (gt-named rows reads (w ++ 34 ∷ u)) h
  escaped-by c w u false false false true ea eb ed ee q z h = rw (nbsp-named rows reads (w ++ 34 ∷ u)) h
  escaped-by c w u false false false false ea eb ed ee q z h = rw (q, eb, z, ea) h

  one-by : (c : ℕ) (w u : List ℕ) (q : Bool) → nat_eq c 34 ≡ q → nat_eq c 0 ≡ false
      → is_clean_value rows (w ++ 34 ∷ u) ≡ true → is_clean_value rows ((cond q (codes "&quot;") (escaped c) ++ w) ++ 34 ∷ u) ≡ true
  one-by c w u true q z h = rw (quot-named rows reads (w ++ 34 ∷ u)) h
  one-by c w u false q z h = escaped-by c w u _ _ _ _ refl refl refl refl q z h

  value-clean : (v u : List ℕ) → has_no_null v ≡ true → is_word_end u ≡ true → is_clean_value rows (escape_value v ++ 34 ∷ u) ≡ true
  value-clean [] u h k = k
  value-clean (c ∷ v) u h k =
      let p = and_parts (is_not_null c) (has_no_null v) h in
      one-by c (escape_value v) u _ refl (not-true _ p.0) (value-clean v u p.1 k)

  -- ATTRIBUTES

  pub attribute-clean : (last : Option (List ℕ)) (name : List ℕ) (attrs : List Attribute) (c : ℕ) (n v u : List ℕ)
      → list_all is_clean_in_name (c ∷ n) ≡ true → has_no_null v ≡ true → is_word_end u ≡ true
      → Tags.has_attribute (record (Tags.named StartTag name) { attrs = attrs }) (c ∷ n) ≡ false
      → is_clean rows (in_tag last (record (Tags.named StartTag name) { attrs = attrs })) c
      (n ++ 61 ∷ 34 ∷ (escape_value v ++ 34 ∷ u)) ≡ true
  attribute-clean last name attrs c n v u h k l none =
      let p = and_parts (is_clean_in_name c) (list_all is_clean_in_name n) h in
      let rest = 61 ∷ 34 ∷ (escape_value v ++ 34 ∷ u) in
      let run : clean_name ((c ∷ n) ++ rest) ≡ length (c ∷ n) = run-name (λ d. not (is_clean_in_name d))
      (λ d e. rw e refl) (c ∷ n) 61 (34 ∷ (escape_value v ++ 34 ∷ u)) h refl in
      let tag = record (Tags.named StartTag name) { attrs = attrs } in
      let called : take (clean_name ((c ∷ n) ++ rest)) ((c ∷ n) ++ rest) ≡ c ∷
      n = ap (λ m. take m ((c ∷ n) ++ rest)) run ∙ take-append_seam (c ∷ n) rest in
      let lacks : Tags.has_attribute tag (take (clean_name ((c ∷ n) ++ rest)) ((c ∷ n) ++ rest)) ≡ false =
      ap (λ w. Tags.has_attribute tag w) called ∙ none in
      rw (white c p.0, slash c p.0, close c p.0, lacks, run, drop-append_seam (c ∷ n) rest, some (length n)) (value-clean v u k l)

  -- TEXT

  text-by : (place : TextPlace) (last : Option (List ℕ)) (c : ℕ) (t : List ℕ) → is_clean_text rows c t ≡ true
      → is_clean rows (in_text place last) c t ≡ true
  text-by Data last c t h = rw h refl
  text-by Escapable last c t h = rw h refl

  pub amp-clean : (place : TextPlace) (last : Option (List ℕ)) (u : List ℕ) → is_clean rows (in_text place last) 38
      (codes "amp;" ++ u) ≡ true
  amp-clean place last u = text-by place last 38 (codes "amp;" ++ u) (amp-named rows reads u)

  pub lt-clean : (place : TextPlace) (last : Option (List ℕ)) (u : List ℕ) → is_clean rows (in_text place last) 38 (codes "lt;" ++ u) ≡ true
  lt-clean place last u = text-by place last 38 (codes "lt;" ++ u) (lt-named rows reads u)

  pub gt-clean : (place : TextPlace) (last : Option (List ℕ)) (u : List ℕ) → is_clean rows (in_text place last) 38 (codes "gt;" ++ u) ≡ true
  gt-clean place last u = text-by place last 38 (codes "gt;" ++ u) (gt-named rows reads u)

  pub nbsp-clean : (place : TextPlace) (last : Option (List ℕ)) (u : List ℕ) → is_clean rows (in_text place last) 38
      (codes "nbsp;" ++ u) ≡ true
  nbsp-clean place last u = text-by place last 38 (codes "nbsp;" ++ u) (nbsp-named rows reads u)

  pub plain-clean : (place : TextPlace) (last : Option (List ℕ)) (c : ℕ) (u : List ℕ) → nat_eq c 60 ≡ false
      → nat_eq c 38 ≡ false → nat_eq c 0 ≡ false → is_clean rows (in_text place last) c u ≡ true
  plain-clean place last c u e f g = text-by place last c u (rw (e, f, g) refl)

-- TAGS

end-clean : (c : ℕ) (n : List ℕ) (x : ℕ) (u : List ℕ) → is_tag_name (c ∷ n) ≡ true → Characters.ends_word x ≡ true
    → is_clean_end ((c ∷ n) ++ x ∷ u) ≡ true
end-clean c n x u h k =
    let p = and_parts (is_ascii_lowercase c) (list_all is_clean_in_name n) h in
    let not-clean : not (is_clean_in_name x) ≡ true = grind (arith, nat_tests) in
    let run : clean_name ((c ∷ n) ++ x ∷ u) ≡ length (c ∷ n) = run-name (λ d. not (is_clean_in_name d))
    (λ d e. rw e refl) (c ∷ n) x u (clean-tag c n h) not-clean in
    rw (run, p.0, drop-append_seam (c ∷ n) (x ∷ u), some (length n)) k

pub start-clean : (rows : List Row) (last : Option (List ℕ)) (c : ℕ) (n : List ℕ) (x : ℕ) (u : List ℕ)
    → is_tag_name (c ∷ n) ≡ true → Characters.ends_word x ≡ true → is_clean rows (in_data last) 60 ((c ∷ n) ++ x ∷ u) ≡ true
start-clean rows last c n x u h k =
    rw (lower-letter c (and_parts (is_ascii_lowercase c) (list_all is_clean_in_name n) h).0) (end-clean c n x u h k)

pub end_tag-clean : (rows : List Row) (last : Option (List ℕ)) (c : ℕ) (n : List ℕ) (x : ℕ) (u : List ℕ)
    → is_tag_name (c ∷ n) ≡ true → Characters.ends_word x ≡ true → is_clean rows (in_data last) 60 (47 ∷ ((c ∷ n) ++ x ∷ u)) ≡ true
end_tag-clean rows last c n x u h k = end-clean c n x u h k

pub fitting-clean : (rows : List Row) (c : ℕ) (n : List ℕ) (x : ℕ) (u : List ℕ) → is_tag_name (c ∷ n) ≡ true
    → list_all is_ascii_lowercase (c ∷ n) ≡ true → Characters.ends_word x ≡ true → Characters.ends_tag_name x ≡ true
    → is_clean rows (in_rcdata (Some (c ∷ n))) 60 (47 ∷ ((c ∷ n) ++ x ∷ u)) ≡ true
fitting-clean rows c n x u h l k m = rw (letters-of (c ∷ n) l, begins-own (c ∷ n) x u l m) (end-clean c n x u h k)
