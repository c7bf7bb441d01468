-- The written forms spell their tokens.
use Rattle.std.proofs.Common.{◌≡◌, ◌∙◌, ℕ, suc, ◌+◌, Bool, true, false, nat_eq, List, [], ◌∷◌, ◌++◌, length, Option, Some, refl}
use Rattle.std.proofs.Common.{sym, ap, subst, arith, append_assoc, append-nil, length-append}
use Rattle.std.specs.Prelude.{codes, ◌&&◌, is_none}
use Rattle.std.specs.List.{list_all}
use Rattle.std.proofs.lemmas.Bool.{and_parts, eqb-true, not-true}
use Rattle.markup.specs.declared.attributes.Attribute.{Attribute}
use Rattle.html_tokens.specs.declared.tags.Tag.{Tag}
use Rattle.html_tokens.specs.declared.tags.TagKind.TheVariants.{StartTag, EndTag}
use Rattle.html_tokens.specs.declared.token.Token.{Token}
use Rattle.html_tokens.specs.declared.token.Token.TheVariants.{TagToken, CharacterTokens}
use Rattle.html_tokens.specs.Characters
use Rattle.html_tokens.specs.Clean.{is_clean, is_word_end}
use Rattle.html_tokens.specs.Item.{Stand, silent}
use Rattle.html_tokens.specs.Items.{item}
use Rattle.html_tokens.specs.Laws.{in_data, is_not_null, has_no_null, are_distinct, ReadsEscapes}
use Rattle.html_tokens.specs.Table.{Row}
use Rattle.html_tokens.specs.Tags
use Rattle.html_tokens.specs.Tags.{attribute}
use Rattle.html_round_trip.specs.Slices.Forms.{is_no_text, is_letter_name, in_rcdata, in_tag, TextPlace, in_text, doctype_token}
use Rattle.html_round_trip.specs.Slices.Forms.{start_token, end_token, is_tag_name, is_attribute_name, is_read_attribute}
use Rattle.html_round_trip.specs.Slices.Forms.{AreReadBack}
use Rattle.html_round_trip.specs.Slices.Slices.{Spells, Last, More, IsSpelled}
use Rattle.markup.specs.Escape.{end_tag, escape_value, escaped, escaped_by, start_tag, written_attribute, written_attributes}
use Rattle.markup.specs.Escape.{written_doctype}
use Rattle.html_round_trip.proofs.Slices.Attributes.{as-read, as-written, quoted}
use Rattle.html_round_trip.proofs.Slices.Names.{has-none}
use Rattle.html_round_trip.proofs.Slices.Items.{start-item, end-item, attribute-item, plain-item, amp-item, lt-item, gt-item}
use Rattle.html_round_trip.proofs.Slices.Items.{nbsp-item, fitting-item, doctype-item, letters-tag}
use Rattle.html_round_trip.proofs.Slices.CleanItems.{attribute-clean, amp-clean, lt-clean, gt-clean, nbsp-clean, plain-clean}
use Rattle.html_round_trip.proofs.Slices.CleanItems.{start-clean, end_tag-clean, fitting-clean}

module _ (rows : List Row) where
  pub doctype-spelled : (last : Option (List ℕ)) → IsSpelled rows (in_data last) (written_doctype (codes "html"))
      (doctype_token (codes "html")) (in_data last)
  doctype-spelled last asked t = Last 60 (codes "!DOCTYPE html>") (doctype-item rows asked last t) refl

  pub end-spelled : (last : Option (List ℕ)) (name : List ℕ) → is_tag_name name ≡ true
      → IsSpelled rows (in_data last) (end_tag name) (end_token name) (in_data last)
  end-spelled last [] h = λ asked t. absurd cc
  end-spelled last (c ∷ n) h = λ asked t.
      More (in_tag last (Tags.named EndTag (c ∷ n))) 60 (47 ∷ (c ∷ n)) (62 ∷ [])
      (end-item rows asked last c n 62 t h refl) (end_tag-clean rows last c n 62 t h refl) (Last 62 [] refl refl)

  pub fitting_end-spelled : (name : List ℕ) → is_letter_name name ≡ true → IsSpelled rows (in_rcdata (Some name))
      (end_tag name) (end_token name) (in_data (Some name))
  fitting_end-spelled [] l = λ asked t. absurd cc
  fitting_end-spelled (c ∷ n) l =
      let h = letters-tag c n l in λ asked t.
      More (in_tag (Some (c ∷ n)) (Tags.named EndTag (c ∷ n))) 60 (47 ∷ (c ∷ n)) (62 ∷ [])
      (fitting-item rows asked c n 62 t h l refl) (fitting-clean rows c n 62 t h l refl refl) (Last 62 [] refl refl)

  abbrev tagged : List ℕ → List Attribute → Tag
  tagged name attrs = record (Tags.named StartTag name) { attrs = attrs }

  module _ (reads : ReadsEscapes rows) where
    -- an attribute before what ends it, and then what follows
    attribute-more : (last : Option (List ℕ)) (name : List ℕ) (attrs : List Attribute) (n v b : List ℕ)
        (token : Token) (next : Stand) (asked : Bool) (t : List ℕ) → is_attribute_name n ≡ true → has_no_null v ≡ true
        → Tags.lacks_space (b ++ t) ≡ false → is_word_end (b ++ t) ≡ true → Tags.has_attribute (tagged name attrs) n ≡ false
        → Spells rows asked t (in_tag last (tagged name (attrs ++ attribute n v ∷ []))) b token next
        → Spells rows asked t (in_tag last (tagged name attrs)) (quoted n v ++ b) token next
    attribute-more last name attrs [] v b token next asked t h k l m none rest = absurd cc
    attribute-more last name attrs (c ∷ n) v b token next asked t h k l m none rest =
        let tag = tagged name attrs in
        let st = in_tag last tag in
        let w = escape_value v in
        let cs = n ++ 61 ∷ 34 ∷ (w ++ 34 ∷ []) in
        let u = b ++ t in
        let mid = in_tag last (tagged name (attrs ++ attribute (c ∷ n) v ∷ [])) in
        let new : Tags.with_attribute tag (c ∷ n) v ≡ tagged name (attrs ++ attribute (c ∷ n) v ∷ []) = rw none refl in
        let shape : cs ++ u ≡ n ++ 61 ∷ 34 ∷ (w ++ 34 ∷ u) = simp append_assoc in
        let long : suc (length n + suc (suc (suc (length w)))) ≡ length (c ∷ cs) =
        omega (arith, length-append n (61 ∷ 34 ∷ (w ++ 34 ∷ [])), length-append w (34 ∷ [])) in
        More st 32 [] ((c ∷ cs) ++ b) refl refl
        (More mid c cs b
        (ap (item rows asked st c) shape ∙ (attribute-item rows reads asked last tag c n v u h k l
        ∙ ap (λ m. silent m (in_tag last (Tags.with_attribute tag (c ∷ n) v))) long
        ∙ ap (λ tag. silent (length (c ∷ cs)) (in_tag last tag)) new))
        (ap (is_clean rows st c) shape ∙ attribute-clean rows reads last name attrs c n v u h k m none)
        rest)

    spaced : (rest : List Attribute) (t : List ℕ)
        → (Tags.lacks_space ((written_attributes rest ++ 62 ∷ []) ++ t) ≡ false)
        × (is_word_end ((written_attributes rest ++ 62 ∷ []) ++ t) ≡ true)
    spaced [] t = (refl, refl)
    spaced (a ∷ rest) t = (refl, refl)

    attributes-spelled : (last : Option (List ℕ)) (name : List ℕ) (before rest : List Attribute)
        → list_all is_read_attribute rest ≡ true → are_distinct (before ++ rest) ≡ true
        → IsSpelled rows (in_tag last (tagged name before)) (written_attributes rest ++ 62 ∷ [])
        (TagToken (tagged name (before ++ rest))) (in_data (Some name))
    attributes-spelled last name before [] h d = λ asked t. rw append-nil (Last 62 [] refl refl)
    attributes-spelled last name before (a ∷ rest) h d = λ asked t.
        let b = written_attributes rest ++ 62 ∷ [] in
        let p = and_parts (is_read_attribute a) (list_all is_read_attribute rest) h in
        let q = and_parts (is_attribute_name a.name.local && (is_none a.name.prefix && is_no_text a.name.ns)) (has_no_null a.value) p.0 in
        let named = and_parts (is_attribute_name a.name.local) (is_none a.name.prefix && is_no_text a.name.ns) q.0 in
        let space = spaced rest t in
        let all : (before ++ a ∷ []) ++ rest ≡ before ++ a ∷ rest = append_assoc before (a ∷ []) rest in
        let token = TagToken (tagged name (before ++ a ∷ rest)) in
        let later : Spells rows asked t (in_tag last (tagged name (before ++ a ∷ []))) b token (in_data (Some name)) =
        subst (λ attrs. Spells rows asked t (in_tag last (tagged name (before ++ a ∷ []))) b
        (TagToken (tagged name attrs)) (in_data (Some name))) all
        (attributes-spelled last name (before ++ a ∷ []) rest p.1 (rw all d) asked t) in
        let own : Spells rows asked t (in_tag last (tagged name (before ++ attribute a.name.local a.value ∷ []))) b
        token (in_data (Some name)) =
        subst (λ x. Spells rows asked t (in_tag last (tagged name (before ++ x ∷ []))) b token
        (in_data (Some name))) (as-read a named.1) later in
        subst (λ w. Spells rows asked t (in_tag last (tagged name before)) w token (in_data (Some name)))
        (sym (append_assoc (written_attribute a) (written_attributes rest) (62 ∷ []) ∙ ap (λ w. w ++ b) (as-written a named.1)))
        (attribute-more last name before a.name.local a.value b token (in_data (Some name)) asked t named.0 q.1
        space.0 space.1 (has-none before a rest d) own)

    start-by : (last : Option (List ℕ)) (c : ℕ) (n : List ℕ) (x : ℕ) (u : List ℕ) (token : Token) (next : Stand)
        → is_tag_name (c ∷ n) ≡ true → Characters.ends_word x ≡ true → Characters.ends_tag_name x ≡ true
        → IsSpelled rows (in_tag last (tagged (c ∷ n) [])) (x ∷ u) token next → IsSpelled rows (in_data last)
        ((60 ∷ c ∷ n) ++ x ∷ u) token next
    start-by last c n x u token next h k m e = λ asked t.
        More (in_tag last (tagged (c ∷ n) [])) 60 (c ∷ n) (x ∷ u) (start-item rows asked last c n x (u ++ t) h m)
        (start-clean rows last c n x (u ++ t) h k) (e asked t)

    pub start-spelled : (last : Option (List ℕ)) (name : List ℕ) (attrs : List Attribute) → is_tag_name name ≡ true
        → AreReadBack attrs → IsSpelled rows (in_data last) (start_tag name attrs) (start_token name attrs) (in_data (Some name))
    start-spelled last [] attrs h plain = λ asked t. absurd cc
    start-spelled last (c ∷ n) [] h plain = start-by last c n 62 [] _ _ h refl refl (attributes-spelled last (c ∷ n) [] [] refl refl)
    start-spelled last (c ∷ n) (a ∷ rest) h plain = start-by last c n 32 _ _ _ h refl refl
        (attributes-spelled last (c ∷ n) [] (a ∷ rest) plain.each plain.distinct)

    escaped-by : (place : TextPlace) (last : Option (List ℕ)) (c : ℕ) (a b d e : Bool) → nat_eq c 38 ≡ a
        → nat_eq c 60 ≡ b → nat_eq c 62 ≡ d → nat_eq c 0xA0 ≡ e → nat_eq c 0 ≡ false
        → IsSpelled rows (in_text place last) (escaped_by a b d e c) (CharacterTokens (c ∷ [])) (in_text place last)
    escaped-by place last c true b d e ea eb ed ee z = λ asked t. rw (eqb-true c 38 ea)
        (Last 38 (codes "amp;") (amp-item rows reads asked place last t) (amp-clean rows reads place last t))
    escaped-by place last c false true d e ea eb ed ee z = λ asked t. rw (eqb-true c 60 eb)
        (Last 38 (codes "lt;") (lt-item rows reads asked place last t) (lt-clean rows reads place last t))
    escaped-by place last c false false true e ea eb ed ee z = λ asked t. rw (eqb-true c 62 ed)
        (Last 38 (codes "gt;") (gt-item rows reads asked place last t) (gt-clean rows reads place last t))
    escaped-by place last c false false false true ea eb ed ee z = λ asked t. rw (eqb-true c 0xA0 ee)
        (Last 38 (codes "nbsp;") (nbsp-item rows reads asked place last t) (nbsp-clean rows reads place last t))
    escaped-by place last c false false false false ea eb ed ee z =
        λ asked t. Last c [] (plain-item rows asked place last c t eb ea z) (plain-clean rows reads place last c t eb ea z)

    pub character-spelled : (place : TextPlace) (last : Option (List ℕ)) (c : ℕ) → is_not_null c ≡ true
        → IsSpelled rows (in_text place last) (escaped c) (CharacterTokens (c ∷ [])) (in_text place last)
    character-spelled place last c h = escaped-by place last c _ _ _ _ refl refl refl refl (not-true _ h)
