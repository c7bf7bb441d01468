-- Start tags and end tags are read as their tokens.
use Rattle.std.proofs.Common.{◌≡◌, ◌∙◌, ℕ, suc, ◌+◌, Bool, true, false, nat_eq, not, List, [], ◌∷◌, ◌++◌, length, map, refl, sym}
use Rattle.std.proofs.Common.{ap, arith}
use Rattle.std.proofs.Common.{subst, take, drop, Option, Some, None, append_assoc, append-nil, length-append}
use Rattle.std.proofs.Math.Seq.{drop-append_seam, take-append_seam}
use Rattle.std.specs.Prelude.{◌&&◌}
use Rattle.std.specs.Char.{is_ascii_lowercase, to_ascii_lowercase}
use Rattle.std.specs.List.{list_all}
use Rattle.std.proofs.lemmas.Bool.{and_parts}
use Rattle.std.proofs.lemmas.Bool.Decides.{nat_tests}
use Rattle.markup.specs.Escape.{attribute_prefix, end_tag, escape_value, start_tag, written_attribute, written_attributes}
use Rattle.markup.specs.declared.attributes.Attribute.{Attribute}
use Rattle.html_tokens.specs.Characters
use Rattle.html_tokens.specs.Characters.{ends_attribute_name, ends_tag_name, is_null, run}
use Rattle.html_tokens.specs.Item.{InTag, Item, Stand, longer, longer_by, marked, moved}
use Rattle.html_tokens.specs.Items.{item}
use Rattle.html_tokens.specs.Laws.{ReadsEscapes, are_distinct, has_no_null, in_data}
use Rattle.html_tokens.specs.RawText.{ends_at_tag, is_fitting_end, is_letters, raw_by}
use Rattle.html_tokens.specs.Table.{Row}
use Rattle.html_tokens.specs.Tags
use Rattle.html_tokens.specs.Tags.{Value, value_from}
use Rattle.html_tokens.specs.declared.states.RawKind.{RawKind}
use Rattle.html_tokens.specs.declared.tags.Tag.{Tag}
use Rattle.html_tokens.specs.declared.tags.TagKind.TheVariants.{EndTag, StartTag}
use Rattle.html_tokens.specs.declared.token.Token.{Token}
use Rattle.html_tokens.specs.declared.token.Token.TheVariants.{TagToken}
use Rattle.html_round_trip.proofs.Slices.Names.{has-none}
use Rattle.html_round_trip.proofs.Slices.Values.{value-whole}
use Rattle.html_faithful.specs.Forms.{are_told, is_attribute_name, is_error_in_name, is_kept, is_odd_in_name, is_tag_name, lowered}
use Rattle.html_faithful.specs.Forms.{told_attribute}
use Rattle.html_faithful_documents.specs.Forms.{end_token, in_raw, start_token}
use Rattle.html_faithful_documents.specs.Slices.{IsItem, IsTold, Last, More, Tells}
use Rattle.html_faithful_documents.proofs.Names.{ArePlainFirst, first-letter, longer-item, longer_by-item, lowers-name}
use Rattle.html_faithful_documents.proofs.Names.{lowers-one, name-item}
use Rattle.html_faithful_documents.proofs.Names.{plain-first, run-attribute, tag-plain}

abbrev in_tag : Option (List ℕ) → Tag → Stand
in_tag last tag = record { place = InTag tag; last_start_tag = last }

-- WHAT BEGINS

start-begins : (rows : List Row) (cdata : Bool) (last : Option (List ℕ)) (c : ℕ) (n : List ℕ) (x : ℕ) (u : List ℕ)
    → is_tag_name (lowered (c ∷ n)) ≡ true → ends_tag_name x ≡ true
    → IsItem (item rows cdata (in_data last) 60 ((c ∷ n) ++ x ∷ u)) None (suc (length (c ∷ n)))
    (in_tag last (Tags.named StartTag (lowered (c ∷ n))))
start-begins rows cdata last c n x u h k =
    let p = and_parts (is_ascii_lowercase (to_ascii_lowercase c)) (list_all (λ c. not (is_odd_in_name c)) (lowered n)) h in
    rw (first-letter c p.0) (longer-item _ None (length (c ∷ n)) _ (name-item (in_data last) StartTag (c ∷ n) x u (tag-plain c n h) k))

end-begins : (rows : List Row) (cdata : Bool) (last : Option (List ℕ)) (c : ℕ) (n : List ℕ) (x : ℕ) (u : List ℕ)
    → is_tag_name (lowered (c ∷ n)) ≡ true → ends_tag_name x ≡ true
    → IsItem (item rows cdata (in_data last) 60 (47 ∷ ((c ∷ n) ++ x ∷ u))) None (suc (suc (length (c ∷ n))))
    (in_tag last (Tags.named EndTag (lowered (c ∷ n))))
end-begins rows cdata last c n x u h k =
    let p = and_parts (is_ascii_lowercase (to_ascii_lowercase c)) (list_all (λ c. not (is_odd_in_name c)) (lowered n)) h in
    rw (first-letter c p.0)
    (longer-item _ None (suc (length (c ∷ n))) _ (longer-item _ None (length (c ∷ n)) _
    (name-item (in_data last) EndTag (c ∷ n) x u (tag-plain c n h) k)))

-- END TAGS

module _ (rows : List Row) where
  pub end-told : (last : Option (List ℕ)) (name : List ℕ) → is_tag_name (lowered name) ≡ true
      → IsTold rows (in_data last) (end_tag name) (end_token name) (in_data last)
  end-told last [] h = λ asked t. absurd cc
  end-told last (c ∷ n) h = λ asked t.
      More (in_tag last (Tags.named EndTag (lowered (c ∷ n)))) 60 (47 ∷ (c ∷ n)) (62 ∷ [])
      (end-begins rows asked last c n 62 t h refl) (Last 62 [] (record { gives = refl; takes = refl; leaves = refl }))

  -- letters that are their own small ones, and what ends a name after them
  same-letter : (c : ℕ) → nat_eq (to_ascii_lowercase (to_ascii_lowercase c)) (to_ascii_lowercase c) ≡ true
  same-letter c = grind (arith, nat_tests)

  begins-own : (n : List ℕ) (x : ℕ) (u : List ℕ) → ends_tag_name x ≡ true
      → Characters.begins_name (map to_ascii_lowercase (lowered n)) (n ++ x ∷ u) ≡ true
  begins-own [] x u k = k
  begins-own (c ∷ n) x u k = rw (same-letter c) (begins-own n x u k)

  fitting-by : (b amp : Bool) (st : Stand) (kind : RawKind) (c : ℕ) (t : List ℕ) → b ≡ true → (len : ℕ) (next : Stand)
      → IsItem (longer (longer (Tags.name_after st (Tags.named EndTag []) (drop 1 t)))) None len next
      → IsItem (raw_by b amp rows st kind c t) None len next
  fitting-by b amp st kind c t e len next h = rw e h

  pub fitting_end-told : (kind : RawKind) (name : List ℕ) → is_tag_name (lowered name) ≡ true → is_letters (lowered name) ≡ true
      → ends_at_tag kind ≡ true
      → IsTold rows (in_raw kind (Some (lowered name))) (end_tag name) (end_token name) (in_data (Some (lowered name)))
  fitting_end-told kind [] h l k = λ asked t. absurd cc
  fitting_end-told kind (c ∷ n) h l k = λ asked t.
      let name = c ∷ n in
      let last = Some (lowered name) in
      let u = name ++ 62 ∷ t in
      let fits : (ends_at_tag kind && is_fitting_end last (47 ∷ u)) ≡ true = rw (k, l, begins-own name 62 t refl) refl in
      More (in_tag last (Tags.named EndTag (lowered name))) 60 (47 ∷ name) (62 ∷ [])
      (fitting-by (ends_at_tag kind && is_fitting_end last (47 ∷ u)) _ (in_raw kind last) kind 60 (47 ∷ u) fits (suc (suc (length name)))
      (in_tag last (Tags.named EndTag (lowered name)))
      (longer-item _ None (suc (length name)) _ (longer-item _ None (length name) _
      (name-item (in_raw kind last) EndTag name 62 t (tag-plain c n h) refl))))
      (Last 62 [] (record { gives = refl; takes = refl; leaves = refl }))

-- ATTRIBUTES

pub not-null : (text : List ℕ) → is_kept text ≡ true → has_no_null text ≡ true
not-null [] h = refl
not-null (c ∷ cs) h =
    let p = and_parts (not (nat_eq c 0) && not (nat_eq c 13)) (is_kept cs) h in
    let q = and_parts (not (nat_eq c 0)) (not (nat_eq c 13)) p.0 in
    rw q.0 (not-null cs p.1)

-- a value in quotes
quote-item : (st : Stand) (n : ℕ) (u : List ℕ) → IsItem (Tags.quote_at n st (34 ∷ u)) None (suc n) st
quote-item st n u = record { gives = refl; takes = refl; leaves = refl }

abbrev quoted_by : ℕ → Stand → Tag → List ℕ → List ℕ → Value → Item
quoted_by quote st tag name t v =
    marked v.is_odd (Tags.quote_at v.len (moved st (InTag (Tags.with_attribute tag name v.chars))) (drop v.len t))

value-item : (rows : List Row) → ReadsEscapes rows → (st : Stand) (tag : Tag) (name v u : List ℕ) → has_no_null v ≡ true
    → IsItem (Tags.quoted_after rows 34 st tag name [] (escape_value v ++ 34 ∷ u)) None (suc (length (escape_value v)))
    (moved st (InTag (Tags.with_attribute tag name v)))
value-item rows reads st tag name v u h =
    let t = escape_value v ++ 34 ∷ u in
    let next = moved st (InTag (Tags.with_attribute tag name v)) in
    subst (λ w. IsItem (quoted_by 34 st tag name t w) None (suc (length (escape_value v))) next) (sym (value-whole rows reads v u h))
    (subst (λ rest. IsItem (marked false (Tags.quote_at (length (escape_value v)) next rest)) None (suc (length (escape_value v))) next)
    (sym (drop-append_seam (escape_value v) (34 ∷ u))) (quote-item next (length (escape_value v)) u))

attribute-rest : (rows : List Row) → ReadsEscapes rows → (st : Stand) (tag : Tag) (front n v u : List ℕ)
    → ArePlainFirst n → has_no_null v ≡ true
    → IsItem (Tags.attribute_after rows st tag front (n ++ 61 ∷ 34 ∷ (escape_value v ++ 34 ∷ u))) None
    (length n + suc (suc (suc (length (escape_value v))))) (moved st (InTag (Tags.with_attribute tag (front ++ lowered n) v)))
attribute-rest rows reads st tag front n v u h k =
    let rest = 61 ∷ 34 ∷ (escape_value v ++ 34 ∷ u) in
    let t = n ++ rest in
    let w = length (escape_value v) in
    let next = moved st (InTag (Tags.with_attribute tag (front ++ lowered n) v)) in
    let run_is : run ends_attribute_name t ≡ length n = run-attribute n 61 (34 ∷ (escape_value v ++ 34 ∷ u)) h refl in
    let named : Characters.all_lowered (take (length n) t) ≡ lowered n =
    ap Characters.all_lowered (take-append_seam n rest) ∙ lowers-name n (plain-first n h) in
    let value : IsItem (Tags.equals_at rows st tag (front ++ lowered n) rest) None (suc (suc (suc w))) next =
    longer-item _ None (suc (suc w)) next (longer-item _ None (suc w) next (value-item rows reads st tag (front ++ lowered n) v u k)) in
    let all : IsItem (longer_by (length n) (Tags.equals_at rows st tag (front ++ Characters.all_lowered (take (length n) t))
    (drop (length n) t)))
    None (length n + suc (suc (suc w))) next =
    subst (λ cs. IsItem (longer_by (length n) (Tags.equals_at rows st tag (front ++ cs) (drop (length n) t))) None
    (length n + suc (suc (suc w))) next) (sym named)
    (subst (λ cs. IsItem (longer_by (length n) (Tags.equals_at rows st tag (front ++ lowered n) cs)) None
    (length n + suc (suc (suc w))) next)
    (sym (drop-append_seam n rest)) (longer_by-item (length n) _ None (suc (suc (suc w))) _ next value refl)) in
    let marked_so : IsItem (longer_by (run ends_attribute_name t)
    (Tags.equals_at rows st tag (front ++ Characters.all_lowered (take (run ends_attribute_name t) t))
    (drop (run ends_attribute_name t) t)))
    None (length n + suc (suc (suc w))) next =
    subst (λ m. IsItem (longer_by m (Tags.equals_at rows st tag (front ++ Characters.all_lowered (take m t)) (drop m t))) None
    (length n + suc (suc (suc w))) next) (sym run_is) all in
    record { gives = marked_so.gives; takes = marked_so.takes; leaves = marked_so.leaves }

-- a character that begins an attribute
begins-attribute : (c : ℕ) → (not (is_odd_in_name (to_ascii_lowercase c)) && not (is_error_in_name (to_ascii_lowercase c))) ≡ true
    → Tags.part c ≡ Tags.Attributes
begins-attribute c h =
    let white : Characters.is_white_space c ≡ false = grind (arith, nat_tests) in
    let slash : nat_eq c 47 ≡ false = grind (arith, nat_tests) in
    let close : nat_eq c 62 ≡ false = grind (arith, nat_tests) in
    rw (white, slash, close) refl

attribute-item : (rows : List Row) → ReadsEscapes rows → (cdata : Bool) (last : Option (List ℕ)) (tag : Tag)
    (c : ℕ) (n v u : List ℕ) → ArePlainFirst (c ∷ n) → has_no_null v ≡ true
    → IsItem (item rows cdata (in_tag last tag) c (n ++ 61 ∷ 34 ∷ (escape_value v ++ 34 ∷ u))) None
    (suc (length n + suc (suc (suc (length (escape_value v)))))) (in_tag last (Tags.with_attribute tag (lowered (c ∷ n)) v))
attribute-item rows reads cdata last tag c n v u h k =
    let one = not (is_odd_in_name (to_ascii_lowercase c)) && not (is_error_in_name (to_ascii_lowercase c)) in
    let p = and_parts one (list_all (λ c. not (is_odd_in_name c) && not (is_error_in_name c)) (lowered n)) h in
    let plain = and_parts (not (is_odd_in_name (to_ascii_lowercase c))) (not (is_error_in_name (to_ascii_lowercase c))) p.0 in
    let t = n ++ 61 ∷ 34 ∷ (escape_value v ++ 34 ∷ u) in
    let st = in_tag last tag in
    let len = length n + suc (suc (suc (length (escape_value v)))) in
    let next = in_tag last (Tags.with_attribute tag (lowered (c ∷ n)) v) in
    let rest : IsItem (Tags.attribute_after rows st tag (Characters.lowered c ∷ []) t) None len next =
    subst (λ d. IsItem (Tags.attribute_after rows st tag (d ∷ []) t) None len next) (sym (lowers-one c plain.0))
    (attribute-rest rows reads st tag (to_ascii_lowercase c ∷ []) n v u p.1 k) in
    let whole_item : IsItem (Tags.tag_by Tags.Attributes rows st tag c t) None (suc len) next =
    record { gives = rest.gives; takes = ap suc rest.takes; leaves = rest.leaves } in
    subst (λ part. IsItem (Tags.tag_by part rows st tag c t) None (suc len) next) (sym (begins-attribute c p.0)) whole_item

-- START TAGS

abbrev tagged : List ℕ → List Attribute → Tag
tagged name attributes = record (Tags.named StartTag name) { attrs = attributes }

-- the name that is written of an attribute
abbrev pub written_name : Attribute → List ℕ
written_name a = attribute_prefix a.name ++ a.name.local

abbrev pub quoted : List ℕ → List ℕ → List ℕ
quoted name value = 32 ∷ (name ++ 61 ∷ 34 ∷ (escape_value value ++ 34 ∷ []))

pub as-written : (a : Attribute) → written_attribute a ≡ quoted (written_name a) a.value
as-written a = ap (λ w. 32 ∷ w) (sym (append_assoc (attribute_prefix a.name) a.name.local (61 ∷ 34 ∷ (escape_value a.value ++ 34 ∷ []))))

module _ (rows : List Row) (reads : ReadsEscapes rows) where
  attribute-more : (last : Option (List ℕ)) (name : List ℕ) (told : List Attribute) (n v b : List ℕ) (token : Token) (next : Stand)
      (asked : Bool) (t : List ℕ) → is_attribute_name (lowered n) ≡ true → has_no_null v ≡ true
      → Tags.has_attribute (tagged name told) (lowered n) ≡ false
      → Tells rows asked t (in_tag last (tagged name (told ++ Tags.attribute (lowered n) v ∷ []))) b token next
      → Tells rows asked t (in_tag last (tagged name told)) (quoted n v ++ b) token next
  attribute-more last name told [] v b token next asked t h k none rest = absurd cc
  attribute-more last name told (c ∷ n) v b token next asked t h k none rest =
      let tag = tagged name told in
      let st = in_tag last tag in
      let w = escape_value v in
      let cs = n ++ 61 ∷ 34 ∷ (w ++ 34 ∷ []) in
      let u = b ++ t in
      let mid = in_tag last (tagged name (told ++ Tags.attribute (lowered (c ∷ n)) v ∷ [])) in
      let new : Tags.with_attribute tag (lowered (c ∷ n)) v ≡ tagged name (told ++ Tags.attribute (lowered (c ∷ n)) v
      ∷ []) = rw none refl in
      let shape : n ++ 61 ∷ 34 ∷ (w ++ 34 ∷ u) ≡ cs ++ u = simp append_assoc in
      let long : suc (length n + suc (suc (suc (length w)))) ≡ length (c ∷ cs) =
      omega (arith, length-append n (61 ∷ 34 ∷ (w ++ 34 ∷ [])), length-append w (34 ∷ [])) in
      let one = attribute-item rows reads asked last tag c n v u h k in
      let there : IsItem (item rows asked st c (cs ++ u)) None (length (c ∷ cs)) mid =
      subst (λ text. IsItem (item rows asked st c text) None (length (c ∷ cs)) mid) shape
      (record { gives = one.gives; takes = one.takes ∙ long; leaves = one.leaves ∙ ap (in_tag last) new }) in
      More st 32 [] ((c ∷ cs) ++ b) (record { gives = refl; takes = refl; leaves = refl }) (More mid c cs b there rest)

  attributes-told : (last : Option (List ℕ)) (name : List ℕ) (told : List Attribute) (rest : List Attribute)
      → list_all (λ a. is_attribute_name a.name.local && is_kept a.value) (map told_attribute rest) ≡ true
      → are_distinct (told ++ map told_attribute rest) ≡ true
      → IsTold rows (in_tag last (tagged name told)) (written_attributes rest ++ 62 ∷ [])
      (TagToken (tagged name (told ++ map told_attribute rest))) (in_data (Some name))
  attributes-told last name told [] h d = λ asked t.
      rw append-nil (Last 62 [] (record { gives = refl; takes = refl; leaves = refl }))
  attributes-told last name told (a ∷ rest) h d = λ asked t.
      let x = told_attribute a in
      let others = map told_attribute rest in
      let b = written_attributes rest ++ 62 ∷ [] in
      let p = and_parts (is_attribute_name x.name.local && is_kept a.value)
      (list_all (λ a. is_attribute_name a.name.local && is_kept a.value) others) h in
      let q = and_parts (is_attribute_name x.name.local) (is_kept a.value) p.0 in
      let all : (told ++ x ∷ []) ++ others ≡ told ++ x ∷ others = append_assoc told (x ∷ []) others in
      let token = TagToken (tagged name (told ++ x ∷ others)) in
      let later : Tells rows asked t (in_tag last (tagged name (told ++ x ∷ []))) b token (in_data (Some name)) =
      subst (λ attributes. Tells rows asked t (in_tag last (tagged name (told ++ x ∷ []))) b
      (TagToken (tagged name attributes)) (in_data (Some name))) all
      (attributes-told last name (told ++ x ∷ []) rest p.1 (rw all d) asked t) in
      subst (λ w. Tells rows asked t (in_tag last (tagged name told)) w token (in_data (Some name)))
      (sym (append_assoc (written_attribute a) (written_attributes rest) (62 ∷ []) ∙ ap (λ w. w ++ b) (as-written a)))
      (attribute-more last name told (written_name a) a.value b token (in_data (Some name)) asked t q.0 (not-null a.value q.1)
      (has-none told x others d) later)

  start-by : (last : Option (List ℕ)) (c : ℕ) (n : List ℕ) (x : ℕ) (u : List ℕ) (token : Token) (next : Stand)
      → is_tag_name (lowered (c ∷ n)) ≡ true → ends_tag_name x ≡ true
      → IsTold rows (in_tag last (tagged (lowered (c ∷ n)) [])) (x ∷ u) token next
      → IsTold rows (in_data last) ((60 ∷ c ∷ n) ++ x ∷ u) token next
  start-by last c n x u token next h k e = λ asked t.
      More (in_tag last (tagged (lowered (c ∷ n)) [])) 60 (c ∷ n) (x ∷ u) (start-begins rows asked last c n x (u ++ t) h k) (e asked t)

  pub start-told : (last : Option (List ℕ)) (name : List ℕ) (attributes : List Attribute) → is_tag_name (lowered name) ≡ true
      → are_told (map told_attribute attributes) ≡ true
      → IsTold rows (in_data last) (start_tag name attributes) (start_token name attributes) (in_data (Some (lowered name)))
  start-told last [] attributes h k = λ asked t. absurd cc
  start-told last (c ∷ n) [] h k = start-by last c n 62 [] _ _ h refl (attributes-told last (lowered (c ∷ n)) [] [] refl refl)
  start-told last (c ∷ n) (a ∷ rest) h k =
      let told = map told_attribute (a ∷ rest) in
      let p = and_parts (list_all (λ a. is_attribute_name a.name.local && is_kept a.value) told) (are_distinct told) k in
      start-by last c n 32 _ _ _ h refl (attributes-told last (lowered (c ∷ n)) [] (a ∷ rest) p.0 p.1)
