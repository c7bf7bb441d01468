-- The attributes and texts that cleaning leaves.
use Rattle.std.proofs.Common.{◌≡◌, ◌∙◌, ℕ, Bool, true, false, ◌&&◌, List, [], ◌∷◌, ◌++◌, append_assoc, append-nil}
use Rattle.std.proofs.Common.{ap, drop, length, refl, sym, take}
use Rattle.std.specs.Prelude.{cond, not, nat_eq, is_none}
use Rattle.std.specs.Cmp.Lexicographic.{pointwise}
use Rattle.std.specs.List.{list_all, starts_with}
use Rattle.std.specs.Str.{bytes_eq}
use Rattle.std.proofs.lemmas.Bool.{and_parts}
use Rattle.std.proofs.lemmas.List.{take-append-drop}
use Rattle.std.proofs.lemmas.List.Folds.{list_all-append}
use Rattle.html_plain.proofs.Parts.{distinct-more}
use Rattle.markup.specs.Attributes.{are_distinct, has_local_name}
use Rattle.markup.specs.Equality.{attribute_eq, attribute_lists_by_value}
use Rattle.markup.specs.declared.attributes.Attribute.{Attribute}
use Rattle.html_tokens.specs.Laws.{has_no_null, is_not_null}
use Rattle.html_round_trip.specs.Slices.Forms.{has_no_return, is_attribute_name, is_no_text, is_read_attribute}
use Rattle.html_clean.specs.Cleaned.{are_lawful_attributes, is_lawful_attribute}
use Rattle.html_clean.specs.Names.{is_safe_attribute}
use Rattle.html_clean.specs.Policies.{added_attributes, added_if, adds, attribute_of, has_url, is_kept_attribute, is_plain_character}
use Rattle.html_clean.specs.Policies.{is_safe_attribute_name, kept_attributes, kept_after, left_attribute, plain_text, with_additions}
use Rattle.html_clean.specs.Values.{value_left}
use Rattle.html_clean.specs.declared.policy.Addition.{Addition}
use Rattle.html_clean.specs.declared.policy.Policy.{Policy}

pub and-both : (a b : Bool) → a ≡ true → b ≡ true → (a && b) ≡ true
and-both a b h k = rw (h, k) refl

-- PLAIN TEXTS

plain-by : (c : ℕ) (cs : List ℕ) (b : Bool) → is_plain_character c ≡ b → list_all is_plain_character cs ≡ true
    → list_all is_plain_character (cond b (c ∷ cs) cs) ≡ true
plain-by c cs true e h = and-both (is_plain_character c) (list_all is_plain_character cs) e h
plain-by c cs false e h = h

-- a plain text has plain characters alone
pub plain-is : (cs : List ℕ) → list_all is_plain_character (plain_text cs) ≡ true
plain-is [] = refl
plain-is (c ∷ cs) = plain-by c (plain_text cs) _ refl (plain-is cs)

pub no-null : (cs : List ℕ) → list_all is_plain_character cs ≡ true → has_no_null cs ≡ true
no-null [] h = refl
no-null (c ∷ cs) h =
    let p = and_parts (is_plain_character c) (list_all is_plain_character cs) h in
    let q = and_parts (not (nat_eq c 0)) (not (nat_eq c 13)) p.0 in
    and-both (is_not_null c) (has_no_null cs) q.0 (no-null cs p.1)

pub no-return : (cs : List ℕ) → list_all is_plain_character cs ≡ true → has_no_return cs ≡ true
no-return [] h = refl
no-return (c ∷ cs) h =
    let p = and_parts (is_plain_character c) (list_all is_plain_character cs) h in
    let q = and_parts (not (nat_eq c 0)) (not (nat_eq c 13)) p.0 in
    and-both (not (nat_eq c 13)) (has_no_return cs) q.1 (no-return cs p.1)

-- LISTS

pub take-front : {A : Type 0} (xs ys : List A) → take (length xs) (xs ++ ys) ≡ xs
take-front [] ys = refl
take-front (x ∷ xs) ys = ap (λ l. x ∷ l) (take-front xs ys)

pub drop-front : {A : Type 0} (xs ys : List A) → drop (length xs) (xs ++ ys) ≡ ys
drop-front [] ys = refl
drop-front (x ∷ xs) ys = drop-front xs ys

-- ATTRIBUTES THAT ARE ADDED

-- a name that may be kept and a plain value
abbrev pub is_sound : Attribute → Bool
is_sound a = is_safe_attribute_name a.name && list_all is_plain_character a.value

module _ (policy : Policy) (element : List ℕ) where
  abbrev adding : List Attribute → Addition → Bool
  adding made x = adds policy element x && not (has_local_name x.name made)

  one-sound : (x : Addition) → adds policy element x ≡ true → is_sound (attribute_of x) ≡ true
  one-sound x h =
      let p = and_parts (bytes_eq element x.element) (is_safe_attribute x.name && not (has_url policy x.name)) h in
      let q = and_parts (is_safe_attribute x.name) (not (has_url policy x.name)) p.1 in
      and-both _ _ (and-both _ true q.0 refl) (plain-is x.value)

  with-sound : (made : List Attribute) (x : Addition) (b : Bool) → adding made x ≡ b → list_all is_sound made ≡ true
      → list_all is_sound (added_if b made (attribute_of x)) ≡ true
  with-sound made x false e h = h
  with-sound made x true e h = list_all-append is_sound made (attribute_of x ∷ [])
      ∙ and-both _ _ h (and-both _ true (one-sound x (and_parts (adds policy element x) (not (has_local_name x.name made)) e).0) refl)

  with-distinct : (made : List Attribute) (x : Addition) (b : Bool) → adding made x ≡ b → are_distinct made ≡ true
      → are_distinct (added_if b made (attribute_of x)) ≡ true
  with-distinct made x false e h = h
  with-distinct made x true e h = distinct-more made (attribute_of x)
      ∙ and-both _ _ h (and_parts (adds policy element x) (not (has_local_name x.name made)) e).1

  all-sound : (xs : List Addition) (made : List Attribute) → list_all is_sound made ≡ true
      → list_all is_sound (with_additions policy element made xs) ≡ true
  all-sound [] made h = h
  all-sound (x ∷ xs) made h = all-sound xs _ (with-sound made x (adding made x) refl h)

  all-distinct : (xs : List Addition) (made : List Attribute) → are_distinct made ≡ true
      → are_distinct (with_additions policy element made xs) ≡ true
  all-distinct [] made h = h
  all-distinct (x ∷ xs) made h = all-distinct xs _ (with-distinct made x (adding made x) refl h)

  pub added-sound : list_all is_sound (added_attributes policy element) ≡ true
  added-sound = all-sound policy.added.items [] refl

  added-distinct : are_distinct (added_attributes policy element) ≡ true
  added-distinct = all-distinct policy.added.items [] refl

-- ATTRIBUTES THAT ARE KEPT

-- what is added, and what is kept so far
record AreLawful (policy : Policy) (element : List ℕ) (kept : List Attribute) : Type 0 where
  rest : List Attribute
  is : kept ≡ added_attributes policy element ++ rest
  each : list_all (is_lawful_attribute policy element) rest ≡ true
  distinct : are_distinct kept ≡ true

kept-more : (policy : Policy) (element : List ℕ) (kept : List Attribute) (a : Attribute) (b : Bool)
    → (is_kept_attribute policy element (left_attribute policy element a) && not (has_local_name a.name.local kept)) ≡ b
    → AreLawful policy element kept → AreLawful policy element (added_if b kept (left_attribute policy element a))
kept-more policy element kept a false e lawful = lawful
kept-more policy element kept a true e lawful =
    let x = left_attribute policy element a in
    let p = and_parts (is_kept_attribute policy element x) (not (has_local_name a.name.local kept)) e in
    let one : is_lawful_attribute policy element x ≡ true = and-both _ _ p.0
    (plain-is (value_left policy.values.items element a.name.local a.value)) in
    record {
      rest = lawful.rest ++ x ∷ [];
      is = ap (λ l. l ++ x ∷ []) lawful.is ∙ append_assoc (added_attributes policy element) lawful.rest (x ∷ []);
      each = list_all-append (is_lawful_attribute policy element) lawful.rest (x ∷ [])
          ∙ and-both _ _ lawful.each (and-both _ true one refl);
      distinct = distinct-more kept x ∙ and-both _ _ lawful.distinct p.1;
    }

front-is : (xs ys : List Attribute) → starts_with attribute_eq (xs ++ ys) xs ≡ true
front-is xs ys = ap (pointwise attribute_eq xs) (take-front xs ys) ∙ (attribute_lists_by_value xs xs).1 refl

lawful-whole : (policy : Policy) (element : List ℕ) (kept : List Attribute)
    → AreLawful policy element kept → are_lawful_attributes policy element kept ≡ true
lawful-whole policy element kept lawful =
    let xs = added_attributes policy element in
    and-both _ _ (ap (λ l. starts_with attribute_eq l xs) lawful.is ∙ front-is xs lawful.rest)
    (and-both _ _ (ap (λ l. list_all (is_lawful_attribute policy element) (drop (length xs) l)) lawful.is
    ∙ (ap (list_all (is_lawful_attribute policy element)) (drop-front xs lawful.rest) ∙ lawful.each)) lawful.distinct)

behind-lawful : (policy : Policy) (element : List ℕ) (attributes kept : List Attribute)
    → AreLawful policy element kept → are_lawful_attributes policy element (kept_after policy element kept attributes) ≡ true
behind-lawful policy element [] kept lawful = lawful-whole policy element kept lawful
behind-lawful policy element (a ∷ rest) kept lawful =
    behind-lawful policy element rest _ (kept-more policy element kept a _ refl lawful)

pub attributes-lawful : (policy : Policy) (element : List ℕ) (attributes : List Attribute)
    → are_lawful_attributes policy element (kept_attributes policy element attributes) ≡ true
attributes-lawful policy element attributes = behind-lawful policy element attributes (added_attributes policy element) (record {
  rest = [];
  is = sym (append-nil (added_attributes policy element));
  each = refl;
  distinct = added-distinct policy element;
})

-- what lawful attributes are: those that are added, and then such that are kept
pub record AreParted (policy : Policy) (element : List ℕ) (attributes : List Attribute) : Type 0 where
  pub rest : List Attribute
  pub is : attributes ≡ added_attributes policy element ++ rest
  pub each : list_all (is_lawful_attribute policy element) rest ≡ true
  pub distinct : are_distinct attributes ≡ true

pub lawful-parts : (policy : Policy) (element : List ℕ) (attributes : List Attribute)
    → are_lawful_attributes policy element attributes ≡ true → AreParted policy element attributes
lawful-parts policy element attributes h =
    let xs = added_attributes policy element in
    let rest = drop (length xs) attributes in
    let p = and_parts (starts_with attribute_eq attributes xs) (list_all (is_lawful_attribute policy element) rest
    && are_distinct attributes) h in
    let q = and_parts (list_all (is_lawful_attribute policy element) rest) (are_distinct attributes) p.1 in
    record {
      rest = rest;
      is = sym (take-append-drop (length xs) attributes)
          ∙ ap (λ front. front ++ rest) (sym ((attribute_lists_by_value xs (take (length xs) attributes)).0 p.0));
      each = q.0;
      distinct = q.1;
    }

lawful-sound : (policy : Policy) (element : List ℕ) (a : Attribute) → is_lawful_attribute policy element a ≡ true → is_sound a ≡ true
lawful-sound policy element a h =
    let p = and_parts (is_kept_attribute policy element a) (list_all is_plain_character a.value) h in
    and-both _ _ (and_parts (is_safe_attribute_name a.name) _ p.0).0 p.1

rest-sound : (policy : Policy) (element : List ℕ) (rest : List Attribute)
    → list_all (is_lawful_attribute policy element) rest ≡ true → list_all is_sound rest ≡ true
rest-sound policy element [] h = refl
rest-sound policy element (a ∷ rest) h =
    let p = and_parts (is_lawful_attribute policy element a) (list_all (is_lawful_attribute policy element) rest) h in
    and-both _ _ (lawful-sound policy element a p.0) (rest-sound policy element rest p.1)

-- lawful attributes have names that may be kept and plain values
pub attributes-sound : (policy : Policy) (element : List ℕ) (attributes : List Attribute)
    → are_lawful_attributes policy element attributes ≡ true → list_all is_sound attributes ≡ true
attributes-sound policy element attributes h =
    let parts = lawful-parts policy element attributes h in
    ap (list_all is_sound) parts.is
    ∙ (list_all-append is_sound (added_attributes policy element) parts.rest
    ∙ and-both _ _ (added-sound policy element) (rest-sound policy element parts.rest parts.each))

safe-name : (name : List ℕ) → is_safe_attribute name ≡ true → is_attribute_name name ≡ true
unfolding is_safe_attribute
safe-name name h = (and_parts (is_attribute_name name) _ h).0

-- each is one that is read back
each-read : (attributes : List Attribute) → list_all is_sound attributes ≡ true
    → (list_all is_read_attribute attributes ≡ true) × (list_all (λ a. has_no_return a.value) attributes ≡ true)
each-read [] h = (refl, refl)
each-read (a ∷ rest) h =
    let p = and_parts (is_sound a) (list_all is_sound rest) h in
    let q = and_parts (is_safe_attribute_name a.name) (list_all is_plain_character a.value) p.0 in
    let safe = and_parts (is_safe_attribute a.name.local) (is_none a.name.prefix && is_no_text a.name.ns) q.0 in
    let plain = and-both _ (is_none a.name.prefix && is_no_text a.name.ns) (safe-name a.name.local safe.0) safe.1 in
    let later = each-read rest p.1 in (
      and-both (is_read_attribute a) _ (and-both _ _ plain (no-null a.value q.1)) later.0,
      and-both (has_no_return a.value) _ (no-return a.value q.1) later.1,
    )

pub attributes-read : (policy : Policy) (element : List ℕ) (attributes : List Attribute)
    → are_lawful_attributes policy element attributes ≡ true
    → ((list_all is_read_attribute attributes && are_distinct attributes) ≡ true)
    × (list_all (λ a. has_no_return a.value) attributes ≡ true)
attributes-read policy element attributes h =
    let q = each-read attributes (attributes-sound policy element attributes h) in
    (and-both _ _ q.0 (lawful-parts policy element attributes h).distinct, q.1)
