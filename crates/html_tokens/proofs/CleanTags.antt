-- Nothing is odd in a clean name and in a clean attribute.
use Rattle.std.proofs.Common.{◌≡◌, ◌∙◌, ℕ, zero, suc, Bool, true, false, nat_eq, nat_le, List, [], ◌∷◌, ◌++◌, take, drop}
use Rattle.std.proofs.Common.{Option, None, refl, subst, arith}
use Rattle.std.specs.Prelude.{◌||◌, ◌&&◌, not, codes}
use Rattle.std.specs.List.{list_any}
use Rattle.std.proofs.lemmas.Bool.{and_parts, eqb-true}
use Rattle.std.proofs.lemmas.Bool.Decides.{nat_tests}
use Rattle.html_tokens.specs.declared.tags.Tag.{Tag}
use Rattle.html_tokens.specs.Characters
use Rattle.html_tokens.specs.Clean.{is_clean_in_name, clean_name, is_word_end, is_clean_name, is_named, is_clean_text}
use Rattle.html_tokens.specs.Clean.{clean_value_by, is_clean_value, is_clean_attribute, is_clean_opening, clean_equals_by}
use Rattle.html_tokens.specs.Clean.{is_clean_equals, ends_clean_name}
use Rattle.html_tokens.specs.Item.{Stand, Item, Fault, and_slight_if, longer_by}
use Rattle.html_tokens.specs.Reference.{reference_at}
use Rattle.html_tokens.specs.Table.{Row}
use Rattle.html_tokens.specs.Tags
use Rattle.html_tokens.proofs.ReferenceNames.{none-true, named-quote, named-faultless}

-- an item without any fault
abbrev pub IsFaultless : Item → Type 0
IsFaultless i = i.fault ≡ None

-- characters before an item are no fault
pub all : (n : ℕ) (i : Item) → IsFaultless i → IsFaultless (longer_by n i)
all zero i h = h
all (suc n) i h = all n i h

-- where nothing is odd no fault is added
pub unmarked : (odd : Bool) (fault : Option Fault) → odd ≡ false → fault ≡ None → and_slight_if odd fault ≡ None
unmarked true fault e h = absurd cc
unmarked false fault e h = h

-- NAMES

-- whether a character that passes stands at the front
abbrev fronts : (ℕ → Bool) → List ℕ → Bool
fronts stops [] = false
fronts stops (c ∷ t) = stops c

-- what no character of a clean name is
abbrev IsOutside : (ℕ → Bool) → Type 0
IsOutside p = (c : ℕ) → is_clean_in_name c ≡ true → p c ≡ false

-- where both go on or both end at a character, their runs are as long
run-by : (clean stop : Bool) (n m : ℕ) → (clean ≡ true → stop ≡ false) → (clean ≡ false → stop ≡ true)
    → (clean ≡ true → n ≡ m) → Characters.run_by stop (λ _. n) ≡ Characters.run_by (not clean) (λ _. m)
run-by true stop n m h k e = rw (h refl, e refl) refl
run-by false stop n m h k e = rw (k refl) refl

-- where the first character stands that is in no clean name, by whether it is this one
front-at : (clean : Bool) (stops : ℕ → Bool) (c : ℕ) (t : List ℕ) (n : ℕ)
    → fronts stops (drop (Characters.run_by (not clean) (λ _. n)) (c ∷ t)) ≡ true → (clean ≡ false → stops c ≡ true)
    × (clean ≡ true → fronts stops (drop n t) ≡ true)
front-at true stops c t n h = ((λ e. absurd cc), (λ e. h))
front-at false stops c t n h = ((λ e. h), (λ e. absurd cc))

-- a run goes to the end of a clean name, where a character that ends it stands there
name-run : (stops : ℕ → Bool) → IsOutside stops → (t : List ℕ) → fronts stops (drop (clean_name t) t) ≡ true
    → Characters.run stops t ≡ clean_name t
name-run stops out [] h = refl
name-run stops out (c ∷ t) h =
    let at = front-at (is_clean_in_name c) stops c t (clean_name t) h in
    run-by (is_clean_in_name c) (stops c) (Characters.run stops t) (clean_name t) (out c) at.0 (λ e. name-run stops out t (at.1 e))

-- nothing odd stands in a clean name, by whether it goes on at a character
odd-by : (clean : Bool) (odd : ℕ → Bool) (c : ℕ) (t : List ℕ) (n : ℕ) → (clean ≡ true → odd c ≡ false)
    → list_any odd (take n t) ≡ false → list_any odd (take (Characters.run_by (not clean) (λ _. n)) (c ∷ t)) ≡ false
odd-by true odd c t n h k = rw (h refl) k
odd-by false odd c t n h k = refl

-- nothing odd stands in a clean name
name-odd : (odd : ℕ → Bool) → IsOutside odd → (t : List ℕ) → list_any odd (take (clean_name t) t) ≡ false
name-odd odd out [] = refl
name-odd odd out (c ∷ t) = odd-by (is_clean_in_name c) odd c t (clean_name t) (out c) (name-odd odd out t)

-- what ends a name, or is odd in one, is in no clean name
ends-tag : IsOutside Characters.ends_tag_name
ends-tag c h = grind (arith, nat_tests)

ends-attribute : IsOutside Characters.ends_attribute_name
ends-attribute c h = grind (arith, nat_tests)

null : IsOutside Characters.is_null
null c h = grind (arith, nat_tests)

odd-in_name : IsOutside Tags.is_odd_in_name
odd-in_name c h = grind (arith, nat_tests)

odd-first : IsOutside Tags.is_odd_first
odd-first c h = grind (arith, nat_tests)

-- one case more
slash-or : (w s g : Bool) → (w || g) ≡ true → (w || s || g) ≡ true
slash-or true s g h = refl
slash-or false true g h = refl
slash-or false false g h = h

-- what ends a word ends a tag's name
word-tag : (t : List ℕ) → is_word_end t ≡ true → fronts Characters.ends_tag_name t ≡ true
word-tag [] h = absurd cc
word-tag (c ∷ t) h = slash-or (Characters.is_white_space c) (nat_eq c 47) (nat_eq c 62) h

-- nothing is odd in a clean name of a tag
pub name : (st : Stand) (tag : Tag) (t : List ℕ) → is_clean_name t ≡ true → IsFaultless (Tags.name_after st tag t)
name st tag t h =
    let run : Characters.run Characters.ends_tag_name t ≡ clean_name t = name-run Characters.ends_tag_name ends-tag
    t (word-tag (drop (clean_name t) t) (and_parts (nat_le 1 (clean_name t)) _ h).1) in
    rw run (unmarked (Characters.has_null (take (clean_name t) t)) _ (name-odd Characters.is_null null t) refl)

-- VALUES

-- after a clean quote no attribute lacks its space
spaced : (t : List ℕ) → is_word_end t ≡ true → Tags.lacks_space t ≡ false
spaced [] h = absurd cc
spaced (c ∷ t) h = rw (word-tag (c ∷ t) h) refl

-- whether a quote is followed by what may follow it
abbrev closes : List ℕ → Bool
closes [] = true
closes (c ∷ t) = not (Tags.lacks_space t)

-- a quote that closes is no fault
quote : (n : ℕ) (st : Stand) (t : List ℕ) → closes t ≡ true → IsFaultless (Tags.quote_at n st t)
quote n st [] h = refl
quote n st (c ∷ t) h = unmarked (Tags.lacks_space t) _ (none-true _ h) refl

-- a value in which nothing is odd, and after which its quote closes it
abbrev IsClosed : Tags.Value → List ℕ → Type 0
IsClosed v t = (v.is_odd ≡ false) × (closes (drop v.len t) ≡ true)

-- a value that begins with a character more
later : (odd : Bool) (cs : List ℕ) (v : Tags.Value) (c : ℕ) (t : List ℕ) → odd ≡ false → IsClosed v t
    → IsClosed (Tags.later odd cs v) (c ∷ t)
later odd cs v c t e h = (rw (e, h.0) refl, h.1)

-- what is clean before the end of a value, and after that
clean-parts : (clean : Bool) (t : List ℕ) (go : Unit {0} → Bool) → clean_value_by false clean t go ≡ true → (clean ≡ true) × (go tt ≡ true)
clean-parts true t go h = (refl, h)
clean-parts false t go h = absurd cc

-- where "&" is clean it begins a named reference
pub amp-named : (amp named : Bool) → amp ≡ true → (not amp || named) ≡ true → named ≡ true
amp-named true named e h = h
amp-named false named e h = absurd cc

-- a clean value from a character on, by whether it is "<", U+0000, the quote and "&"
value-by : (lt null quote amp : Bool) (rows : List Row) (c : ℕ) (t : List ℕ) (go : ℕ → Tags.Value)
    → clean_value_by quote (not lt && not null && (not amp || is_named rows t)) t (λ _. is_clean_value rows t) ≡ true
    → ((n : ℕ) → list_any (nat_eq 34) (take n t) ≡ false → is_clean_value rows t ≡ true → IsClosed (go n) t)
    → IsClosed (Tags.value_by rows null quote amp c t go) (c ∷ t)
value-by lt null true amp rows c t go h k = (refl, rw (spaced t h) refl)
value-by lt null false true rows c t go h k =
    let parts = clean-parts (not lt && not null && (not true || is_named rows t)) t (λ _. is_clean_value rows t) h in
    let named : is_named rows t ≡ true = (and_parts (not lt && not null) _ parts.0).1 in
    let n = Tags.reference_len (reference_at true rows t) in
    later _ (Tags.reference_chars (reference_at true rows t)) (go n) c t (rw (named-faultless rows t named) refl)
    (k n (named-quote rows t named) parts.1)
value-by lt null false false rows c t go h k =
    let parts = clean-parts (not lt && not null && (not false || is_named rows t)) t (λ _. is_clean_value rows t) h in
    later null (Characters.shown c ∷ []) (go 0) c t
    (none-true null (and_parts (not lt) (not null) (and_parts (not lt && not null) _ parts.0).0).1) (k 0 refl parts.1)

-- a comparison, either way round
quote-swap : (c : ℕ) → nat_eq c 34 ≡ nat_eq 34 c
quote-swap c = grind (arith, nat_tests)

-- where neither of two holds, both are false
or-false : (a b : Bool) → (a || b) ≡ false → (a ≡ false) × (b ≡ false)
or-false true b h = absurd cc
or-false false b h = (refl, h)

-- a clean value is closed by its quote, also after the n characters of a reference
value : (rows : List Row) (n : ℕ) (t : List ℕ) → list_any (nat_eq 34) (take n t) ≡ false
    → is_clean_value rows t ≡ true → IsClosed (Tags.value_from rows Characters.is_null (nat_eq 34) n t) t
unfolding Tags.value_from
value rows n [] q h = absurd cc
value rows zero (c ∷ t) q h =
    value-by (nat_eq c 60) (nat_eq c 0) (nat_eq 34 c) (nat_eq c 38) rows c t _
    (subst (λ b. clean_value_by b (is_clean_text rows c t) t (λ _. is_clean_value rows t) ≡ true)
    (quote-swap c) h) (λ n k e. value rows n t k e)
value rows (suc n) (c ∷ t) q h =
    let none = or-false (nat_eq 34 c) (list_any (nat_eq 34) (take n t)) q in
    let rest = clean-parts (is_clean_text rows c t) t (λ _. is_clean_value rows t)
    (subst (λ b. clean_value_by b (is_clean_text rows c t) t (λ _. is_clean_value rows t) ≡ true) (quote-swap c ∙ none.0) h) in
    later false [] (Tags.value_from rows Characters.is_null (nat_eq 34) n t) c t refl (value rows n t none.1 rest.1)

-- nothing is odd in a clean value in quotes
quoted : (rows : List Row) (st : Stand) (tag : Tag) (called t : List ℕ) → is_clean_value rows t ≡ true
    → IsFaultless (Tags.quoted_after rows 34 st tag called [] t)
quoted rows st tag called t h =
    let v = Tags.value_from rows Characters.is_null (nat_eq 34) 0 t in
    let closed = value rows 0 t refl h in
    unmarked v.is_odd _ closed.0 (quote v.len _ (drop v.len t) closed.1)

-- ATTRIBUTES

-- nothing is odd in a value that begins with its quote
opening : (rows : List Row) (st : Stand) (tag : Tag) (called t : List ℕ) → is_clean_opening rows t ≡ true
    → IsFaultless (Tags.opened_at rows st tag called t)
opening rows st tag called [] h = absurd cc
opening rows st tag called (c ∷ t) h =
    let parts = and_parts (nat_eq c 34) _ h in
    rw (eqb-true c 34 parts.0) (quoted rows st tag called t parts.1)

equals-by : (equals : Bool) (rows : List Row) (st : Stand) (tag : Tag) (called t : List ℕ)
    → clean_equals_by equals rows t ≡ true → IsFaultless (Tags.equals_by equals rows st tag called t)
equals-by true rows st tag called t h =
    let u = drop (suc (Characters.white t)) t in
    let v = drop (Characters.white u) u in
    all (suc (Characters.white t)) (Tags.value_at rows st tag called u)
    (all (Characters.white u) (Tags.opened_at rows st tag called v) (opening rows st tag called v h))
equals-by false rows st tag called t h = refl

-- nothing is odd after a clean name
equals : (rows : List Row) (st : Stand) (tag : Tag) (called t : List ℕ) → is_clean_equals rows t ≡ true
    → IsFaultless (Tags.equals_at rows st tag called t)
equals rows st tag called t h = equals-by (Characters.begins (codes "=") (drop (Characters.white t) t)) rows st tag called t h

-- nothing is odd in an attribute whose name has n characters more
attribute-by : (rows : List Row) (st : Stand) (tag : Tag) (front t : List ℕ) (n : ℕ)
    → Characters.run Characters.ends_attribute_name t ≡ n → list_any Tags.is_odd_in_name (take n t) ≡ false
    → is_clean_equals rows (drop n t) ≡ true
    → IsFaultless (Tags.attribute_after rows st tag front t)
attribute-by rows st tag front t n run odd clean =
    let called = front ++ Characters.all_lowered (take n t) in
    rw run (unmarked (list_any Tags.is_odd_in_name (take n t)) _ odd
    (all n (Tags.equals_at rows st tag called (drop n t)) (equals rows st tag called (drop n t) clean)))

ends-or : (w s g e : Bool) → ((w || g) || e) ≡ true → ((w || s || g) || e) ≡ true
ends-or true s g e h = refl
ends-or false true g e h = refl
ends-or false false g e h = h

-- what ends a clean name ends an attribute's name
clean-ends : (t : List ℕ) → ends_clean_name t ≡ true → fronts Characters.ends_attribute_name t ≡ true
clean-ends [] h = absurd cc
clean-ends (c ∷ t) h = ends-or (Characters.is_white_space c) (nat_eq c 47) (nat_eq c 62) (nat_eq c 61) h

-- a clean name that is not empty begins with its first character
first-by : (clean : Bool) (n : ℕ) → nat_le 1 (Characters.run_by (not clean) (λ _. n)) ≡ true → clean ≡ true
first-by true n h = refl
first-by false n h = absurd cc

-- nothing is odd in a clean attribute
pub attribute : (rows : List Row) (st : Stand) (tag : Tag) (c : ℕ) (t : List ℕ) → is_clean_attribute rows tag
    (c ∷ t) ≡ true → IsFaultless (Tags.tag_by Tags.Attributes rows st tag c t)
attribute rows st tag c t h =
    let n = clean_name t in
    let parts = and_parts _ _ h in
    let front = and_parts _ _ (and_parts _ _ parts.0).0 in
    let first : is_clean_in_name c ≡ true = first-by (is_clean_in_name c) n front.0 in
    let longer : clean_name (c ∷ t) ≡ suc n = rw first refl in
    let ends : ends_clean_name (drop n t) ≡ true = rw longer at front.1 in
    let clean : is_clean_equals rows (drop n t) ≡ true = rw longer at parts.1 in
    unmarked (Tags.is_odd_first c) _ (odd-first c first)
    (attribute-by rows st tag (Characters.lowered c ∷ []) t n
    (name-run Characters.ends_attribute_name ends-attribute t (clean-ends (drop n t) ends))
    (name-odd Tags.is_odd_in_name odd-in_name t) clean)
