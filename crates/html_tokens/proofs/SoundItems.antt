-- What holds of each token that a reading tells: text without U+0000, lowered names, distinct attributes.
use Rattle.std.proofs.Common.{◌≡◌, ◌∙◌, ℕ, suc, ◌≤◌, Bool, true, false, nat_eq, List, [], ◌∷◌, ◌++◌, map, take, drop, Option}
use Rattle.std.proofs.Common.{Some, None, refl, sym, arith, true≢false}
use Rattle.std.specs.Prelude.{◌||◌, ◌&&◌, not, if◌then◌else◌, IfSome}
use Rattle.std.specs.Bool.{one_answer}
use Rattle.std.specs.Char.{to_ascii_lowercase, is_ascii_alphabetic}
use Rattle.std.specs.List.{list_all, list_any}
use Rattle.std.specs.Str.{bytes_eq}
use Rattle.std.proofs.lemmas.Bool.{and_parts, ne_eqb}
use Rattle.std.proofs.lemmas.Bool.Decides.{nat_tests}
use Rattle.std.proofs.lemmas.List.Folds.{list_any-append}
use Rattle.markup.specs.declared.attributes.Attribute.{Attribute}
use Rattle.markup.specs.Equality.{texts_by_value}
use Rattle.html_tokens.specs.declared.states.RawKind.{RawKind}
use Rattle.html_tokens.specs.declared.tags.Tag.{Tag}
use Rattle.html_tokens.specs.declared.tags.TagKind.{TagKind}
use Rattle.html_tokens.specs.declared.tags.TagKind.TheVariants.{StartTag, EndTag}
use Rattle.html_tokens.specs.declared.token.Doctype.{Doctype}
use Rattle.html_tokens.specs.declared.token.Token.{Token}
use Rattle.html_tokens.specs.declared.token.Token.TheVariants.{TagToken, CommentToken, DoctypeToken}
use Rattle.html_tokens.specs.Characters
use Rattle.html_tokens.specs.Comments
use Rattle.html_tokens.specs.Doctypes
use Rattle.html_tokens.specs.Item.{TextPlace, InData, InRaw, InPlaintext, InCdata, InTag, Stand, moved, Item, Fault, longer_by}
use Rattle.html_tokens.specs.Item.{reference_item, null_by}
use Rattle.html_tokens.specs.Items
use Rattle.html_tokens.specs.Laws.{is_not_null, has_no_null, are_distinct, IsSoundToken, IsSoundPlace, IsSoundItem, has_values}
use Rattle.html_tokens.specs.RawText
use Rattle.html_tokens.specs.Reference
use Rattle.html_tokens.specs.Table.{Row, values, longest, longer_of, fitting}
use Rattle.html_tokens.specs.Tags
use Rattle.html_tokens.proofs.Declarations.{all as every, bogus, doctype_at, empty_by}

-- COMMENTS AND DOCTYPES

abbrev IsSound : Option Token → Stand → Type 0
IsSound o st = IfSome o IsSoundToken × IsSoundPlace st.place

abbrev StandsWell : Stand → Type 0
StandsWell st = IsSoundPlace st.place

comment-sound : (st : Stand) (text : List ℕ) → StandsWell st → IsSound (Some (CommentToken text)) st
comment-sound st text p = (tt, p)

doctype-sound : (st : Stand) (d : Doctype) → StandsWell st → IsSound (Some (DoctypeToken d)) st
doctype-sound st d p = (tt, p)

-- an item after n characters more
all : (n : ℕ) (i : Item) → IsSoundItem i → IsSoundItem (longer_by n i)
all n i h = every IsSound n i h

-- REFERENCES

if-not_null : (b : Bool) (x y : ℕ) → is_not_null x ≡ true → is_not_null y ≡ true → is_not_null (if b then x else y) ≡ true
if-not_null true x y h k = h
if-not_null false x y h k = k

replaced : (n : ℕ) (ps : List (ℕ × ℕ)) → is_not_null n ≡ true → list_all (λ p. is_not_null p.1) ps ≡ true
    → is_not_null (Reference.replaced n ps) ≡ true
replaced n [] h k = h
replaced n (p ∷ ps) h k =
    let parts = and_parts (is_not_null p.1) (list_all (λ p. is_not_null p.1) ps) k in
    if-not_null (nat_eq n p.0) p.1 (Reference.replaced n ps) parts.0 (replaced n ps h parts.1)

or-false : (a b : Bool) → (a || b) ≡ false → a ≡ false
or-false true b h = cc
or-false false b h = refl

numbered_by : (b : Bool) (n : ℕ) → Reference.is_no_character n ≡ b
    → is_not_null (if b then 0xFFFD else Reference.replaced n Reference.replacements) ≡ true
numbered_by true n e = refl
numbered_by false n e =
    let zero_no : nat_eq n 0 ≡ false = or-false _ _ (or-false _ _ e) in
    replaced n Reference.replacements (rw zero_no refl) refl

numbered : (n : ℕ) → is_not_null (Reference.numbered n) ≡ true
numbered n = numbered_by (Reference.is_no_character n) n refl

RowSound : Option Row → Type 0
RowSound o = IfSome o (λ row. has_no_null (values row) ≡ true)

fitting-sound : (b : Bool) (row : Row) → has_no_null (values row) ≡ true → RowSound (fitting b row)
unfolding RowSound
fitting-sound true row h = h
fitting-sound false row h = tt

if-sound : (b : Bool) (x y : Row) → RowSound (Some x) → RowSound (Some y) → RowSound (if b then Some x else Some y)
if-sound true x y h k = h
if-sound false x y h k = k

longer_of-sound : (x y : Option Row) → RowSound x → RowSound y → RowSound (longer_of x y)
longer_of-sound None y h k = k
longer_of-sound (Some x) None h k = h
longer_of-sound (Some x) (Some y) h k = if-sound _ x y h k

longest-sound : (rows : List Row) (t : List ℕ) → has_values rows ≡ true → RowSound (longest rows t)
unfolding RowSound
longest-sound [] t h = tt
longest-sound (row ∷ rows) t h =
    let parts = and_parts (has_no_null (values row)) (has_values rows) h in
    longer_of-sound _ _ (fitting-sound _ row parts.0) (longest-sound rows t parts.1)

ReferenceSound : Option Reference.Reference → Type 0
ReferenceSound o = IfSome o (λ r. has_no_null r.chars ≡ true)

numbered_reference : (o : Option Reference.Number) → ReferenceSound (Reference.numbered_reference o)
unfolding ReferenceSound
numbered_reference None = tt
numbered_reference (Some n) = rw (numbered n.value) refl

named_by : (b : Bool) (row : Row) → has_no_null (values row) ≡ true → ReferenceSound (Reference.named_by b row)
unfolding ReferenceSound
named_by true row h = tt
named_by false row h = h

named_row : (v : Bool) (o : Option Row) (t : List ℕ) → RowSound o → ReferenceSound (Reference.named_row v o t)
unfolding ReferenceSound RowSound
named_row v None t h = tt
named_row v (Some row) t h = named_by _ row h

reference_by : (b v : Bool) (rows : List Row) (c : ℕ) (t : List ℕ) → has_values rows ≡ true
    → ReferenceSound (Reference.reference_by b v rows c t)
reference_by true v rows c t h = numbered_reference (Reference.numeric t)
reference_by false v rows c t h = named_row v _ (c ∷ t) (longest-sound rows (c ∷ t) h)

reference : (v : Bool) (rows : List Row) (t : List ℕ) → has_values rows ≡ true → ReferenceSound (Reference.reference_at v rows t)
unfolding ReferenceSound
reference v rows [] h = tt
reference v rows (c ∷ t) h = reference_by (nat_eq c 35) v rows c t h

reference-item : (fault : Option Fault) (o : Option Reference.Reference) (st : Stand) → IsSoundPlace st.place
    → ReferenceSound o → IsSoundItem (reference_item fault o st)
unfolding ReferenceSound
reference-item fault None st p h = (refl, p)
reference-item fault (Some r) st p h = (h, p)

-- NAMES

-- a lowered character is its own lowered character
lowered-fixed : (x : ℕ) → nat_eq x 0 ≡ false → to_ascii_lowercase x ≡ x → Characters.lowered x ≡ x
lowered-fixed x h e = rw (e, h) refl

lower-twice : (c : ℕ) → to_ascii_lowercase (to_ascii_lowercase c) ≡ to_ascii_lowercase c
lower-twice c = grind (arith, nat_tests)

lowered-by : (b : Bool) (c : ℕ) → nat_eq (to_ascii_lowercase c) 0 ≡ b → Characters.lowered
    (if b then 0xFFFD else to_ascii_lowercase c) ≡ (if b then 0xFFFD else to_ascii_lowercase c)
lowered-by true c e = refl
lowered-by false c e = lowered-fixed (to_ascii_lowercase c) e (lower-twice c)

lowered-twice : (c : ℕ) → Characters.lowered (Characters.lowered c) ≡ Characters.lowered c
lowered-twice c = lowered-by (nat_eq (to_ascii_lowercase c) 0) c refl

same : (n : ℕ) → nat_eq n n ≡ true
same n = grind (arith, nat_tests)

all-lowered : (cs : List ℕ) → list_all (λ d. nat_eq (Characters.lowered d) d) (Characters.all_lowered cs) ≡ true
all-lowered [] = refl
all-lowered (c ∷ cs) = rw (lowered-twice c, same (Characters.lowered c)) (all-lowered cs)

letter_from : (c : ℕ) → is_ascii_alphabetic c ≡ true → 65 ≤ c
letter_from c e = grind (arith, nat_tests)

letter-goes_on : (c : ℕ) → 65 ≤ c → Characters.ends_tag_name c ≡ false
letter-goes_on c l =
    rw (
      ne_eqb c 9 (λ h. omega arith),
      ne_eqb c 10 (λ h. omega arith),
      ne_eqb c 12 (λ h. omega arith),
      ne_eqb c 32 (λ h. omega arith),
      ne_eqb c 47 (λ h. omega arith),
      ne_eqb c 62 (λ h. omega arith),
    ) refl

-- a tag whose name begins with a letter
named : (st : Stand) (kind : TagKind) (c : ℕ) (t : List ℕ) → Characters.ends_tag_name c ≡ false
    → IsSoundItem (Tags.name_after st (Tags.named kind []) (c ∷ t))
named st kind c t e = rw e (tt, (all-lowered (c ∷ take (Characters.run Characters.ends_tag_name t) t), refl))

-- ATTRIBUTES

bytes_eq-flips : (a b : List ℕ) → bytes_eq a b ≡ bytes_eq b a
bytes_eq-flips a b = one_answer (bytes_eq a b) (bytes_eq b a) (texts_by_value a b)
    (λ h. sym ((texts_by_value b a).0 h), λ e. (texts_by_value b a).1 (sym e))

abbrev has : List Attribute → List ℕ → Bool
has attrs name = list_any (λ a. bytes_eq name a.name.local) attrs

or-both : (a b : Bool) → (a || b) ≡ false → (a ≡ false) × (b ≡ false)
or-both true b h = cc
or-both false b h = (refl, h)

not-false : (b : Bool) → not b ≡ true → b ≡ false
not-false true h = cc
not-false false h = refl

none : (a b : Bool) → a ≡ false → b ≡ false → (a || (b || false)) ≡ false
none true b h k = cc
none false true h k = cc
none false false h k = refl

distinct-push : (attrs : List Attribute) (name value : List ℕ) → are_distinct attrs ≡ true → has attrs name ≡ false
    → are_distinct (attrs ++ Tags.attribute name value ∷ []) ≡ true
distinct-push [] name value h k = refl
distinct-push (x ∷ rest) name value h k =
    let p : Attribute → Bool = λ b. bytes_eq x.name.local b.name.local in
    let parts = and_parts (not (list_any p rest)) (are_distinct rest) h in
    let no = or-both (bytes_eq name x.name.local) (has rest name) k in
    let other : bytes_eq x.name.local name ≡ false = bytes_eq-flips x.name.local name ∙ no.0 in
    let e : list_any p (rest ++ Tags.attribute name value ∷ []) ≡ false =
    list_any-append p rest (Tags.attribute name value ∷ []) ∙ none (list_any p rest) (bytes_eq x.name.local name)
    (not-false _ parts.0) other in
    rw e (distinct-push rest name value parts.1 no.1)

attribute_by : (b : Bool) (tag : Tag) (name value : List ℕ) → Tags.has_attribute tag name ≡ b
    → IsSoundToken (TagToken tag) → IsSoundToken (TagToken (Tags.attribute_by b tag name value))
attribute_by true tag name value e h = h
attribute_by false tag name value e h = (h.0, distinct-push tag.attrs name value h.1 e)

with_attribute : (tag : Tag) (name value : List ℕ) → IsSoundToken (TagToken tag)
    → IsSoundToken (TagToken (Tags.with_attribute tag name value))
with_attribute tag name value h = attribute_by (Tags.has_attribute tag name) tag name value refl h

quote_at : (n : ℕ) (st : Stand) (u : List ℕ) → IsSoundPlace st.place → IsSoundItem (Tags.quote_at n st u)
quote_at n st [] p = (tt, p)
quote_at n st (c ∷ u) p = (tt, p)

opened_by : (o : Tags.Opening) (rows : List Row) (st : Stand) (tag : Tag) (name : List ℕ) (c : ℕ) (t : List ℕ)
    → IsSoundToken (TagToken tag) → IsSoundItem (Tags.opened_by o rows st tag name c t)
opened_by Tags.Quote rows st tag name c t h =
    let v = Tags.value_from rows Characters.is_null (nat_eq c) 0 t in
    quote_at v.len (moved st (InTag (Tags.with_attribute tag name v.chars))) (drop v.len t) (with_attribute tag name v.chars h)
opened_by Tags.Close rows st tag name c t h = (tt, with_attribute tag name [] h)
opened_by Tags.Other rows st tag name c t h =
    (tt, with_attribute tag name (Tags.value_from rows Tags.is_odd_unquoted Characters.ends_word 0 (c ∷ t)).chars h)

opened_at : (rows : List Row) (st : Stand) (tag : Tag) (name t : List ℕ) → IsSoundToken (TagToken tag)
    → IsSoundItem (Tags.opened_at rows st tag name t)
opened_at rows st tag name [] h = (tt, with_attribute tag name [] h)
opened_at rows st tag name (c ∷ t) h = opened_by (Tags.opening c) rows st tag name c t h

equals_by : (b : Bool) (rows : List Row) (st : Stand) (tag : Tag) (name t : List ℕ) → IsSoundToken (TagToken tag)
    → IsSoundItem (Tags.equals_by b rows st tag name t)
equals_by true rows st tag name t h =
    let n = suc (Characters.white t) in
    let u = drop n t in
    all n (Tags.value_at rows st tag name u)
    (all (Characters.white u) (Tags.opened_at rows st tag name (drop (Characters.white u) u))
    (opened_at rows st tag name (drop (Characters.white u) u) h))
equals_by false rows st tag name t h = (tt, with_attribute tag name [] h)

attribute : (rows : List Row) (st : Stand) (tag : Tag) (front t : List ℕ) → IsSoundToken (TagToken tag)
    → IsSoundItem (Tags.attribute_after rows st tag front t)
attribute rows st tag front t h =
    let n = Characters.run Characters.ends_attribute_name t in
    let name = front ++ Characters.all_lowered (take n t) in
    all n (Tags.equals_at rows st tag name (drop n t)) (equals_by _ rows st tag name (drop n t) h)

slash_by : (b : Bool) (st : Stand) (tag : Tag) → IsSoundToken (TagToken tag) → IsSoundItem (Tags.slash_by b st tag)
slash_by true st tag h = (h, tt)
slash_by false st tag h = (tt, h)

tag_by : (p : Tags.Part) (rows : List Row) (st : Stand) (tag : Tag) (c : ℕ) (t : List ℕ)
    → IsSoundToken (TagToken tag) → IsSoundItem (Tags.tag_by p rows st tag c t)
tag_by Tags.Space rows st tag c t h = (tt, h)
tag_by Tags.Solidus rows st tag c t h = slash_by _ st tag h
tag_by Tags.End rows st tag c t h = (h, tt)
tag_by Tags.Attributes rows st tag c t h = attribute rows st tag (Characters.lowered c ∷ []) t h

-- TEXT

null_by-sound : (b : Bool) (c : ℕ) (st : Stand) → nat_eq c 0 ≡ b → IsSoundPlace st.place → IsSoundItem (null_by b c st)
null_by-sound true c st e p = (tt, p)
null_by-sound false c st e p = (rw e refl, p)

shown_by : (b : Bool) (c : ℕ) → nat_eq c 0 ≡ b → is_not_null (if b then 0xFFFD else c) ≡ true
shown_by true c e = refl
shown_by false c e = rw e refl

shown : (c : ℕ) → has_no_null (Characters.shown c ∷ []) ≡ true
shown c = rw (shown_by (nat_eq c 0) c refl) refl

-- ITEMS

begun : (b : Bool) (go : Unit {0} → Bool) → Characters.begins_by b go ≡ true → b ≡ true
begun true go h = refl
begun false go h = absurd (true≢false (sym h))

letter_like : (n c : ℕ) → is_ascii_alphabetic n ≡ true → nat_eq (to_ascii_lowercase n) (to_ascii_lowercase c) ≡ true → 65 ≤ c
letter_like n c h k = grind (arith, nat_tests)

-- the name of a fitting end tag begins with a letter
fitting_name : (st : Stand) (last : Option (List ℕ)) (t : List ℕ) → RawText.is_fitting_end last t ≡ true
    → IsSoundItem (Tags.name_after st (Tags.named EndTag []) (drop 1 t))
fitting_name st None t h = absurd (true≢false (sym h))
fitting_name st (Some []) t h = absurd (true≢false (sym h))
fitting_name st (Some (n ∷ ns)) [] h = absurd (true≢false (sym (and_parts _ _ h).1))
fitting_name st (Some (n ∷ ns)) (c ∷ []) h = absurd (true≢false (sym (and_parts _ _ (and_parts _ _ h).1).1))
fitting_name st (Some (n ∷ ns)) (c ∷ d ∷ t) h =
    let parts = and_parts _ _ h in
    let letter : is_ascii_alphabetic n ≡ true = (and_parts _ _ parts.0).0 in
    let alike : nat_eq (to_ascii_lowercase n) (to_ascii_lowercase d) ≡ true =
    begun _ (λ _. Characters.begins_name (map to_ascii_lowercase ns) t) (and_parts _ _ parts.1).1 in
    named st EndTag d t (letter-goes_on d (letter_like n d letter alike))

raw_by : (a b : Bool) (rows : List Row) (st : Stand) (kind : RawKind) (c : ℕ) (t : List ℕ)
    → (a ≡ true → RawText.is_fitting_end st.last_start_tag t ≡ true) → has_values rows ≡ true
    → IsSoundPlace st.place → IsSoundItem (RawText.raw_by a b rows st kind c t)
raw_by true b rows st kind c t f h p = fitting_name st st.last_start_tag t (f refl)
raw_by false true rows st kind c t f h p = reference-item _ _ st p (reference false rows t h)
raw_by false false rows st kind c t f h p = (shown c, tt)

declaration_by : (a b e : Bool) (st : Stand) (t : List ℕ) → IsSoundPlace st.place → IsSoundItem (Items.declaration_by a b e st t)
declaration_by true b e st t p = all 4 (Comments.comment_at st (drop 2 t))
    (empty_by IsSound StandsWell comment-sound doctype-sound _ _ st (drop 2 t) p)
declaration_by false true e st t p = all 9 (Doctypes.doctype_at st (drop 7 t))
    (doctype_at IsSound StandsWell comment-sound doctype-sound st p (drop 7 t))
declaration_by false false true st t p = (tt, tt)
declaration_by false false false st t p = bogus IsSound StandsWell comment-sound doctype-sound st p t []

opens : (a b d e f : Bool)
    → (if a then Items.Letter else if b then Items.Slash else if d then Items.Mark else if e then Items.Question
    else if f then Items.Close else Items.Other) ≡ Items.Letter → a ≡ true
opens true b d e f h = refl
opens false true d e f h = cc
opens false false true e f h = cc
opens false false false true f h = cc
opens false false false false true h = cc
opens false false false false false h = cc

opening-letter : (c : ℕ) → Items.opening c ≡ Items.Letter → Characters.ends_tag_name c ≡ false
opening-letter c h = letter-goes_on c (letter_from c (opens _ _ _ _ _ h))

end_by : (o : Items.Opening) (st : Stand) (c : ℕ) (t : List ℕ) → Items.opening c ≡ o → IsSoundPlace st.place
    → IsSoundItem (Items.end_by o st c t)
end_by Items.Letter st c t e p = named st EndTag c t (opening-letter c e)
end_by Items.Close st c t e p = (tt, p)
end_by Items.Slash st c t e p = bogus IsSound StandsWell comment-sound doctype-sound st p (c ∷ t) []
end_by Items.Mark st c t e p = bogus IsSound StandsWell comment-sound doctype-sound st p (c ∷ t) []
end_by Items.Question st c t e p = bogus IsSound StandsWell comment-sound doctype-sound st p (c ∷ t) []
end_by Items.Other st c t e p = bogus IsSound StandsWell comment-sound doctype-sound st p (c ∷ t) []

end_at : (st : Stand) (t : List ℕ) → IsSoundPlace st.place → IsSoundItem (Items.end_at st t)
end_at st [] p = (refl, p)
end_at st (c ∷ t) p = end_by (Items.opening c) st c t refl p

open_by : (o : Items.Opening) (cdata : Bool) (st : Stand) (c : ℕ) (t : List ℕ) → Items.opening c ≡ o
    → IsSoundPlace st.place → IsSoundItem (Items.open_by o cdata st c t)
open_by Items.Letter cdata st c t e p = named st StartTag c t (opening-letter c e)
open_by Items.Slash cdata st c t e p = end_at st t p
open_by Items.Mark cdata st c t e p = declaration_by _ _ _ st t p
open_by Items.Question cdata st c t e p = bogus IsSound StandsWell comment-sound doctype-sound st p (c ∷ t) []
open_by Items.Close cdata st c t e p = (refl, p)
open_by Items.Other cdata st c t e p = (refl, p)

open_at : (cdata : Bool) (st : Stand) (t : List ℕ) → IsSoundPlace st.place → IsSoundItem (Items.open_at cdata st t)
open_at cdata st [] p = (refl, p)
open_at cdata st (c ∷ t) p = open_by (Items.opening c) cdata st c t refl p

data_by : (a b : Bool) (rows : List Row) (cdata : Bool) (st : Stand) (c : ℕ) (t : List ℕ) → has_values rows ≡ true
    → IsSoundPlace st.place → IsSoundItem (Items.data_by a b rows cdata st c t)
data_by true b rows cdata st c t h p = open_at cdata st t p
data_by false true rows cdata st c t h p = reference-item _ _ st p (reference false rows t h)
data_by false false rows cdata st c t h p = null_by-sound (nat_eq c 0) c st refl p

cdata_by : (b : Bool) (st : Stand) (c : ℕ) → IsSoundPlace st.place → IsSoundItem (Items.cdata_by b st c)
cdata_by true st c p = (tt, tt)
cdata_by false st c p = null_by-sound (nat_eq c 0) c st refl p

item_in : (place : TextPlace) (rows : List Row) (cdata : Bool) (st : Stand) (c : ℕ) (t : List ℕ)
    → has_values rows ≡ true → st.place ≡ place → IsSoundPlace st.place → IsSoundPlace place
    → IsSoundItem (Items.item_in place rows cdata st c t)
item_in InData rows cdata st c t h e p q = data_by _ _ rows cdata st c t h p
item_in (InRaw kind) rows cdata st c t h e p q = raw_by _ _ rows st kind c t
    (λ k. (and_parts (nat_eq c 60 && RawText.ends_at_tag kind) _ k).1) h p
item_in InPlaintext rows cdata st c t h e p q = (shown c, p)
item_in InCdata rows cdata st c t h e p q = cdata_by _ st c p
item_in (InTag tag) rows cdata st c t h e p q = tag_by (Tags.part c) rows st tag c t q

pub item-sound : (rows : List Row) (cdata : Bool) (st : Stand) (c : ℕ) (t : List ℕ) → has_values rows ≡ true
    → IsSoundPlace st.place → IsSoundItem (Items.item rows cdata st c t)
item-sound rows cdata st c t h p = item_in st.place rows cdata st c t h refl p p
