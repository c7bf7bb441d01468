-- An item takes a character at least, and no more than the text has.
use Rattle.std.proofs.Common.{◌≡◌, ℕ, zero, suc, ◌+◌, ◌≤◌, Bool, true, false, nat_eq, List, [], ◌∷◌, ◌++◌, length, drop, Option}
use Rattle.std.proofs.Common.{Some, None, refl, sym, subst, arith, length-drop, true≢false}
use Rattle.std.specs.Prelude.{◌&&◌, not, if◌then◌else◌, codes}
use Rattle.std.specs.Char.{is_ascii_digit, is_ascii_hexdigit}
use Rattle.std.proofs.lemmas.Bool.{and_parts}
use Rattle.html_tokens.specs.declared.states.RawKind.{RawKind}
use Rattle.html_tokens.specs.declared.tags.Tag.{Tag}
use Rattle.html_tokens.specs.declared.tags.TagKind.TheVariants.{StartTag, EndTag}
use Rattle.html_tokens.specs.declared.token.Doctype.{Doctype}
use Rattle.html_tokens.specs.Characters
use Rattle.html_tokens.specs.Comments
use Rattle.html_tokens.specs.Doctypes
use Rattle.html_tokens.specs.Item.{TextPlace, InData, InRaw, InPlaintext, InCdata, InTag, Stand, moved, Item, Fault, longer_by}
use Rattle.html_tokens.specs.Item.{reference_item, null_by}
use Rattle.html_tokens.specs.Items
use Rattle.html_tokens.specs.RawText
use Rattle.html_tokens.specs.Reference
use Rattle.html_tokens.specs.Table.{Row, longest, longer_of, fitting}
use Rattle.html_tokens.specs.Tags

abbrev Within : Item → List ℕ → Type 0
Within i t = i.len ≤ length t

-- RUNS AND WORDS

run_by-≤ : (b : Bool) (go : Unit {0} → ℕ) (m : ℕ) → go tt ≤ m → Characters.run_by b go ≤ suc m
run_by-≤ true go m h = omega arith
run_by-≤ false go m h = omega arith

pub run-≤ : (p : ℕ → Bool) (t : List ℕ) → Characters.run p t ≤ length t
run-≤ p [] = omega arith
run-≤ p (c ∷ t) = run_by-≤ (p c) (λ _. Characters.run p t) (length t) (run-≤ p t)

white-≤ : (t : List ℕ) → Characters.white t ≤ length t
white-≤ t = run-≤ _ t

begun : (b : Bool) (go : Unit {0} → Bool) → Characters.begins_by b go ≡ true → go tt ≡ true
begun true go h = h
begun false go h = absurd (true≢false (sym h))

begins-≤ : (w t : List ℕ) → Characters.begins w t ≡ true → length w ≤ length t
begins-≤ [] t h = omega arith
begins-≤ (w ∷ ws) [] h = absurd (true≢false (sym h))
begins-≤ (w ∷ ws) (c ∷ t) h = let rest = begins-≤ ws t (begun (nat_eq w c) (λ _. Characters.begins ws t) h) in omega arith

begins_any_case-≤ : (w t : List ℕ) → Characters.begins_any_case w t ≡ true → length w ≤ length t
begins_any_case-≤ [] t h = omega arith
begins_any_case-≤ (w ∷ ws) [] h = absurd (true≢false (sym h))
begins_any_case-≤ (w ∷ ws) (c ∷ t) h = let rest = begins_any_case-≤ ws t (begun _ (λ _. Characters.begins_any_case ws t) h) in omega arith

len-longer_by : (n : ℕ) (i : Item) → (longer_by n i).len ≡ n + i.len
len-longer_by zero i = omega arith
len-longer_by (suc n) i = omega (arith, len-longer_by n i)

-- an item after n characters more
within-all : (n : ℕ) (i : Item) (t : List ℕ) → n ≤ length t → Within i (drop n t) → Within (longer_by n i) t
within-all n i t h w = omega (arith, len-longer_by n i, length-drop n t)

-- COMMENTS

abbrev AtMost : Option ℕ → ℕ → Type 0
AtMost None m = Unit {0}
AtMost (Some n) m = n ≤ m

if-AtMost : (b : Bool) (x y : Option ℕ) (m : ℕ) → AtMost x m → AtMost y m → AtMost (if b then x else y) m
if-AtMost true x y m h k = h
if-AtMost false x y m h k = k

comment_end-≤ : (t : List ℕ) → AtMost (Comments.comment_end t) (length t)
comment_end-≤ [] = omega arith
comment_end-≤ (a ∷ []) = if-AtMost (nat_eq a 45) (Some 1) None 1 (omega arith) tt
comment_end-≤ (a ∷ b ∷ []) = if-AtMost (nat_eq a 45 && nat_eq b 45) (Some 2) None 2 (omega arith) tt
comment_end-≤ (a ∷ b ∷ c ∷ []) =
    if-AtMost (nat_eq a 45 && nat_eq b 45 && nat_eq c 62) (Some 3)
    (if nat_eq a 45 && nat_eq b 45 && nat_eq c 33 then Some 3 else None) 3 (omega arith)
    (if-AtMost (nat_eq a 45 && nat_eq b 45 && nat_eq c 33) (Some 3) None 3 (omega arith) tt)
comment_end-≤ (a ∷ b ∷ c ∷ d ∷ t) =
    let m = length (a ∷ b ∷ c ∷ d ∷ t) in
    if-AtMost (nat_eq a 45 && nat_eq b 45 && nat_eq c 62) (Some 3) (if nat_eq a 45 && nat_eq b 45 && nat_eq c 33
    && nat_eq d 62 then Some 4 else None) m (omega arith)
    (if-AtMost (nat_eq a 45 && nat_eq b 45 && nat_eq c 33 && nat_eq d 62) (Some 4) None m (omega arith) tt)

comment_by-≤ : (o : Option ℕ) (faulty odd : Bool) (st : Stand) (front : List ℕ) (go : Unit {0} → Item) (m : ℕ)
    → AtMost o (suc m) → (go tt).len ≤ m → (Comments.comment_by o faulty odd st front go).len ≤ suc m
comment_by-≤ (Some n) faulty odd st front go m h k = h
comment_by-≤ None faulty odd st front go m h k = omega arith

comment_after-≤ : (st : Stand) (front t : List ℕ) → Within (Comments.comment_after st front t) t
comment_after-≤ st front [] = omega arith
comment_after-≤ st front (c ∷ t) = comment_by-≤ (Comments.comment_end (c ∷ t)) _ _ st front _ (length t)
    (comment_end-≤ (c ∷ t)) (comment_after-≤ st (front ++ Characters.shown c ∷ []) t)

empty_by-≤ : (a b : Bool) (st : Stand) (t : List ℕ) → (a ≡ true → 1 ≤ length t) → (b ≡ true → 2 ≤ length t)
    → Within (Comments.empty_by a b st t) t
empty_by-≤ true b st t h k = h refl
empty_by-≤ false true st t h k = k refl
empty_by-≤ false false st t h k = comment_after-≤ st [] t

comment_at-≤ : (st : Stand) (t : List ℕ) → Within (Comments.comment_at st t) t
comment_at-≤ st t = empty_by-≤ _ _ st t (begins-≤ (codes ">") t) (begins-≤ (codes "->") t)

bogus_by-≤ : (b : Bool) (st : Stand) (front : List ℕ) (go : Unit {0} → Item) (m : ℕ) → (go tt).len ≤ m
    → (Comments.bogus_by b st front go).len ≤ suc m
bogus_by-≤ true st front go m h = omega arith
bogus_by-≤ false st front go m h = omega arith

bogus-≤ : (st : Stand) (front t : List ℕ) → Within (Comments.bogus_comment_after st front t) t
bogus-≤ st front [] = omega arith
bogus-≤ st front (c ∷ t) = bogus_by-≤ (nat_eq c 62) st front _ (length t) (bogus-≤ st (front ++ Characters.shown c ∷ []) t)

-- DOCTYPES

junk_by-≤ : (b : Bool) (st : Stand) (d : Doctype) (go : Unit {0} → Item) (m : ℕ) → (go tt).len ≤ m
    → (Doctypes.junk_by b st d go).len ≤ suc m
junk_by-≤ true st d go m h = omega arith
junk_by-≤ false st d go m h = omega arith

junk-≤ : (st : Stand) (d : Doctype) (t : List ℕ) → Within (Doctypes.junk_after st d t) t
junk-≤ st d [] = omega arith
junk-≤ st d (c ∷ t) = junk_by-≤ (nat_eq c 62) st d _ (length t) (junk-≤ st d t)

doctype_end_at-≤ : (st : Stand) (d : Doctype) (t : List ℕ) → Within (Doctypes.doctype_end_at st d t) t
doctype_end_at-≤ st d [] = omega arith
doctype_end_at-≤ st d (c ∷ t) = junk-≤ st d (c ∷ t)

after_system-≤ : (st : Stand) (d : Doctype) (t : List ℕ) → Within (Doctypes.after_system st d t) t
after_system-≤ st d t = within-all _ _ t (white-≤ t) (doctype_end_at-≤ st d _)

closed_by-≤ : (b : Bool) (st : Stand) (d : Doctype) (t : List ℕ) (go : Doctype → List ℕ → Item) → Within (go d t) t
    → (Doctypes.closed_by b st d t go).len ≤ suc (length t)
closed_by-≤ true st d t go h = omega arith
closed_by-≤ false st d t go h = omega arith

identifier_end-≤ : (q : ℕ) (st : Stand) (d : Doctype) (t : List ℕ) (go : Doctype → List ℕ → Item)
    → ((t : List ℕ) → Within (go d t) t) → Within (Doctypes.identifier_end q st d t go) t
identifier_end-≤ q st d [] go h = omega arith
identifier_end-≤ q st d (c ∷ t) go h = closed_by-≤ (nat_eq c q) st d t go (h t)

system_after-≤ : (q : ℕ) (st : Stand) (d : Doctype) (front t : List ℕ) → Within (Doctypes.system_after q st d front t) t
system_after-≤ q st d front t = within-all _ _ t (run-≤ _ t) (identifier_end-≤ q st _ _ _ (after_system-≤ st _))

system_by-≤ : (o : Doctypes.Opening) (st : Stand) (d : Doctype) (c : ℕ) (t : List ℕ) → Within (Doctypes.system_by o st d c t) (c ∷ t)
system_by-≤ Doctypes.Quote st d c t = let h = system_after-≤ c st d [] t in omega arith
system_by-≤ Doctypes.Close st d c t = omega arith
system_by-≤ Doctypes.Junk st d c t = junk-≤ st _ (c ∷ t)

system_at-≤ : (st : Stand) (d : Doctype) (t : List ℕ) → Within (Doctypes.system_at st d t) t
system_at-≤ st d [] = omega arith
system_at-≤ st d (c ∷ t) = system_by-≤ (Doctypes.opening c) st d c t

second_by-≤ : (o : Doctypes.Opening) (st : Stand) (d : Doctype) (c : ℕ) (t : List ℕ) → Within (Doctypes.second_by o st d c t) (c ∷ t)
second_by-≤ Doctypes.Quote st d c t = let h = system_after-≤ c st d [] t in omega arith
second_by-≤ Doctypes.Close st d c t = omega arith
second_by-≤ Doctypes.Junk st d c t = junk-≤ st _ (c ∷ t)

second_identifier_at-≤ : (st : Stand) (d : Doctype) (t : List ℕ) → Within (Doctypes.second_identifier_at st d t) t
second_identifier_at-≤ st d [] = omega arith
second_identifier_at-≤ st d (c ∷ t) = second_by-≤ (Doctypes.opening c) st d c t

after_public-≤ : (st : Stand) (d : Doctype) (t : List ℕ) → Within (Doctypes.after_public st d t) t
after_public-≤ st d t = within-all _ _ t (white-≤ t) (second_identifier_at-≤ st d _)

public_after-≤ : (q : ℕ) (st : Stand) (d : Doctype) (front t : List ℕ) → Within (Doctypes.public_after q st d front t) t
public_after-≤ q st d front t = within-all _ _ t (run-≤ _ t) (identifier_end-≤ q st _ _ _ (after_public-≤ st _))

public_by-≤ : (o : Doctypes.Opening) (st : Stand) (d : Doctype) (c : ℕ) (t : List ℕ) → Within (Doctypes.public_by o st d c t) (c ∷ t)
public_by-≤ Doctypes.Quote st d c t = let h = public_after-≤ c st d [] t in omega arith
public_by-≤ Doctypes.Close st d c t = omega arith
public_by-≤ Doctypes.Junk st d c t = junk-≤ st _ (c ∷ t)

public_at-≤ : (st : Stand) (d : Doctype) (t : List ℕ) → Within (Doctypes.public_at st d t) t
public_at-≤ st d [] = omega arith
public_at-≤ st d (c ∷ t) = public_by-≤ (Doctypes.opening c) st d c t

after_public_keyword-≤ : (st : Stand) (d : Doctype) (t : List ℕ) → Within (Doctypes.after_public_keyword st d t) t
after_public_keyword-≤ st d t = within-all _ _ t (white-≤ t) (public_at-≤ st d _)

after_system_keyword-≤ : (st : Stand) (d : Doctype) (t : List ℕ) → Within (Doctypes.after_system_keyword st d t) t
after_system_keyword-≤ st d t = within-all _ _ t (white-≤ t) (system_at-≤ st d _)

keyword_by-≤ : (a b e : Bool) (st : Stand) (d : Doctype) (t : List ℕ) → 1 ≤ length t → (b ≡ true → 6 ≤ length t)
    → (e ≡ true → 6 ≤ length t) → Within (Doctypes.keyword_by a b e st d t) t
keyword_by-≤ true b e st d t h k l = h
keyword_by-≤ false true e st d t h k l = within-all 6 (Doctypes.after_public_keyword st d (drop 6 t)) t (k refl)
    (after_public_keyword-≤ st d (drop 6 t))
keyword_by-≤ false false true st d t h k l = within-all 6 (Doctypes.after_system_keyword st d (drop 6 t)) t (l refl)
    (after_system_keyword-≤ st d (drop 6 t))
keyword_by-≤ false false false st d t h k l = junk-≤ st _ t

keyword_at-≤ : (st : Stand) (d : Doctype) (t : List ℕ) → Within (Doctypes.keyword_at st d t) t
keyword_at-≤ st d [] = omega arith
keyword_at-≤ st d (c ∷ t) = keyword_by-≤ _ _ _ st d (c ∷ t) (omega arith)
    (begins_any_case-≤ (codes "public") (c ∷ t)) (begins_any_case-≤ (codes "system") (c ∷ t))

after_name-≤ : (st : Stand) (d : Doctype) (t : List ℕ) → Within (Doctypes.after_name st d t) t
after_name-≤ st d t = within-all _ _ t (white-≤ t) (keyword_at-≤ st d _)

doctype_name-≤ : (st : Stand) (front t : List ℕ) → Within (Doctypes.doctype_name_after st front t) t
doctype_name-≤ st front t = within-all _ _ t (run-≤ _ t) (after_name-≤ st _ _)

name_by-≤ : (b : Bool) (st : Stand) (t : List ℕ) → 1 ≤ length t → Within (Doctypes.name_by b st t) t
name_by-≤ true st t h = h
name_by-≤ false st t h = doctype_name-≤ st [] t

doctype_name_at-≤ : (st : Stand) (t : List ℕ) → Within (Doctypes.doctype_name_at st t) t
doctype_name_at-≤ st [] = omega arith
doctype_name_at-≤ st (c ∷ t) = name_by-≤ (nat_eq c 62) st (c ∷ t) (omega arith)

doctype_at-≤ : (st : Stand) (t : List ℕ) → Within (Doctypes.doctype_at st t) t
doctype_at-≤ st t = within-all _ _ t (white-≤ t) (doctype_name_at-≤ st _)

-- REFERENCES

abbrev RowFits : Option Row → List ℕ → Type 0
RowFits None t = Unit {0}
RowFits (Some row) t = length row.name ≤ length t

fitting-RowFits : (b : Bool) (row : Row) (t : List ℕ) → (b ≡ true → length row.name ≤ length t) → RowFits (fitting b row) t
fitting-RowFits true row t h = h refl
fitting-RowFits false row t h = tt

if-RowFits : (b : Bool) (x y : Row) (t : List ℕ) → RowFits (Some x) t → RowFits (Some y) t → RowFits (if b then Some x else Some y) t
if-RowFits true x y t h k = h
if-RowFits false x y t h k = k

longer_of-RowFits : (x y : Option Row) (t : List ℕ) → RowFits x t → RowFits y t → RowFits (longer_of x y) t
longer_of-RowFits None y t h k = k
longer_of-RowFits (Some x) None t h k = h
longer_of-RowFits (Some x) (Some y) t h k = if-RowFits _ x y t h k

longest-RowFits : (rows : List Row) (t : List ℕ) → RowFits (longest rows t) t
longest-RowFits [] t = tt
longest-RowFits (row ∷ rows) t = longer_of-RowFits _ _ t (fitting-RowFits _ row t (begins-≤ row.name t)) (longest-RowFits rows t)

abbrev ReferenceFits : Option Reference.Reference → ℕ → Type 0
ReferenceFits None m = Unit {0}
ReferenceFits (Some r) m = r.len ≤ m

abbrev NumberFits : Option Reference.Number → ℕ → Type 0
NumberFits None m = Unit {0}
NumberFits (Some n) m = n.len ≤ m

if-≤ : (b : Bool) (m : ℕ) → 1 ≤ m → (if b then 1 else 0) ≤ m
if-≤ true m h = h
if-≤ false m h = omega arith

semicolon-≤ : (t : List ℕ) → Reference.semicolon t ≤ length t
semicolon-≤ [] = omega arith
semicolon-≤ (c ∷ t) = if-≤ (nat_eq c 59) _ (omega arith)

digits-≤ : (k base n : ℕ) (t : List ℕ) → n ≤ length t → NumberFits (Reference.digits_at k base n t) (k + length t)
digits-≤ k base zero t h = tt
digits-≤ k base (suc n) t h = omega (arith, semicolon-≤ (drop (suc n) t), length-drop (suc n) t)

numeric_by-≤ : (b : Bool) (c : ℕ) (t : List ℕ) → NumberFits (Reference.numeric_by b c t) (2 + length t)
numeric_by-≤ true c t = digits-≤ 2 16 _ t (run-≤ (λ d. not (is_ascii_hexdigit d)) t)
numeric_by-≤ false c t =
    subst (NumberFits (Reference.numeric_by false c t)) (omega arith)
    (digits-≤ 1 10 (Characters.run (λ d. not (is_ascii_digit d)) (c ∷ t)) (c ∷ t) (run-≤ (λ d. not (is_ascii_digit d)) (c ∷ t)))

numeric-≤ : (t : List ℕ) → NumberFits (Reference.numeric t) (1 + length t)
numeric-≤ [] = tt
numeric-≤ (c ∷ t) = subst (NumberFits (Reference.numeric (c ∷ t))) (omega arith) (numeric_by-≤ _ c t)

numbered-≤ : (o : Option Reference.Number) (m : ℕ) → NumberFits o m → ReferenceFits (Reference.numbered_reference o) m
numbered-≤ None m h = tt
numbered-≤ (Some n) m h = h

named_by-≤ : (b : Bool) (row : Row) (m : ℕ) → length row.name ≤ m → ReferenceFits (Reference.named_by b row) m
named_by-≤ true row m h = tt
named_by-≤ false row m h = h

named_row-≤ : (v : Bool) (o : Option Row) (t : List ℕ) → RowFits o t → ReferenceFits (Reference.named_row v o t) (length t)
named_row-≤ v None t h = tt
named_row-≤ v (Some row) t h = named_by-≤ _ row _ h

reference_by-≤ : (b v : Bool) (rows : List Row) (c : ℕ) (t : List ℕ) → ReferenceFits (Reference.reference_by b v rows c t) (suc (length t))
reference_by-≤ true v rows c t = numbered-≤ _ _ (subst (NumberFits (Reference.numeric t)) (omega arith) (numeric-≤ t))
reference_by-≤ false v rows c t = named_row-≤ v _ (c ∷ t) (longest-RowFits rows (c ∷ t))

reference-≤ : (v : Bool) (rows : List Row) (t : List ℕ) → ReferenceFits (Reference.reference_at v rows t) (length t)
reference-≤ v rows [] = tt
reference-≤ v rows (c ∷ t) = reference_by-≤ (nat_eq c 35) v rows c t

reference_item-≤ : (fault : Option Fault) (o : Option Reference.Reference) (st : Stand) (m : ℕ) → ReferenceFits o m
    → (reference_item fault o st).len ≤ suc m
reference_item-≤ fault None st m h = omega arith
reference_item-≤ fault (Some r) st m h = omega arith

-- TAGS

name_after-≤ : (st : Stand) (tag : Tag) (t : List ℕ) → Within (Tags.name_after st tag t) t
name_after-≤ st tag t = run-≤ _ t

value_by-≤ : (rows : List Row) (odd a b : Bool) (c : ℕ) (t : List ℕ) (go : ℕ → Tags.Value) (m : ℕ)
    → ((n : ℕ) → (go n).len ≤ m) → (Tags.value_by rows odd a b c t go).len ≤ suc m
value_by-≤ rows odd true b c t go m h = omega arith
value_by-≤ rows odd false true c t go m h = let k = h (Tags.reference_len (Reference.reference_at true rows t)) in omega arith
value_by-≤ rows odd false false c t go m h = let k = h 0 in omega arith

value-≤ : (rows : List Row) (odd ends : ℕ → Bool) (n : ℕ) (t : List ℕ) → (Tags.value_from rows odd ends n t).len ≤ length t
unfolding Tags.value_from
value-≤ rows odd ends n [] = omega arith
value-≤ rows odd ends zero (c ∷ t) = value_by-≤ rows (odd c) (ends c) (nat_eq c 38) c t _ (length t) (λ n. value-≤ rows odd ends n t)
value-≤ rows odd ends (suc n) (c ∷ t) = let k = value-≤ rows odd ends n t in omega arith

quote_at-≤ : (n : ℕ) (st : Stand) (u : List ℕ) → (Tags.quote_at n st u).len ≤ n + length u
quote_at-≤ n st [] = omega arith
quote_at-≤ n st (c ∷ u) = omega arith

quoted-≤ : (rows : List Row) (q : ℕ) (st : Stand) (tag : Tag) (name front t : List ℕ)
    → Within (Tags.quoted_after rows q st tag name front t) t
quoted-≤ rows q st tag name front t =
    let v = Tags.value_from rows Characters.is_null (nat_eq q) 0 t in
    let k = value-≤ rows Characters.is_null (nat_eq q) 0 t in
    omega (arith, quote_at-≤ v.len (moved st (InTag (Tags.with_attribute tag name (front ++ v.chars)))) (drop v.len t), length-drop v.len t)

opened_by-≤ : (o : Tags.Opening) (rows : List Row) (st : Stand) (tag : Tag) (name : List ℕ) (c : ℕ) (t : List ℕ)
    → Within (Tags.opened_by o rows st tag name c t) (c ∷ t)
opened_by-≤ Tags.Quote rows st tag name c t = let k = quoted-≤ rows c st tag name [] t in omega arith
opened_by-≤ Tags.Close rows st tag name c t = omega arith
opened_by-≤ Tags.Other rows st tag name c t = value-≤ rows _ _ 0 (c ∷ t)

opened_at-≤ : (rows : List Row) (st : Stand) (tag : Tag) (name t : List ℕ) → Within (Tags.opened_at rows st tag name t) t
opened_at-≤ rows st tag name [] = omega arith
opened_at-≤ rows st tag name (c ∷ t) = opened_by-≤ (Tags.opening c) rows st tag name c t

value_at-≤ : (rows : List Row) (st : Stand) (tag : Tag) (name t : List ℕ) → Within (Tags.value_at rows st tag name t) t
value_at-≤ rows st tag name t = within-all _ _ t (white-≤ t) (opened_at-≤ rows st tag name _)

equals_by-≤ : (b : Bool) (rows : List Row) (st : Stand) (tag : Tag) (name t : List ℕ)
    → (b ≡ true → suc (Characters.white t) ≤ length t) → Within (Tags.equals_by b rows st tag name t) t
equals_by-≤ true rows st tag name t h = within-all (suc (Characters.white t)) _ t (h refl) (value_at-≤ rows st tag name _)
equals_by-≤ false rows st tag name t h = omega arith

equals_at-≤ : (rows : List Row) (st : Stand) (tag : Tag) (name t : List ℕ) → Within (Tags.equals_at rows st tag name t) t
equals_at-≤ rows st tag name t =
    equals_by-≤ _ rows st tag name t (λ e. let k = begins-≤ (codes "=") (drop (Characters.white t) t) e in omega
    (arith, length-drop (Characters.white t) t))

attribute-≤ : (rows : List Row) (st : Stand) (tag : Tag) (front t : List ℕ) → Within (Tags.attribute_after rows st tag front t) t
attribute-≤ rows st tag front t = within-all _ _ t (run-≤ _ t) (equals_at-≤ rows st tag _ _)

-- ITEMS

-- an item takes a character at least, and no more than these
pub record Takes (i : Item) (t : List ℕ) : Type 0 where
  pub some : 1 ≤ i.len
  pub within : i.len ≤ length t

one : (i : Item) (c : ℕ) (t : List ℕ) → i.len ≡ 1 → Takes i (c ∷ t)
one i c t e = record { some = omega arith; within = omega arith }

more : (n : ℕ) (i : Item) (t : List ℕ) → suc n ≤ length t → Within i (drop (suc n) t) → Takes (longer_by (suc n) i) t
more n i t h w = record { some = omega (arith, len-longer_by (suc n) i); within = within-all (suc n) i t h w }

slash_by-≤ : (b : Bool) (st : Stand) (tag : Tag) (c : ℕ) (t : List ℕ) → (b ≡ true → 1 ≤ length t) → Takes (Tags.slash_by b st tag) (c ∷ t)
slash_by-≤ true st tag c t h = let k = h refl in record { some = omega arith; within = omega arith }
slash_by-≤ false st tag c t h = one _ c t refl

tag_by-≤ : (p : Tags.Part) (rows : List Row) (st : Stand) (tag : Tag) (c : ℕ) (t : List ℕ) → Takes (Tags.tag_by p rows st tag c t) (c ∷ t)
tag_by-≤ Tags.Space rows st tag c t = one _ c t refl
tag_by-≤ Tags.Solidus rows st tag c t = slash_by-≤ _ st tag c t (begins-≤ (codes ">") t)
tag_by-≤ Tags.End rows st tag c t = one _ c t refl
tag_by-≤ Tags.Attributes rows st tag c t = more 0 _ (c ∷ t) (omega arith) (attribute-≤ rows st tag (Characters.lowered c ∷ []) t)

fits-≤ : (last : Option (List ℕ)) (t : List ℕ) → RawText.is_fitting_end last t ≡ true → 1 ≤ length t
fits-≤ None t h = absurd (true≢false (sym h))
fits-≤ (Some name) [] h = absurd (true≢false (sym (and_parts _ _ h).1))
fits-≤ (Some name) (c ∷ t) h = omega arith

some_reference : (fault : Option Fault) (o : Option Reference.Reference) (st : Stand) → 1 ≤ (reference_item fault o st).len
some_reference fault None st = omega arith
some_reference fault (Some r) st = omega arith

reference-takes : (rows : List Row) (st : Stand) (c : ℕ) (t : List ℕ)
    → Takes (reference_item (Reference.fault_of_reference rows t) (Reference.reference_at false rows t) st) (c ∷ t)
reference-takes rows st c t =
    record {
      some = some_reference (Reference.fault_of_reference rows t) (Reference.reference_at false rows t) st;
      within = reference_item-≤ _ _ st _ (reference-≤ false rows t);
    }

raw_by-≤ : (a b : Bool) (rows : List Row) (st : Stand) (kind : RawKind) (c : ℕ) (t : List ℕ)
    → (a ≡ true → 1 ≤ length t) → Takes (RawText.raw_by a b rows st kind c t) (c ∷ t)
raw_by-≤ true b rows st kind c t h = more 1 _ (c ∷ t) (let k = h refl in omega arith) (name_after-≤ st (Tags.named EndTag []) (drop 1 t))
raw_by-≤ false true rows st kind c t h = reference-takes rows st c t
raw_by-≤ false false rows st kind c t h = one _ c t refl

declaration_by-≤ : (a b e : Bool) (st : Stand) (c : ℕ) (t : List ℕ) → (a ≡ true → 2 ≤ length t)
    → (b ≡ true → 7 ≤ length t) → (e ≡ true → 7 ≤ length t) → Takes (Items.declaration_by a b e st t) (60 ∷ c ∷ t)
declaration_by-≤ true b e st c t h k l = more 3 _ (60 ∷ c ∷ t) (let m = h refl in omega arith) (comment_at-≤ st _)
declaration_by-≤ false true e st c t h k l = more 8 _ (60 ∷ c ∷ t) (let m = k refl in omega arith) (doctype_at-≤ st _)
declaration_by-≤ false false true st c t h k l = let m = l refl in record { some = omega arith; within = omega arith }
declaration_by-≤ false false false st c t h k l = more 1 _ (60 ∷ c ∷ t) (omega arith) (bogus-≤ st [] t)

declaration-≤ : (cdata : Bool) (st : Stand) (c : ℕ) (t : List ℕ) → Takes (Items.declaration_at cdata st t) (60 ∷ c ∷ t)
declaration-≤ cdata st c t =
    declaration_by-≤ _ _ _ st c t (begins-≤ (codes "--") t) (begins_any_case-≤ (codes "doctype") t)
    (λ e. begins-≤ (codes "[CDATA[") t (and_parts _ _ e).1)

end_by-≤ : (o : Items.Opening) (st : Stand) (c b : ℕ) (t : List ℕ) → Takes (Items.end_by o st c t) (60 ∷ b ∷ c ∷ t)
end_by-≤ Items.Letter st c b t = more 1 _ (60 ∷ b ∷ c ∷ t) (omega arith) (name_after-≤ st (Tags.named EndTag []) (c ∷ t))
end_by-≤ Items.Close st c b t = record { some = omega arith; within = omega arith }
end_by-≤ Items.Slash st c b t = more 1 _ (60 ∷ b ∷ c ∷ t) (omega arith) (bogus-≤ st [] (c ∷ t))
end_by-≤ Items.Mark st c b t = more 1 _ (60 ∷ b ∷ c ∷ t) (omega arith) (bogus-≤ st [] (c ∷ t))
end_by-≤ Items.Question st c b t = more 1 _ (60 ∷ b ∷ c ∷ t) (omega arith) (bogus-≤ st [] (c ∷ t))
end_by-≤ Items.Other st c b t = more 1 _ (60 ∷ b ∷ c ∷ t) (omega arith) (bogus-≤ st [] (c ∷ t))

end-≤ : (st : Stand) (b : ℕ) (t : List ℕ) → Takes (Items.end_at st t) (60 ∷ b ∷ t)
end-≤ st b [] = one _ 60 (b ∷ []) refl
end-≤ st b (c ∷ t) = end_by-≤ (Items.opening c) st c b t

open_by-≤ : (o : Items.Opening) (cdata : Bool) (st : Stand) (c : ℕ) (t : List ℕ) → Takes (Items.open_by o cdata st c t) (60 ∷ c ∷ t)
open_by-≤ Items.Letter cdata st c t = more 0 _ (60 ∷ c ∷ t) (omega arith) (name_after-≤ st (Tags.named StartTag []) (c ∷ t))
open_by-≤ Items.Slash cdata st c t = end-≤ st c t
open_by-≤ Items.Mark cdata st c t = declaration-≤ cdata st c t
open_by-≤ Items.Question cdata st c t = more 0 _ (60 ∷ c ∷ t) (omega arith) (bogus-≤ st [] (c ∷ t))
open_by-≤ Items.Close cdata st c t = one _ 60 (c ∷ t) refl
open_by-≤ Items.Other cdata st c t = one _ 60 (c ∷ t) refl

open-≤ : (cdata : Bool) (st : Stand) (t : List ℕ) → Takes (Items.open_at cdata st t) (60 ∷ t)
open-≤ cdata st [] = one _ 60 [] refl
open-≤ cdata st (c ∷ t) = open_by-≤ (Items.opening c) cdata st c t

-- the first character's number is nothing to how much an item takes
other : (i : Item) (b c : ℕ) (t : List ℕ) → Takes i (b ∷ t) → Takes i (c ∷ t)
other i b c t h = record { some = h.some; within = h.within }

null_by-≤ : (b : Bool) (d : ℕ) (st : Stand) (c : ℕ) (t : List ℕ) → Takes (null_by b d st) (c ∷ t)
null_by-≤ true d st c t = one _ c t refl
null_by-≤ false d st c t = one _ c t refl

data_by-≤ : (a b : Bool) (rows : List Row) (cdata : Bool) (st : Stand) (c : ℕ) (t : List ℕ)
    → Takes (Items.data_by a b rows cdata st c t) (c ∷ t)
data_by-≤ true b rows cdata st c t = other _ 60 c t (open-≤ cdata st t)
data_by-≤ false true rows cdata st c t = reference-takes rows st c t
data_by-≤ false false rows cdata st c t = null_by-≤ _ c st c t

cdata_by-≤ : (b : Bool) (st : Stand) (c : ℕ) (t : List ℕ) → (b ≡ true → 3 ≤ suc (length t)) → Takes (Items.cdata_by b st c) (c ∷ t)
cdata_by-≤ true st c t h = let k = h refl in record { some = omega arith; within = k }
cdata_by-≤ false st c t h = null_by-≤ _ c st c t

item_in-≤ : (p : TextPlace) (rows : List Row) (cdata : Bool) (st : Stand) (c : ℕ) (t : List ℕ)
    → Takes (Items.item_in p rows cdata st c t) (c ∷ t)
item_in-≤ InData rows cdata st c t = data_by-≤ _ _ rows cdata st c t
item_in-≤ (InRaw kind) rows cdata st c t = raw_by-≤ _ _ rows st kind c t
    (λ e. fits-≤ st.last_start_tag t (and_parts (nat_eq c 60 && RawText.ends_at_tag kind) _ e).1)
item_in-≤ InPlaintext rows cdata st c t = one _ c t refl
item_in-≤ InCdata rows cdata st c t = cdata_by-≤ _ st c t (begins-≤ (codes "]]>") (c ∷ t))
item_in-≤ (InTag tag) rows cdata st c t = tag_by-≤ (Tags.part c) rows st tag c t

pub item-takes : (rows : List Row) (cdata : Bool) (st : Stand) (c : ℕ) (t : List ℕ) → Takes (Items.item rows cdata st c t) (c ∷ t)
item-takes rows cdata st c t = item_in-≤ st.place rows cdata st c t
