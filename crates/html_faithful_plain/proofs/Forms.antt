-- The names, attributes, texts and comments of plain documents are those of faithful ones.
use Rattle.std.proofs.Common.{◌≡◌, ◌∙◌, ℕ, Bool, true, false, nat_eq, not, List, [], ◌∷◌, ◌++◌, map, Option, Some, None, refl, sym, ap, ap₂}
use Rattle.std.proofs.Common.{arith, codes, true≢false}
use Rattle.std.specs.Prelude.{◌&&◌, ◌||◌, is_none}
use Rattle.std.specs.Char.{to_ascii_lowercase}
use Rattle.std.specs.List.{list_all}
use Rattle.std.proofs.lemmas.Bool.{and_parts}
use Rattle.std.proofs.lemmas.Bool.Decides.{nat_tests}
use Rattle.markup.specs.Attributes.{are_distinct}
use Rattle.markup.specs.Escape.{attribute_prefix}
use Rattle.markup.specs.Namespaces.{known_namespace, name_of}
use Rattle.markup.specs.declared.attributes.Attribute.{Attribute}
use Rattle.markup.specs.declared.names.QualName.{QualName}
use Rattle.html_plain.specs.Grammar as plain
use Rattle.html_plain.specs.Grammar.{are_plain_attributes, is_comment_character, is_name_character, is_plain_attribute, is_plain_character}
use Rattle.html_plain.specs.Grammar.{is_plain_comment, is_plain_name, is_plain_text, is_unprefixed}
use Rattle.html_rules.specs.Conditions.{is_nonempty}
use Rattle.html_rules.specs.Encodings.{is_space}
use Rattle.html_rules.specs.Tokens.{is_white}
use Rattle.html_tokens.specs.Characters.{begins}
use Rattle.html_tokens.specs.Comments.{comment_end}
use Rattle.html_faithful.specs.Forms.{are_told, has_no_end, is_attribute_name, is_comment_text, is_error_in_name, is_kept, is_odd_in_name}
use Rattle.html_faithful.specs.Forms.{lowered, told_attribute}

-- CHARACTERS

and-so : (a b : Bool) → a ≡ true → b ≡ true → (a && b) ≡ true
and-so true b h k = k
and-so false b h k = absurd (true≢false (sym h))

plain-kept : (c : ℕ) → is_plain_character c ≡ true → (not (nat_eq c 0) && not (nat_eq c 13)) ≡ true
plain-kept c h = (and_parts (not (nat_eq c 0) && not (nat_eq c 13)) _ h).0

pub all-kept : (text : List ℕ) → list_all is_plain_character text ≡ true → is_kept text ≡ true
all-kept [] h = refl
all-kept (c ∷ cs) h =
    let p = and_parts (is_plain_character c) (list_all is_plain_character cs) h in
    and-so _ _ (plain-kept c p.0) (all-kept cs p.1)

name-character : (c : ℕ) → is_name_character c ≡ true → (not (is_odd_in_name c) && not (is_error_in_name c)) ≡ true
name-character c h = grind (arith, nat_tests)

lower-character : (c : ℕ) → is_name_character c ≡ true → to_ascii_lowercase c ≡ c
lower-character c h = grind (arith, nat_tests)

white-space : (c : ℕ) → plain.is_white c ≡ true → is_space c ≡ true
white-space c h = grind (arith, nat_tests)

pub all-white : (text : List ℕ) → list_all plain.is_white text ≡ true → is_white text ≡ true
all-white [] h = refl
all-white (c ∷ cs) h =
    let p = and_parts (plain.is_white c) (list_all plain.is_white cs) h in
    and-so _ _ (white-space c p.0) (all-white cs p.1)

-- TEXTS

pub text-nonempty : (text : List ℕ) → is_plain_text text ≡ true → is_nonempty text ≡ true
text-nonempty [] h = absurd (true≢false (sym h))
text-nonempty (c ∷ cs) h = refl

pub text-kept : (text : List ℕ) → is_plain_text text ≡ true → is_kept text ≡ true
text-kept text h = all-kept text (and_parts (not (plain.is_empty text)) (list_all is_plain_character text) h).1

-- NAMES

all-lowered : (name : List ℕ) → list_all is_name_character name ≡ true → lowered name ≡ name
all-lowered [] h = refl
all-lowered (c ∷ cs) h =
    let p = and_parts (is_name_character c) (list_all is_name_character cs) h in
    ap₂ (λ (d : ℕ) (ds : List ℕ). d ∷ ds) (lower-character c p.0) (all-lowered cs p.1)

all-names : (name : List ℕ) → list_all is_name_character name ≡ true
    → list_all (λ c. not (is_odd_in_name c) && not (is_error_in_name c)) name ≡ true
all-names [] h = refl
all-names (c ∷ cs) h =
    let p = and_parts (is_name_character c) (list_all is_name_character cs) h in
    and-so _ _ (name-character c p.0) (all-names cs p.1)

name-told : (name : List ℕ) → is_plain_name name ≡ true → is_attribute_name name ≡ true
name-told [] h = absurd (true≢false (sym h))
name-told (c ∷ cs) h = all-names (c ∷ cs) h

-- ATTRIBUTES

none-there : (o : Option (List ℕ)) → is_none o ≡ true → o ≡ None
none-there None h = refl
none-there (Some p) h = absurd (true≢false (sym h))

empty-there : (text : List ℕ) → plain.is_empty text ≡ true → text ≡ []
empty-there [] h = refl
empty-there (c ∷ cs) h = absurd (true≢false (sym h))

-- an attribute without prefix and namespace is emitted with its name in lower case
prefix-none : (local : List ℕ) → attribute_prefix (record { prefix = None; ns = []; local = local }) ≡ []
unfolding known_namespace name_of
prefix-none local = refl

told-same : (a : Attribute) → is_plain_attribute a ≡ true → told_attribute a ≡ a
told-same a h =
    let p = and_parts (is_plain_name a.name.local && is_unprefixed a.name) (list_all is_plain_character a.value) h in
    let q = and_parts (is_plain_name a.name.local) (is_unprefixed a.name) p.0 in
    let u = and_parts (is_none a.name.prefix) (plain.is_empty a.name.ns) q.1 in
    let n = and_parts (not (plain.is_empty a.name.local)) (list_all is_name_character a.name.local) q.0 in
    let bare : a.name ≡ record { prefix = None; ns = []; local = a.name.local } =
    λ i. record { prefix = none-there a.name.prefix u.0 i; ns = empty-there a.name.ns u.1 i; local = a.name.local } in
    let name : lowered (attribute_prefix a.name ++ a.name.local) ≡ a.name.local =
    ap (λ (q : QualName). lowered (attribute_prefix q ++ a.name.local)) bare
    ∙ (ap (λ (t : List ℕ). lowered (t ++ a.name.local)) (prefix-none a.name.local) ∙ all-lowered a.name.local n.1) in
    let named : told_attribute a ≡ record { name = record { prefix = None; ns = []; local = a.name.local }; value = a.value } =
    ap (λ (local : List ℕ). record { name = record { prefix = None; ns = []; local = local }; value = a.value }) name in
    named ∙ ap (λ (q : QualName). record { name = q; value = a.value }) (sym bare)

all-told : (attributes : List Attribute) → list_all is_plain_attribute attributes ≡ true → map told_attribute attributes ≡ attributes
all-told [] h = refl
all-told (a ∷ rest) h =
    let p = and_parts (is_plain_attribute a) (list_all is_plain_attribute rest) h in
    ap₂ (λ (b : Attribute) (bs : List Attribute). b ∷ bs) (told-same a p.0) (all-told rest p.1)

pub attributes-same : (attributes : List Attribute) → are_plain_attributes attributes ≡ true → map told_attribute attributes ≡ attributes
attributes-same attributes h = all-told attributes (and_parts (list_all is_plain_attribute attributes) (are_distinct attributes) h).0

one-told : (a : Attribute) → is_plain_attribute a ≡ true → (is_attribute_name a.name.local && is_kept a.value) ≡ true
one-told a h =
    let p = and_parts (is_plain_name a.name.local && is_unprefixed a.name) (list_all is_plain_character a.value) h in
    and-so _ _ (name-told a.name.local (and_parts (is_plain_name a.name.local) (is_unprefixed a.name) p.0).0) (all-kept a.value p.1)

each-told : (attributes : List Attribute) → list_all is_plain_attribute attributes ≡ true
    → list_all (λ a. is_attribute_name a.name.local && is_kept a.value) attributes ≡ true
each-told [] h = refl
each-told (a ∷ rest) h =
    let p = and_parts (is_plain_attribute a) (list_all is_plain_attribute rest) h in
    and-so _ _ (one-told a p.0) (each-told rest p.1)

pub attributes-told : (attributes : List Attribute) → are_plain_attributes attributes ≡ true → are_told attributes ≡ true
attributes-told attributes h =
    let p = and_parts (list_all is_plain_attribute attributes) (are_distinct attributes) h in
    and-so _ _ (each-told attributes p.0) p.1

-- COMMENTS

-- what ends a comment begins with a hyphen
no-hyphen : (c d e : ℕ) (cs : List ℕ) → nat_eq c 45 ≡ false → comment_end (c ∷ d ∷ e ∷ cs) ≡ None
no-hyphen c d e [] h = rw h refl
no-hyphen c d e (f ∷ cs) h = rw h refl

not-hyphen : (c : ℕ) → is_comment_character c ≡ true → nat_eq c 45 ≡ false
not-hyphen c h = grind (arith, nat_tests)

no-end : (c : ℕ) (cs : List ℕ) → nat_eq c 45 ≡ false → is_none (comment_end ((c ∷ cs) ++ codes "-->")) ≡ true
no-end c [] h = ap is_none (no-hyphen c 45 45 (62 ∷ []) h)
no-end c (d ∷ []) h = ap is_none (no-hyphen c d 45 (45 ∷ 62 ∷ []) h)
no-end c (d ∷ e ∷ cs) h = ap is_none (no-hyphen c d e (cs ++ codes "-->") h)

none-ends : (text : List ℕ) → is_plain_comment text ≡ true → has_no_end text ≡ true
none-ends [] h = refl
none-ends (c ∷ cs) h =
    let p = and_parts (is_comment_character c) (is_plain_comment cs) h in
    and-so _ _ (no-end c cs (not-hyphen c p.0)) (none-ends cs p.1)

comment-character : (c : ℕ) → is_comment_character c ≡ true → (not (nat_eq c 0) && not (nat_eq c 13)) ≡ true
comment-character c h = grind (arith, nat_tests)

comment-kept : (text : List ℕ) → is_plain_comment text ≡ true → is_kept text ≡ true
comment-kept [] h = refl
comment-kept (c ∷ cs) h =
    let p = and_parts (is_comment_character c) (is_plain_comment cs) h in
    and-so _ _ (comment-character c p.0) (comment-kept cs p.1)

not-greater : (c : ℕ) → is_comment_character c ≡ true → nat_eq 62 c ≡ false
not-greater c h = grind (arith, nat_tests)

not-hyphen-first : (c : ℕ) → is_comment_character c ≡ true → nat_eq 45 c ≡ false
not-hyphen-first c h = grind (arith, nat_tests)

begins-well : (text : List ℕ) → is_plain_comment text ≡ true
    → not (begins (codes ">") (text ++ codes "-->") || begins (codes "->") (text ++ codes "-->")) ≡ true
begins-well [] h = refl
begins-well (c ∷ cs) h =
    let p = and_parts (is_comment_character c) (is_plain_comment cs) h in
    rw (not-greater c p.0, not-hyphen-first c p.0) refl

pub comment-text : (text : List ℕ) → is_plain_comment text ≡ true → is_comment_text text ≡ true
comment-text text h =
    and-so _ _ (and-so _ _ (comment-kept text h) (none-ends text h)) (begins-well text h)
