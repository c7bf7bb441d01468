-- Of attributes with distinct local names one at most has a given one.
use Rattle.std.proofs.Common.{◌≡◌, ◌∙◌, ℕ, ◌+◌, Bool, true, false, cond, nat_eq, List, [], ◌∷◌, Option, Some, None, refl, sym}
use Rattle.std.proofs.Common.{ap, ap₂, subst, true≢false}
use Rattle.std.specs.Prelude.{◌||◌, ◌&&◌, not}
use Rattle.std.specs.Cmp.Lexicographic.{nat_list_eq_equiv}
use Rattle.std.specs.List.{find, list_any, list_all}
use Rattle.std.specs.Str.{bytes_eq}
use Rattle.std.proofs.Math.Bool.{or-false}
use Rattle.std.proofs.lemmas.Bool.{and_parts}
use Rattle.std.proofs.lemmas.List.Recursion.{is_count_by}
use Rattle.markup.specs.declared.attributes.Attribute.{Attribute}
use Rattle.markup.specs.declared.names.QualName.{QualName}
use Rattle.markup.specs.Attributes.{are_distinct, has_local_name, count_of, have_same_counts}
use Rattle.markup.specs.Equality.{attribute_eq, attributes_by_value, names_by_value, texts_by_value}
use Rattle.markup.specs.Names.{has_attribute, same_name}

-- whether what was found passes
abbrev pub passes : (Attribute → Bool) → Option Attribute → Bool
passes p None = false
passes p (Some attribute) = p attribute

-- a test that only attributes with that local name pass
abbrev pub Names : List ℕ → (Attribute → Bool) → Type 0
Names name p = (attribute : Attribute) → p attribute ≡ true → bytes_eq name attribute.name.local ≡ true

fails_by : (b : Bool) → (b ≡ true → true ≡ false) → b ≡ false
fails_by true h = h refl
fails_by false h = refl

or_parts : (a b : Bool) → (a || b) ≡ false → (a ≡ false) × (b ≡ false)
or_parts true b e = absurd (true≢false e)
or_parts false b e = (refl, e)

not_true : (b : Bool) → not b ≡ true → b ≡ false
not_true true e = absurd (true≢false (sym e))
not_true false e = refl

none_passes : (name : List ℕ) (p : Attribute → Bool) → Names name p → (l : List Attribute)
    → has_local_name name l ≡ false → list_any p l ≡ false
none_passes name p names [] e = refl
none_passes name p names (a ∷ rest) e =
    let parts = or_parts (bytes_eq name a.name.local) (has_local_name name rest) e in
    ap₂ (λ x y. x || y) (fails_by (p a) (λ is. sym (names a is) ∙ parts.0)) (none_passes name p names rest parts.1)

only_by : (name : List ℕ) (p : Attribute → Bool) → Names name p → (a : Attribute) (rest : List Attribute)
    → not (has_local_name a.name.local rest) ≡ true → list_any p rest ≡ passes p
    (find (λ b. bytes_eq name b.name.local) rest) → (b : Bool) → bytes_eq name a.name.local ≡ b
    → (p a || list_any p rest) ≡ passes p (cond b (Some a) (find (λ b. bytes_eq name b.name.local) rest))
only_by name p names a rest new go true e =
    let others : has_local_name name rest ≡ false = ap (λ n. has_local_name n rest)
    ((texts_by_value name a.name.local).0 e) ∙ not_true _ new in
    ap (λ b. p a || b) (none_passes name p names rest others) ∙ or-false (p a)
only_by name p names a rest new go false e = ap (λ b. b || list_any p rest) (fails_by (p a) (λ is. sym (names a is) ∙ e)) ∙ go

-- whether one passes is whether the first with that local name does
pub any-only : (name : List ℕ) (p : Attribute → Bool) → Names name p → (l : List Attribute) → are_distinct l ≡ true
    → list_any p l ≡ passes p (find (λ b. bytes_eq name b.name.local) l)
any-only name p names [] e = refl
any-only name p names (a ∷ rest) e =
    let parts = and_parts (not (has_local_name a.name.local rest)) (are_distinct rest) e in
    only_by name p names a rest parts.0 (any-only name p names rest parts.1) (bytes_eq name a.name.local) refl

attribute-names : (attribute : Attribute) → Names attribute.name.local (attribute_eq attribute)
attribute-names attribute other e =
    subst (λ a. bytes_eq attribute.name.local a.name.local ≡ true) ((attributes_by_value attribute other).0 e)
    (nat_list_eq_equiv.refl attribute.name.local)

name-names : (name : QualName) → Names name.local (λ attribute. same_name attribute.name name)
name-names name other e =
    subst (λ n. bytes_eq n.local other.name.local ≡ true) ((names_by_value other.name name).0 e) (nat_list_eq_equiv.refl other.name.local)

-- a name is there just where the first with its local name has it
pub has-first : (name : QualName) (l : List Attribute) → are_distinct l ≡ true → has_attribute name l ≡ passes
    (λ attribute. same_name attribute.name name) (find (λ b. bytes_eq name.local b.name.local) l)
has-first name l e = any-only name.local (λ attribute. same_name attribute.name name) (name-names name) l e

-- an attribute is there just where it is the first with its local name
pub contains-first : (attribute : Attribute) (l : List Attribute) → are_distinct l ≡ true
    → list_any (attribute_eq attribute) l ≡ passes (attribute_eq attribute) (find (λ b. bytes_eq attribute.name.local b.name.local) l)
contains-first attribute l e = any-only attribute.name.local (attribute_eq attribute) (attribute-names attribute) l e

times : Attribute → List Attribute → ℕ
times a [] = 0
times a (b ∷ l) = cond (attribute_eq a b) (1 + times a l) (times a l)

times-is : (a : Attribute) (l : List Attribute) → times a l ≡ count_of a l
unfolding times
times-is a l = is_count_by (times a) (attribute_eq a) refl (λ b l. refl) l

once_by : (a b : Attribute) (l : List Attribute) → not (has_local_name b.name.local l) ≡ true
    → times a l ≡ cond (list_any (attribute_eq a) l) 1 0 → (e : Bool) → attribute_eq a b ≡ e
    → cond e (1 + times a l) (times a l) ≡ cond (e || list_any (attribute_eq a) l) 1 0
once_by a b l new go true e =
    let others : has_local_name a.name.local l ≡ false = ap (λ n. has_local_name n l)
    ((texts_by_value a.name.local b.name.local).0 (attribute-names a b e)) ∙ not_true _ new in
    ap (λ n. 1 + n) (go ∙ ap (λ b. cond b 1 0) (none_passes a.name.local (attribute_eq a) (attribute-names a) l others))
once_by a b l new go false e = go

-- an attribute is there once or not at all
once : (a : Attribute) (l : List Attribute) → are_distinct l ≡ true → times a l ≡ cond (list_any (attribute_eq a) l) 1 0
unfolding times
once a [] e = refl
once a (b ∷ l) e =
    let parts = and_parts (not (has_local_name b.name.local l)) (are_distinct l) e in
    once_by a b l parts.0 (once a l parts.1) (attribute_eq a b) refl

or-true : (b : Bool) → (b || true) ≡ true
or-true true = refl
or-true false = refl

-- two tests that agree on a list's elements agree on the list
all-same : (p q : Attribute → Bool) (l : List Attribute)
    → ((a : Attribute) → list_any (attribute_eq a) l ≡ true → p a ≡ q a) → list_all p l ≡ list_all q l
all-same p q [] h = refl
all-same p q (x ∷ l) h =
    ap₂ (λ b c. b && c) (h x (ap (λ b. b || list_any (attribute_eq x) l) ((attributes_by_value x x).1 refl)))
    (all-same p q l (λ a is. h a (ap (λ b. attribute_eq a x || b) is ∙ or-true (attribute_eq a x))))

one_is : (b : Bool) → nat_eq 1 (cond b 1 0) ≡ b
one_is true = refl
one_is false = refl

-- of lists with distinct local names, being as often is being there
pub same_counts-distinct : (first second : List Attribute) → are_distinct first ≡ true → are_distinct second ≡ true
    → have_same_counts first second ≡ list_all (λ a. list_any (attribute_eq a) second) first
same_counts-distinct first second d e =
    all-same _ (λ a. list_any (attribute_eq a) second) first (λ a is.
    ap₂ nat_eq (sym (times-is a first) ∙ (once a first d ∙ ap (λ b. cond b 1 0) is)) (sym (times-is a second) ∙ once a second e)
    ∙ one_is (list_any (attribute_eq a) second))
