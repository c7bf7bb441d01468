-- Names without a namespace, and distinct names.
use Rattle.std.proofs.Common.{◌≡◌, ◌∙◌, ℕ, Bool, true, false, cond, List, [], ◌∷◌, ◌++◌, refl, sym, ap, true≢false}
use Rattle.std.proofs.Common.{append_assoc, suc, ◌+◌, ◌<◌, length, take, drop, get_or, arith}
use Rattle.std.proofs.Math.Seq.{take-suc, drop-cons}
use Rattle.std.proofs.lemmas.List.{take-append-drop}
use Rattle.std.specs.Prelude.{◌||◌, ◌&&◌, not, Option, Some, None, is_some, is_none}
use Rattle.std.specs.BTreeMap.{is_at}
use Rattle.std.specs.BTreeSet as tree
use Rattle.std.specs.Cmp.Lexicographic.{slice_cmp, nat_list_eq_equiv, texts_ties}
use Rattle.std.specs.Ordering.{nat_cmp}
use Rattle.std.specs.Str.{bytes_eq}
use Rattle.std.proofs.Math.Bool.{or-false}
use Rattle.std.proofs.lemmas.Bool.{and_parts, not-true, or_parts}
use Rattle.std.proofs.lemmas.List.Folds.{list_any-append}
use Rattle.markup.specs.Namespaces.{name_of}
use Rattle.markup.specs.declared.attributes.Attribute.{Attribute}
use Rattle.markup.specs.declared.namespaces.KnownNamespace.TheVariants.{NoNamespace}
use Rattle.html_plain.specs.Grammar.{are_distinct, has_local_name, is_empty}

-- no namespace is the empty text
pub none-empty : (t : List ℕ) → bytes_eq t (name_of NoNamespace) ≡ is_empty t
unfolding name_of
none-empty [] = refl
none-empty (c ∷ t) = refl

-- DISTINCT NAMES

abbrev has_name : tree.BTreeSet (List ℕ) → List ℕ → Bool
has_name names name = tree.contains (slice_cmp nat_cmp) names name

-- a set has the local names of attributes
pub record HasNames (names : tree.BTreeSet (List ℕ)) (attributes : List Attribute) : Type 0 where
  pub each : (name : List ℕ) → has_name names name ≡ has_local_name name attributes

pub HasNames-none : (names : tree.BTreeSet (List ℕ)) → names.keys ≡ [] → HasNames names []
HasNames-none names e = record { each = λ name. rw e refl }

cond-or : (b x : Bool) → cond b true x ≡ (x || b)
cond-or true true = refl
cond-or true false = refl
cond-or false true = refl
cond-or false false = refl

among-more : (name : List ℕ) (attributes : List Attribute) (a : Attribute) → has_local_name name
    (attributes ++ a ∷ []) ≡ (has_local_name name attributes || bytes_eq name a.name.local)
among-more name attributes a =
    list_any-append (λ x. bytes_eq name x.name.local) attributes (a ∷ [])
    ∙ ap (λ b. has_local_name name attributes || b) (or-false (bytes_eq name a.name.local))

-- a set with the name of one more
pub HasNames-more : (old new : tree.BTreeSet (List ℕ)) (key : List ℕ) (attributes : List Attribute) (a : Attribute)
    → key ≡ a.name.local → HasNames old attributes
    → ((other : List ℕ) → has_name new other ≡ cond (is_at (slice_cmp nat_cmp key) other) true (has_name old other))
    → HasNames new (attributes ++ a ∷ [])
HasNames-more old new key attributes a e h more = record {
  each = λ name.
      more name ∙ (cond-or (is_at (slice_cmp nat_cmp key) name) (has_name old name)
      ∙ (ap (λ b. b || is_at (slice_cmp nat_cmp key) name) (h.each name)
      ∙ (ap (λ b. has_local_name name attributes || b)
      (sym (texts_ties key name) ∙ (nat_list_eq_equiv.symm key name ∙ ap (bytes_eq name) e))
      ∙ sym (among-more name attributes a))));
}

distinct_by : (h e d g : Bool) → (not (h || e) && (d && not g)) ≡ ((not h && d) && not (e || g))
distinct_by true e d g = refl
distinct_by false true true g = refl
distinct_by false true false g = refl
distinct_by false false d g = refl

-- attributes with one more are distinct where those before are, and the one's name is none of theirs
pub distinct-more : (attributes : List Attribute) (a : Attribute) → are_distinct (attributes ++ a ∷ []) ≡
    (are_distinct attributes && not (has_local_name a.name.local attributes))
distinct-more [] a = refl
distinct-more (x ∷ attributes) a =
    ap (λ b. not b && are_distinct (attributes ++ a ∷ [])) (among-more x.name.local attributes a)
    ∙ (ap (λ b. not (has_local_name x.name.local attributes || bytes_eq x.name.local a.name.local) && b) (distinct-more attributes a)
    ∙ (distinct_by (has_local_name x.name.local attributes) (bytes_eq x.name.local a.name.local)
    (are_distinct attributes) (has_local_name a.name.local attributes)
    ∙ ap (λ b. (not (has_local_name x.name.local attributes) && are_distinct attributes)
    && not (b || has_local_name a.name.local attributes)) (nat_list_eq_equiv.symm x.name.local a.name.local)))

among-front : (name : List ℕ) (front rest : List Attribute) → has_local_name name (front ++ rest) ≡ false
    → has_local_name name front ≡ false
among-front name front rest h =
    (or_parts (has_local_name name front) (has_local_name name rest)
    (sym (list_any-append (λ x. bytes_eq name x.name.local) front rest) ∙ h)).0

-- of distinct attributes those in front are distinct
pub distinct-front : (front rest : List Attribute) → are_distinct (front ++ rest) ≡ true → are_distinct front ≡ true
distinct-front [] rest h = refl
distinct-front (x ∷ front) rest h =
    let p = and_parts (not (has_local_name x.name.local (front ++ rest))) (are_distinct (front ++ rest)) h in
    rw (among-front x.name.local front rest (not-true (has_local_name x.name.local (front ++ rest)) p.0)) (distinct-front front rest p.1)

true-or-false : (b : Bool) → (b ≡ true → ⊥) → b ≡ false
true-or-false true h = absurd (h refl)
true-or-false false h = refl

-- attributes are not distinct where one's name is among those before it
pub repeated : (front : List Attribute) (a : Attribute) (rest : List Attribute)
    → has_local_name a.name.local front ≡ true → are_distinct (front ++ a ∷ rest) ≡ false
repeated front a rest h =
    true-or-false (are_distinct (front ++ a ∷ rest)) (λ distinct.
    let whole : are_distinct ((front ++ a ∷ []) ++ rest) ≡ true = ap are_distinct (append_assoc front (a ∷ []) rest) ∙ distinct in
    let more : (are_distinct front && not (has_local_name a.name.local front)) ≡ true = sym (distinct-more front a)
    ∙ distinct-front (front ++ a ∷ []) rest whole in
    true≢false (sym h ∙ not-true (has_local_name a.name.local front)
    (and_parts (are_distinct front) (not (has_local_name a.name.local front)) more).1))

-- a test after that of a prefix which is not there
pub prefixed : {A : Type 0} (o : Option A) (b d n : Bool) → is_some o ≡ not n → n ≡ true → b ≡ d → b ≡ (is_none o && d)
prefixed None b d n e h k = k
prefixed (Some x) b d true e h k = absurd cc
prefixed (Some x) b d false e h k = absurd cc

-- whether a key that was put into a set was new to it
new-by : (b old : Bool) → b ≡ not old → b ≡ true → old ≡ false
new-by b true e h = absurd cc
new-by b false e h = refl

old-by : (b old : Bool) → b ≡ not old → b ≡ false → old ≡ true
old-by b true e h = refl
old-by b false e h = absurd cc

-- a name that was new to a set of names is none of those
pub new-name : (names : tree.BTreeSet (List ℕ)) (key : List ℕ) (front : List Attribute) (a : Attribute) (b : Bool)
    → key ≡ a.name.local → HasNames names front → b ≡ not (tree.contains (slice_cmp nat_cmp) names key) → b ≡ true
    → has_local_name a.name.local front ≡ false
new-name names key front a b e h added is = sym (h.each a.name.local) ∙ (ap (has_name names) (sym e) ∙ new-by b _ added is)

-- and one that was not is
pub old-name : (names : tree.BTreeSet (List ℕ)) (key : List ℕ) (front : List Attribute) (a : Attribute) (b : Bool)
    → key ≡ a.name.local → HasNames names front → b ≡ not (tree.contains (slice_cmp nat_cmp) names key) → b ≡ false
    → has_local_name a.name.local front ≡ true
old-name names key front a b e h added is = sym (h.each a.name.local) ∙ (ap (has_name names) (sym e) ∙ old-by b _ added is)

-- attributes, cut at one of them
pub split-at : (l : List Attribute) (i : ℕ) (x : Attribute) → i < length l → get_or l i x ≡ x → l ≡ take i l ++ x ∷ drop (i + 1) l
split-at l i x lt e =
    let next : i + 1 ≡ suc i = omega arith in
    sym (take-append-drop i l) ∙ ap (λ t. take i l ++ t)
    (drop-cons l i x lt ∙ (ap (λ y. y ∷ drop (suc i) l) e ∙ ap (λ n. x ∷ drop n l) (sym next)))

pub take-at : (l : List Attribute) (i : ℕ) (x : Attribute) → i < length l → get_or l i x ≡ x → take (i + 1) l ≡ take i l ++ x ∷ []
take-at l i x lt e =
    let next : i + 1 ≡ suc i = omega arith in
    ap (λ n. take n l) next ∙ (take-suc l i x lt ∙ ap (λ y. take i l ++ y ∷ []) e)
