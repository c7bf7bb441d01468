-- Numbers tell names apart.
use Rattle.std.proofs.Common.{◌≡◌, ◌∙◌, ◌+◌, ◌<◌, ◌≤◌, ℕ, zero, suc, Bool, true, false, List, [], ◌∷◌, ◌++◌, length, Option, Some, None}
use Rattle.std.proofs.Common.{inl, inr, refl, ap, arith, subst, sym}
use Rattle.std.specs.Prelude.{◌&&◌, ◌==◌, cond, is_some, nat_eq, slice_index_or, unwrap_or}
use Rattle.std.specs.Str.{bytes_eq}
use Rattle.std.proofs.Math.ListN.{set}
use Rattle.std.specs.BTreeMap.{is_at}
use Rattle.std.specs.Cmp.Lexicographic.{pointwise, slice_cmp, texts_ties}
use Rattle.std.specs.Ordering.{is_eq, nat_cmp, ordering_then}
use Rattle.std.specs.declared.cmp.Ordering.{Ordering}
use Rattle.std.specs.declared.cmp.Ordering.TheVariants.{Less, Equal, Greater}
use Rattle.std.proofs.lemmas.Bool.{and_parts, cases_Bool, cases_eq, cases_lt, eq-eqb, ne_eqb}
use Rattle.std.proofs.lemmas.List.{get_or-set_other, get_or-set_same, get_or_append_left, get_or_past, get_or_push, length_push}
use Rattle.markup.specs.Equality.{texts_by_value}
use Rattle.markup.specs.Forest.{Forest, node_count}
use Rattle.markup.specs.KnownNames.{IsNameAt, names}
use Rattle.markup.specs.Namespaces.{name_of}
use Rattle.markup.specs.declared.names.QualName.{QualName}
use Rattle.markup.specs.declared.namespaces.KnownNamespace.TheVariants.{Html}
use Rattle.html_selector_matching.specs.Around.{is_element}
use Rattle.html_selector_matching.specs.Simples.{have_same_name}
use Rattle.html_selectors.specs.Kinds.{AreKinds, AreNotes, IsNoted, IsNumbered, Key, key_cmp, key_of, kind_at, name_at, same_key}
use Rattle.html_selectors.proofs.Steps.{no-element}

-- KEYS

eq-then : (x y : Ordering) → is_eq (ordering_then x y) ≡ (is_eq x && is_eq y)
eq-then Less y = refl
eq-then Equal y = refl
eq-then Greater y = refl

pub key-at : (a b : Key) → is_at (key_cmp a) b ≡ same_key a b
key-at a b =
    eq-then (slice_cmp nat_cmp a.0 b.0) (slice_cmp nat_cmp a.1 b.1)
    ∙ (ap (λ x. x && is_eq (slice_cmp nat_cmp a.1 b.1)) (sym (texts_ties a.0 b.0))
    ∙ ap (λ x. pointwise nat_eq a.0 b.0 && x) (sym (texts_ties a.1 b.1)))

key-is : (a b : Key) → same_key a b ≡ true → a ≡ b
key-is a b h =
    let parts = and_parts (pointwise nat_eq a.0 b.0) (pointwise nat_eq a.1 b.1) h in
    let first = (texts_by_value a.0 b.0).0 parts.0 in
    let second = (texts_by_value a.1 b.1).0 parts.1 in
    λ i. (first i, second i)

key-self : (a : Key) → same_key a a ≡ true
key-self a = ap (λ x. x && pointwise nat_eq a.1 a.1) ((texts_by_value a.0 a.0).1 refl) ∙ (texts_by_value a.1 a.1).1 refl

and-swap : (a b : Bool) → (a && b) ≡ (b && a)
and-swap true true = refl
and-swap true false = refl
and-swap false true = refl
and-swap false false = refl

key-names : (a b : QualName) → have_same_name (Some a) (Some b) ≡ same_key (key_of a) (key_of b)
key-names a b = and-swap (pointwise nat_eq a.ns b.ns) (pointwise nat_eq a.local b.local)

-- NUMBERING

-- a number is one more than that of an element before, whose name has that key
pub record Origin (f : Forest) (count : ℕ) (q : Key) (kind : ℕ) : Type 0 where
  pub node : ℕ
  pub low : node < count
  pub is : kind ≡ suc node
  pub name : QualName
  pub named : name_at f node ≡ Some name
  pub key : key_of name ≡ q

-- the names of the first nodes are numbered
pub record AreTold (f : Forest) (count : ℕ) (kinds : List ℕ) (look : Key → Option ℕ) : Type 0 where
  pub len : length kinds ≡ count
  pub told : (n : ℕ) → n < count → (name : QualName) → name_at f n ≡ Some name → look (key_of name) ≡ Some (kind_at kinds n)
  pub other : (n : ℕ) → name_at f n ≡ None → kind_at kinds n ≡ 0
  pub from : (q : Key) (kind : ℕ) → look q ≡ Some kind → Origin f count q kind

pub none-told : (f : Forest) (kinds : List ℕ) (look : Key → Option ℕ) → kinds ≡ [] → ((q : Key) → look q ≡ None) → AreTold f 0 kinds look
none-told f kinds look empty none = record {
  len = ap length empty;
  told = λ n low. absurd (omega (arith, low));
  other = λ n h. ap (λ (l : List ℕ). kind_at l n) empty;
  from = λ q kind h. absurd (let no = none q in cc);
}

some-same : {a b : ℕ} → Some a ≡ Some b → a ≡ b
some-same h = cc

same-names : {a b : QualName} → Some a ≡ Some b → a ≡ b
same-names h = cc

none-some : {a : ℕ} → None ≡ Some a → ⊥
none-some h = cc

no-name : {a : QualName} → None ≡ Some a → ⊥
no-name h = cc

later : (f : Forest) (count : ℕ) (q : Key) (kind : ℕ) → Origin f count q kind → Origin f (count + 1) q kind
later f count q kind o = record { node = o.node; low = omega (arith, o.low); is = o.is; name = o.name; named = o.named; key = o.key }

kind-before : (kinds : List ℕ) (kind n : ℕ) → n < length kinds → kind_at (kinds ++ kind ∷ []) n ≡ kind_at kinds n
kind-before kinds kind n low = get_or_append_left kinds (kind ∷ []) 0 n low

-- a node that is no element is numbered 0
push-other : (f : Forest) (count kind : ℕ) (kinds : List ℕ) (look look' : Key → Option ℕ) → AreTold f count kinds look
    → name_at f count ≡ None → kind ≡ 0 → ((q : Key) → look' q ≡ look q) → AreTold f (count + 1) (kinds ++ kind ∷ []) look'
push-other f count kind kinds look look' t none nil same = record {
  len = length_push kinds kind ∙ ap (λ k. k + 1) t.len;
  told = λ n low name named.
      elim (cases_lt n count) [
        | inl less ↦ same (key_of name) ∙ (t.told n less name named
            ∙ ap (λ k. Some k) (sym (kind-before kinds kind n (omega (arith, less, t.len)))))
        | inr past ↦ absurd (let e : n ≡ count = omega (arith, low, past) in no-name (sym none ∙ (ap (name_at f) (sym e) ∙ named)))
      ];
  other = λ n named. push-none kinds kind n count t.len (t.other n named) (λ e. nil);
  from = λ q k h. later f count q k (t.from q k (sym (same q) ∙ h));
}
  where
    push-none : (kinds : List ℕ) (kind n count : ℕ) → length kinds ≡ count → kind_at kinds n ≡ 0 → (n ≡ count → kind ≡ 0)
        → kind_at (kinds ++ kind ∷ []) n ≡ 0
    push-none kinds kind n count len before here =
        elim (cases_lt n count) [
          | inl less ↦ kind-before kinds kind n (omega (arith, less, len)) ∙ before
          | inr past ↦ elim (cases_lt count n) [
            | inl more ↦ get_or_past (kinds ++ kind ∷ []) n 0 (let l = length_push kinds kind in omega (arith, l, len, more))
            | inr not ↦ let e : n ≡ count = omega (arith, past, not) in
                get_or_push kinds kind 0 n (omega (arith, len, e)) ∙ here e
          ]
        ]

kind-new : (o : Option ℕ) (kind next k : ℕ) → kind ≡ unwrap_or o next → o ≡ Some k → kind ≡ k
kind-new o kind next k e h = e ∙ ap (λ (p : Option ℕ). unwrap_or p next) h

kind-next : (o : Option ℕ) (kind next : ℕ) → kind ≡ unwrap_or o next → o ≡ None → kind ≡ next
kind-next o kind next e h = e ∙ ap (λ (p : Option ℕ). unwrap_or p next) h

-- an element is numbered as the first of its name
push-element : (f : Forest) (count kind : ℕ) (kinds : List ℕ) (look look' : Key → Option ℕ) (name : QualName) → AreTold f count kinds look
    → name_at f count ≡ Some name → kind ≡ unwrap_or (look (key_of name)) (suc count)
    → ((q : Key) → look' q ≡ cond (same_key (key_of name) q) (Some kind) (look q)) → AreTold f (count + 1) (kinds ++ kind ∷ []) look'
push-element f count kind kinds look look' name t here number more = record {
  len = length_push kinds kind ∙ ap (λ k. k + 1) t.len;
  told = λ n low other named.
      elim (cases_lt n count) [
        | inl less ↦ told-before n less other named
        | inr past ↦ let e : n ≡ count = omega (arith, low, past) in
            let same : name ≡ other = same-names (sym here ∙ (ap (name_at f) (sym e) ∙ named)) in
            more (key_of other)
            ∙ (ap (λ b. cond b (Some kind) (look (key_of other)))
            (ap (λ (k : QualName). same_key (key_of k) (key_of other)) same ∙ key-self (key_of other))
            ∙ ap (λ k. Some k) (sym (get_or_push kinds kind 0 n (omega (arith, t.len, e)))))
      ];
  other = λ n none.
      elim (cases_lt n count) [
        | inl less ↦ kind-before kinds kind n (omega (arith, less, t.len)) ∙ t.other n none
        | inr past ↦ elim (cases_lt count n) [
          | inl above ↦ get_or_past (kinds ++ kind ∷ []) n 0
              (let l = length_push kinds kind in let len = t.len in omega (arith, l, len, above))
          | inr not ↦ absurd (let e : n ≡ count = omega (arith, past, not) in no-name (sym none ∙ (ap (name_at f) e ∙ here)))
        ]
      ];
  from = λ q k h.
      elim (cases_Bool (same_key (key_of name) q)) [
        | inl same ↦ new-from q k (some-same (sym (more q ∙ ap (λ b. cond b (Some kind) (look q)) same) ∙ h)) (key-is (key_of name) q same)
            (look (key_of name)) refl
        | inr differ ↦ later f count q k (t.from q k (sym (more q ∙ ap (λ b. cond b (Some kind) (look q)) differ) ∙ h))
      ];
}
  where
    told-before : (n : ℕ) → n < count → (other : QualName) → name_at f n ≡ Some other
        → look' (key_of other) ≡ Some (kind_at (kinds ++ kind ∷ []) n)
    told-before n less other named =
        let before = t.told n less other named in
        let stays = ap (λ k. Some k) (sym (kind-before kinds kind n (let len = t.len in omega (arith, less, len)))) in
        elim (cases_Bool (same_key (key_of name) (key_of other))) [
          | inl same ↦
              let old : look (key_of name) ≡ Some (kind_at kinds n) = ap look (key-is (key_of name) (key_of other) same) ∙ before in
              more (key_of other) ∙ (ap (λ b. cond b (Some kind) (look (key_of other))) same
              ∙ (ap (λ k. Some k) (kind-new (look (key_of name)) kind (suc count) (kind_at kinds n) number old) ∙ stays))
          | inr differ ↦ more (key_of other) ∙ (ap (λ b. cond b (Some kind) (look (key_of other))) differ ∙ (before ∙ stays))
        ]

    new-from : (q : Key) (k : ℕ) → kind ≡ k → key_of name ≡ q → (o : Option ℕ) → look (key_of name) ≡ o → Origin f (count + 1) q k
    new-from q k e key None none = record {
      node = count;
      low = omega arith;
      is = sym e ∙ kind-next (look (key_of name)) kind (suc count) number none;
      name = name;
      named = here;
      key = key;
    }
    new-from q k e key (Some j) some =
        let old = t.from (key_of name) j some in
        let same : k ≡ j = sym e ∙ kind-new (look (key_of name)) kind (suc count) j number some in
        record {
          node = old.node;
          low = omega (arith, old.low);
          is = same ∙ old.is;
          name = old.name;
          named = old.named;
          key = old.key ∙ key;
        }

pub push-told : (f : Forest) (count kind : ℕ) (kinds : List ℕ) (look look' : Key → Option ℕ) → AreTold f count kinds look
    → IsNumbered (name_at f count) count kind look look' → AreTold f (count + 1) (kinds ++ kind ∷ []) look'
push-told f count kind kinds look look' t n = by (name_at f count) refl n
  where
    by : (o : Option QualName) → name_at f count ≡ o → IsNumbered o count kind look look' → AreTold f (count + 1) (kinds ++ kind ∷ []) look'
    by None e n = push-other f count kind kinds look look' t e n.0 n.1
    by (Some name) e n = push-element f count kind kinds look look' name t e n.0 n.1

-- NOTES

-- what was noted stays when one more is numbered
pub notes-kept : (notes : List ℕ) (look look' : Key → Option ℕ) (key : Key) (number next : ℕ) → AreNotes notes look
    → number ≡ unwrap_or (look key) next → ((q : Key) → look' q ≡ cond (same_key key q) (Some number) (look q)) → AreNotes notes look'
notes-kept notes look look' key number next are is more place name there = by (slice_index_or notes place 0) (are place name there)
  where
    by : (k : ℕ) → IsNoted k (look (name, name_of Html)) → IsNoted k (look' (name, name_of Html))
    by zero h = tt
    by (suc k) h =
        elim (cases_Bool (same_key key (name, name_of Html))) [
          | inl same ↦ more (name, name_of Html)
              ∙ (ap (λ b. cond b (Some number) (look (name, name_of Html))) same
              ∙ ap (λ j. Some j) (kind-new (look key) number next (suc k) is (ap look (key-is key (name, name_of Html) same) ∙ h)))
          | inr differ ↦ more (name, name_of Html) ∙ (ap (λ b. cond b (Some number) (look (name, name_of Html))) differ ∙ h)
        ]

noted-is : (k : ℕ) (o : Option ℕ) → o ≡ Some k → IsNoted k o
noted-is zero o h = tt
noted-is (suc k) o h = h

-- one more is noted
pub notes-more : (notes : List ℕ) (look : Key → Option ℕ) (name : QualName) (place number : ℕ) → AreNotes notes look
    → IsNameAt place name.local → bytes_eq name.ns (name_of Html) ≡ true → place < length notes → look (key_of name) ≡ Some number
    → AreNotes (set notes place number) look
notes-more notes look name place number are there html low is other local at-other =
    elim (cases_eq other place) [
      | inl same ↦
          let locals : local ≡ name.local = sym at-other.there ∙ (ap (λ k. slice_index_or names k []) same ∙ there.there) in
          subst (λ k. IsNoted k (look (local, name_of Html)))
          (sym (ap (λ k. slice_index_or (set notes place number) k 0) same ∙ get_or-set_same notes place number 0 low))
          (noted-is number (look (local, name_of Html))
          (ap look (λ i. (locals i, sym ((texts_by_value name.ns (name_of Html)).0 html) i)) ∙ is))
      | inr apart ↦ subst (λ k. IsNoted k (look (local, name_of Html))) (sym (get_or-set_other notes place other number 0 apart))
          (are other local at-other)
    ]

-- a number that was noted is that of the name
pub noted-told : (notes : List ℕ) (look : Key → Option ℕ) (name : QualName) (place number : ℕ) → AreNotes notes look
    → IsNameAt place name.local → bytes_eq name.ns (name_of Html) ≡ true → number ≡ slice_index_or notes place 0
    → IsNoted number (look (key_of name))
noted-told notes look name place number are there html is =
    subst (λ k. IsNoted k (look (key_of name))) (sym is)
    (subst (λ (q : Key). IsNoted (slice_index_or notes place 0) (look q))
    (λ i. (name.local, sym ((texts_by_value name.ns (name_of Html)).0 html) i)) (are place name.local there))

noted-some : (number : ℕ) (o : Option ℕ) → IsNoted number o → 0 < number → o ≡ Some number
noted-some zero o h some = absurd (omega (arith, some))
noted-some (suc k) o h some = h

-- so it is not written down again
pub noted-number : (look : Key → Option ℕ) (key : Key) (number next : ℕ) → IsNoted number (look key) → 0 < number
    → number ≡ unwrap_or (look key) next
noted-number look key number next h some = sym (ap (λ (o : Option ℕ). unwrap_or o next) (noted-some number (look key) h some))

pub noted-table : (look : Key → Option ℕ) (key : Key) (number : ℕ) → IsNoted number (look key) → 0 < number
    → (q : Key) → look q ≡ cond (same_key key q) (Some number) (look q)
noted-table look key number h some q =
    elim (cases_Bool (same_key key q)) [
      | inl same ↦ ap look (sym (key-is key q same)) ∙ (noted-some number (look key) h some
          ∙ sym (ap (λ b. cond b (Some number) (look q)) same))
      | inr differ ↦ sym (ap (λ b. cond b (Some number) (look q)) differ)
    ]

-- the number that was just written down is found
pub table-self : (look' : Key → Option ℕ) (key : Key) (number : ℕ) (old : Option ℕ)
    → look' key ≡ cond (same_key key key) (Some number) old → look' key ≡ Some number
table-self look' key number old h = h ∙ ap (λ b. cond b (Some number) old) (key-self key)

-- WHAT NUMBERS TELL

some-name : (o : Option QualName) → is_some o ≡ true → (name : QualName) × (o ≡ Some name)
some-name None h = absurd (cc)
some-name (Some name) h = (name, refl)

node-low : (f : Forest) (n : ℕ) (name : QualName) → name_at f n ≡ Some name → n < node_count f
node-low f n name named =
    elim (cases_lt n (node_count f)) [
      | inl low ↦ low
      | inr past ↦ absurd (let none = no-element f n past in let some : is_element f n ≡ true = ap is_some named in cc)
    ]

pub kinds-told : (f : Forest) (kinds : List ℕ) (look : Key → Option ℕ) → AreTold f (node_count f) kinds look → AreKinds f kinds
kinds-told f kinds look t m n element = by (some-name (name_at f m) element)
  where
    two : (one other : QualName) → name_at f m ≡ Some one → name_at f n ≡ Some other
        → (kind_at kinds m == kind_at kinds n) ≡ have_same_name (Some one) (Some other)
    two one other e e' =
        let told = t.told m (node-low f m one e) one e in
        let told' = t.told n (node-low f n other e') other e' in
        elim (cases_Bool (same_key (key_of one) (key_of other))) [
          | inl same ↦ eq-eqb (kind_at kinds m) (kind_at kinds n)
              (some-same (sym told ∙ (ap look (key-is (key_of one) (key_of other) same) ∙ told'))) ∙ sym (key-names one other ∙ same)
          | inr differ ↦ ne_eqb (kind_at kinds m) (kind_at kinds n) (λ kinds-same. absurd (
              let a = t.from (key_of one) (kind_at kinds m) told in
              let b = t.from (key_of other) (kind_at kinds n) told' in
              let nodes : a.node ≡ b.node = omega (arith, a.is, b.is, kinds-same) in
              let names : a.name ≡ b.name = same-names (sym a.named ∙ (ap (name_at f) nodes ∙ b.named)) in
              let keys : key_of one ≡ key_of other = sym a.key ∙ (ap key_of names ∙ b.key) in
              let yes : same_key (key_of one) (key_of other) ≡ true =
              subst (λ (k : Key). same_key (key_of one) k ≡ true) keys (key-self (key_of one)) in cc)) ∙ sym (key-names one other ∙ differ)
        ]

    other-none : (one : QualName) → name_at f m ≡ Some one → name_at f n ≡ None → (kind_at kinds m == kind_at kinds n) ≡ false
    other-none one e none =
        let a = t.from (key_of one) (kind_at kinds m) (t.told m (node-low f m one e) one e) in
        let nil = t.other n none in
        ne_eqb (kind_at kinds m) (kind_at kinds n) (λ same. absurd (omega (arith, a.is, nil, same)))

    sides : (one : QualName) → name_at f m ≡ Some one → (o : Option QualName) → name_at f n ≡ o
        → (kind_at kinds m == kind_at kinds n) ≡ have_same_name (name_at f m) o
    sides one e None none = other-none one e none ∙ sym (ap (λ (p : Option QualName). have_same_name p None) e)
    sides one e (Some other) e' = two one other e e' ∙ sym (ap (λ (p : Option QualName). have_same_name p (Some other)) e)

    by : (name : QualName) × (name_at f m ≡ Some name) → (kind_at kinds m == kind_at kinds n) ≡ have_same_name (name_at f m) (name_at f n)
    by named = sides named.0 named.1 (name_at f n) refl

pub kinds-small : (f : Forest) (kinds : List ℕ) (look : Key → Option ℕ) → AreTold f (node_count f) kinds look
    → (n : ℕ) → kind_at kinds n ≤ node_count f
kinds-small f kinds look t n = by (name_at f n) refl
  where
    by : (o : Option QualName) → name_at f n ≡ o → kind_at kinds n ≤ node_count f
    by None none = let nil = t.other n none in omega (arith, nil)
    by (Some name) named =
        let a = t.from (key_of name) (kind_at kinds n) (t.told n (node-low f n name named) name named) in
        let low = a.low in
        let is = a.is in
        omega (arith, low, is)
