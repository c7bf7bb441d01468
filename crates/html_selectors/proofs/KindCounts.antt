-- Places among those of a kind that are written down child by child.
use Rattle.std.proofs.Common.{◌≡◌, ◌∙◌, ◌+◌, ◌-◌, ◌<◌, ◌≤◌, ℕ, suc, Bool, true, false, List, ◌∷◌, length, Option, Some, None}
use Rattle.std.proofs.Common.{inl, inr, refl, ap, arith, sym}
use Rattle.std.proofs.Math.ListN.{set}
use Rattle.std.specs.Prelude.{◌==◌, cond, filter, is_some}
use Rattle.std.proofs.lemmas.Bool.{cases_eq, eq-eqb, ne_eqb}
use Rattle.std.proofs.lemmas.List.{get_or-set_other, get_or-set_same}
use Rattle.markup.specs.Forest.{Forest, IsDistinct, IsForest, children_of, is_among, parent_of, those_before}
use Rattle.markup.specs.declared.names.QualName.{QualName}
use Rattle.html_selector_matching.specs.Around.{children_under, is_element, those_after}
use Rattle.html_selector_matching.specs.Simples.{counts, have_same_name, nodes_beside, place_of}
use Rattle.html_selectors.specs.Columns.{place_at}
use Rattle.html_selectors.specs.Kinds.{AreKinds, count_at, count_kind, kind_at, name_at}
use Rattle.html_selectors.proofs.Counts.{count-few, count-next, entered, entered-more}

pub kind-next : (kind : ℕ → ℕ) (k m : ℕ) (ns : List ℕ) → count_kind kind k (m ∷ ns) ≡ cond (k == kind m) 1 0 + count_kind kind k ns
kind-next kind k m ns = count-next (λ j. k == kind j) m ns

pub kind-few : (kind : ℕ → ℕ) (k : ℕ) (ns : List ℕ) → count_kind kind k ns ≤ length ns
kind-few kind k ns = count-few (λ j. k == kind j) ns

-- UP

up-at : (tallies : List ℕ) (kind k : ℕ) → kind < length tallies
    → count_at (set tallies kind (count_at tallies kind + 1)) k ≡ cond (k == kind) 1 0 + count_at tallies k
up-at tallies kind k there =
    elim (cases_eq k kind) [
      | inl same ↦ rw (same, eq-eqb kind kind refl, get_or-set_same tallies kind (count_at tallies kind + 1) 0 there) (omega arith)
      | inr other ↦ rw (ne_eqb k kind other, get_or-set_other tallies kind k (count_at tallies kind + 1) 0 other) (omega arith)
    ]

pub up-count : (kind : ℕ → ℕ) (tallies : List ℕ) (m : ℕ) (ns : List ℕ) (whole : ℕ → ℕ) → kind m < length tallies
    → ((k : ℕ) → count_at tallies k + count_kind kind k (m ∷ ns) ≡ whole k) → (k : ℕ)
    → count_at (set tallies (kind m) (count_at tallies (kind m) + 1)) k + count_kind kind k ns ≡ whole k
up-count kind tallies m ns whole there h k =
    let at = up-at tallies (kind m) k there in
    let next = kind-next kind k m ns in
    let before = h k in
    omega (arith, at, next, before)

abbrev up_place : (ℕ → ℕ) → List ℕ → List ℕ → List ℕ → ℕ → ℕ
up_place kind tallies ns places n =
    cond (is_among n ns) (count_at tallies (kind n) + suc (count_kind kind (kind n) (those_before n ns))) (place_at places n)

pub up-step : (kind : ℕ → ℕ) (tallies : List ℕ) (m : ℕ) (ns places : List ℕ) → IsDistinct (m ∷ ns) → kind m < length tallies
    → m < length places → (n : ℕ)
    → up_place kind (set tallies (kind m) (count_at tallies (kind m) + 1)) ns (set places m (count_at tallies (kind m) + 1)) n
    ≡ up_place kind tallies (m ∷ ns) places n
up-step kind tallies m ns places once there low n =
    elim (cases_eq n m) [
      | inl same ↦ rw (same, once.0, eq-eqb m m refl, get_or-set_same places m (count_at tallies (kind m) + 1) 1 low) refl
      | inr other ↦ rw (
        ne_eqb n m other,
        ne_eqb m n (λ e. other (sym e)),
        get_or-set_other places m n (count_at tallies (kind m) + 1) 1 other,
      )
          (ap (λ k. cond (is_among n ns) k (place_at places n))
          (let at = up-at tallies (kind m) (kind n) there in
          let next = kind-next kind (kind n) m (those_before n ns) in omega (arith, at, next)))
    ]

-- DOWN

down-at : (tallies : List ℕ) (kind k place : ℕ) → kind < length tallies
    → count_at (set tallies kind place) k ≡ cond (k == kind) place (count_at tallies k)
down-at tallies kind k place there =
    elim (cases_eq k kind) [
      | inl same ↦ rw (same, eq-eqb kind kind refl) (get_or-set_same tallies kind place 0 there)
      | inr other ↦ rw (ne_eqb k kind other) (get_or-set_other tallies kind k place 0 other)
    ]

pub down-count : (kind : ℕ → ℕ) (tallies : List ℕ) (m : ℕ) (ns : List ℕ) → kind m < length tallies
    → ((k : ℕ) → count_at tallies k ≡ count_kind kind k (m ∷ ns)) → (k : ℕ)
    → count_at (set tallies (kind m) (count_at tallies (kind m) - 1)) k ≡ count_kind kind k ns
down-count kind tallies m ns there h k =
    let at = down-at tallies (kind m) k (count_at tallies (kind m) - 1) there in
    elim (cases_eq k (kind m)) [
      | inl same ↦
          let here = h (kind m) in
          let next = kind-next kind (kind m) m ns in
          let one = ap {B = ℕ} (λ b. cond b 1 0) (eq-eqb (kind m) (kind m) refl) in
          let value : count_at tallies (kind m) - 1 ≡ count_kind kind (kind m) ns = omega (arith, here, next, one) in
          at ∙ (ap (λ b. cond b (count_at tallies (kind m) - 1) (count_at tallies k)) (eq-eqb k (kind m) same)
          ∙ (value ∙ ap (λ j. count_kind kind j ns) (sym same)))
      | inr other ↦
          let here = h k in
          let next = kind-next kind k m ns in
          let none = ap {B = ℕ} (λ b. cond b 1 0) (ne_eqb k (kind m) other) in
          at ∙ (ap (λ b. cond b (count_at tallies (kind m) - 1) (count_at tallies k)) (ne_eqb k (kind m) other)
          ∙ omega (arith, here, next, none))
    ]

abbrev down_place : (ℕ → ℕ) → List ℕ → List ℕ → ℕ → ℕ
down_place kind ns places n = cond (is_among n ns) (suc (count_kind kind (kind n) (those_after n ns))) (place_at places n)

pub down-step : (kind : ℕ → ℕ) (m : ℕ) (ns places : List ℕ) (place : ℕ) → IsDistinct (m ∷ ns) → m < length places
    → place ≡ count_kind kind (kind m) (m ∷ ns) → (n : ℕ)
    → down_place kind ns (set places m place) n ≡ down_place kind (m ∷ ns) places n
down-step kind m ns places place once low e n =
    elim (cases_eq n m) [
      | inl same ↦ rw (same, once.0, eq-eqb m m refl, get_or-set_same places m place 1 low)
          (let next = kind-next kind (kind m) m ns in
          let one = ap {B = ℕ} (λ b. cond b 1 0) (eq-eqb (kind m) (kind m) refl) in omega (arith, e, next, one))
      | inr other ↦ rw (ne_eqb n m other, get_or-set_other places m n place 1 other) refl
    ]

pub down-some : (kind : ℕ → ℕ) (m : ℕ) (ns : List ℕ) → 0 < count_kind kind (kind m) (m ∷ ns)
down-some kind m ns =
    let next = kind-next kind (kind m) m ns in
    let one = ap {B = ℕ} (λ b. cond b 1 0) (eq-eqb (kind m) (kind m) refl) in
    omega (arith, next, one)

-- PARENT BY PARENT

abbrev pub kind_place : (ℕ → ℕ) → Bool → Forest → ℕ → ℕ
kind_place kind from_end f n = suc (count_kind kind (kind n) (nodes_beside from_end f n))

pub kind-alone : (kind : ℕ → ℕ) (from_end : Bool) (f : Forest) (n : ℕ) → parent_of f n ≡ None → kind_place kind from_end f n ≡ 1
kind-alone kind true f n e = rw e refl
kind-alone kind false f n e = rw e refl

pub firsts-more : (f : Forest) → IsForest f → (kind : ℕ → ℕ) (count n old : ℕ)
    → old ≡ entered 1 (kind_place kind false f) count n (parent_of f n)
    → cond (is_among n (children_of f count)) (suc (count_kind kind (kind n) (those_before n (children_of f count)))) old
    ≡ entered 1 (kind_place kind false f) (count + 1) n (parent_of f n)
firsts-more f is kind count n old e =
    let place = suc (count_kind kind (kind n) (those_before n (children_of f count))) in
    ap (λ k. cond (is_among n (children_of f count)) place k) e
    ∙ entered-more f is 1 (kind_place kind false f) count n place
    (λ h. sym (ap (λ (o : Option ℕ). suc (count_kind kind (kind n) (those_before n (children_under f o)))) h))

pub lasts-more : (f : Forest) → IsForest f → (kind : ℕ → ℕ) (count n old : ℕ)
    → old ≡ entered 1 (kind_place kind true f) count n (parent_of f n)
    → cond (is_among n (children_of f count)) (suc (count_kind kind (kind n) (those_after n (children_of f count)))) old
    ≡ entered 1 (kind_place kind true f) (count + 1) n (parent_of f n)
lasts-more f is kind count n old e =
    let place = suc (count_kind kind (kind n) (those_after n (children_of f count))) in
    ap (λ k. cond (is_among n (children_of f count)) place k) e
    ∙ entered-more f is 1 (kind_place kind true f) count n place
    (λ h. sym (ap (λ (o : Option ℕ). suc (count_kind kind (kind n) (those_after n (children_under f o)))) h))

counts-name : (f : Forest) (o : Option QualName) → is_some o ≡ true → (m : ℕ) → have_same_name o (name_at f m) ≡ counts f o m
counts-name f None h m = absurd (cc)
counts-name f (Some name) h m = refl

-- the place of an element among those of its name
pub kind-place : (f : Forest) (kinds : List ℕ) → AreKinds f kinds → (from_end : Bool) (n : ℕ) → is_element f n ≡ true
    → kind_place (kind_at kinds) from_end f n ≡ place_of (counts f (name_at f n)) from_end f n
kind-place f kinds are from_end n element =
    let same : (m : ℕ) → (kind_at kinds n == kind_at kinds m) ≡ counts f (name_at f n) m =
    λ m. are n m element ∙ counts-name f (name_at f n) element m in
    ap (λ (t : ℕ → Bool). suc (length (filter t (nodes_beside from_end f n)))) (λ i. λ m. same m i)
