-- Room for another entry: those that are equal to a tag, counted from the newest back.
use Rattle.std.proofs.Common.{◌≡◌, ◌∙◌, ℕ, suc, ◌+◌, ◌<◌, ◌≤◌, Bool, true, false, List, [], ◌∷◌, ◌++◌, length, take, drop}
use Rattle.std.proofs.Common.{get_or, remove, refl, sym, ap, arith, true≢false, eqb-true, le-leb, ne_eqb, subst, Option, Some}
use Rattle.std.proofs.Common.{None, MatchOption}
use borrow.Author.Tests.{lt-leb}
use Rattle.std.specs.Bool.{Decides}
use Rattle.std.specs.Prelude.{◌&&◌, nat_eq, nat_le}
use Rattle.std.specs.List.{list_any}
use Rattle.std.proofs.lemmas.List.Folds.{list_any-append}
use Rattle.std.specs.Str.{bytes_eq}
use Rattle.std.proofs.Math.Seq.{take-length}
use Rattle.std.proofs.lemmas.Bool.{and_parts, eq-eqb}
use Rattle.std.proofs.lemmas.List.{drop_all}
use Rattle.std.proofs.lemmas.List.Sorted.{length_permutation}
use Rattle.std.proofs.lemmas.Slice.Eq.{bytes_eq-Decides}
use Rattle.markup.specs.Attributes.{have_same_counts}
use Rattle.markup.specs.Equality.{attribute_eq, attributes_by_value}
use Rattle.markup.proofs.Permutations.{counts_from_permutation, permutation_from_counts}
use Rattle.html_tokens.specs.TagEquality.{IsEquivModuloAttrOrder}
use Rattle.html_tokens.specs.declared.tags.Tag.{Tag}
use Rattle.html_tokens.specs.declared.tags.TagKind.{TagKind}
use Rattle.html_tokens.specs.declared.tags.TagKind.TheVariants.{StartTag, EndTag}
use Rattle.html_rules.specs.Choice.{choose}
use Rattle.html_rules.specs.Formatting.{count_equal, is_equiv_modulo_attr_order, same_kind, with_room, without_earliest}
use Rattle.html_rules.specs.State.{Entry, Element, Marker}
use Rattle.html_stack.specs.Found.{IsRoom}
use Rattle.html_stack.specs.Stacks.{entries_of, entry_of, is_mark}
use Rattle.html_stack.specs.declared.entries.FormatEntry.{FormatEntry}
use Rattle.html_stack.specs.declared.entries.FormatEntry.TheVariants as held
use Rattle.html_stack.proofs.Newest.{drop-more, or-both, removed-at, split-at}
use Rattle.html_stack.proofs.WalksBack.{at}

-- the test of equality

kind-true : (a b : TagKind) → same_kind a b ≡ true → a ≡ b
kind-true StartTag StartTag h = refl
kind-true EndTag EndTag h = refl
kind-true StartTag EndTag h = absurd (true≢false (sym h))
kind-true EndTag StartTag h = absurd (true≢false (sym h))

kind-same : (a : TagKind) → same_kind a a ≡ true
kind-same StartTag = refl
kind-same EndTag = refl

pub equiv-Decides : (a b : Tag) → Decides (is_equiv_modulo_attr_order a b) (IsEquivModuloAttrOrder a b)
equiv-Decides a b = (
  λ e.
      let p = and_parts (same_kind a.kind b.kind && bytes_eq a.name b.name && nat_eq (length a.attrs)
      (length b.attrs)) (have_same_counts a.attrs b.attrs) e in
      let q = and_parts (same_kind a.kind b.kind && bytes_eq a.name b.name) (nat_eq (length a.attrs) (length b.attrs)) p.0 in
      let r = and_parts (same_kind a.kind b.kind) (bytes_eq a.name b.name) q.0 in
      record {
        kind = kind-true a.kind b.kind r.0;
        name = (bytes_eq-Decides a.name b.name).0 r.1;
        attrs = permutation_from_counts attribute_eq attributes_by_value a.attrs b.attrs (eqb-true _ _ q.1) p.1;
      },
  λ is.
      let kind : same_kind a.kind b.kind ≡ true = ap (λ k. same_kind a.kind k) (sym is.kind) ∙ kind-same a.kind in
      let name : bytes_eq a.name b.name ≡ true = (bytes_eq-Decides a.name b.name).1 is.name in
      let count : nat_eq (length a.attrs) (length b.attrs) ≡ true = eq-eqb (length a.attrs) (length b.attrs)
      (sym (length_permutation a.attrs b.attrs is.attrs)) in
      let counts : have_same_counts a.attrs b.attrs ≡ true = counts_from_permutation attribute_eq
      attributes_by_value a.attrs b.attrs is.attrs in
      rw (kind, name, count, counts) refl,
)

pub decided : {P : Type 0} (a b : Bool) → Decides a P → Decides b P → a ≡ b
decided true b h k = sym (k.1 (h.0 refl))
decided false true h k = absurd (true≢false (sym (h.1 (k.0 refl))))
decided false false h k = refl

-- the earliest

choose-more : (b : Bool) (m : ℕ) → 0 < m → 0 < choose b (λ _. suc m) (λ _. m)
choose-more true m h = omega arith
choose-more false m h = h

count-some : (tag : Tag) (newer : List Entry) (n : ℕ) (other : Tag) (older : List Entry)
    → list_any is_mark newer ≡ false → is_equiv_modulo_attr_order tag other ≡ true → 0 < count_equal tag (newer ++ Element n other ∷ older)
count-some tag [] n other older h same = rw same (let more : 0 < suc (count_equal tag older) = omega arith in more)
count-some tag (Marker ∷ newer) n other older h same = absurd (true≢false h)
count-some tag (Element m t ∷ newer) n other older h same = choose-more (is_equiv_modulo_attr_order tag t) _
    (count-some tag newer n other older h same)

not_zero : (n : ℕ) → 0 < n → nat_eq n 0 ≡ false
not_zero n h = ne_eqb n 0 (λ same. absurd (omega arith))

and-no : (b : Bool) → (b && false) ≡ false
and-no true = refl
and-no false = refl

earliest-at : (tag : Tag) (newer : List Entry) (n : ℕ) (other : Tag) (older : List Entry)
    → list_any is_mark newer ≡ false → is_equiv_modulo_attr_order tag other ≡ true → count_equal tag older ≡ 0
    → without_earliest tag (newer ++ Element n other ∷ older) ≡ newer ++ older
earliest-at tag [] n other older h same none = rw (same, none) refl
earliest-at tag (Marker ∷ newer) n other older h same none = absurd (true≢false h)
earliest-at tag (Element m t ∷ newer) n other older h same none =
    rw (not_zero _ (count-some tag newer n other older h same), and-no (is_equiv_modulo_attr_order tag t))
    (ap (λ es. Element m t ∷ es) (earliest-at tag newer n other older h same none))

count-same : (tag : Tag) (n : ℕ) (other : Tag) (entries : List Entry) → is_equiv_modulo_attr_order tag other ≡ true
    → count_equal tag (Element n other ∷ entries) ≡ suc (count_equal tag entries)
count-same tag n other entries e = rw e refl

count-other : (tag : Tag) (n : ℕ) (other : Tag) (entries : List Entry)
    → is_equiv_modulo_attr_order tag other ≡ false → count_equal tag (Element n other ∷ entries) ≡ count_equal tag entries
count-other tag n other entries e = rw e refl

-- a walk from the newest back has counted so many, the last of them at a place
pub record IsCounted {H : Type 0} (tag : Tag) (xs : List (FormatEntry H)) (i count earliest : ℕ) : Type 0 where
  pub within : count + i ≤ length xs
  pub plain : (node : H → ℕ) → list_any is_mark (entries_of node (drop i xs)) ≡ false
  pub counted : (node : H → ℕ) → count_equal tag (entries_of node xs) ≡ count + count_equal tag (entries_of node (take i xs))
  pub inside : 0 < count → earliest < length xs
  pub first : 0 < count → (node : H → ℕ) → count_equal tag (entries_of node (take i xs)) ≡ 0 → without_earliest tag
      (entries_of node xs) ≡ entries_of node (remove xs earliest)

pub counted-start : {H : Type 0} (tag : Tag) (xs : List (FormatEntry H)) → IsCounted tag xs (length xs) 0 0
counted-start tag xs = record {
  within = omega arith;
  plain = λ node. rw (drop_all (length xs) xs (omega arith)) refl;
  counted = λ node. rw (take-length xs) (omega arith);
  inside = λ none. absurd (omega arith);
  first = λ none. absurd (omega arith);
}

counted-take : {H : Type 0} (node : H → ℕ) (tag : Tag) (xs : List (FormatEntry H)) (i k : ℕ) (x : FormatEntry H)
    → i ≡ suc k → k < length xs → x ≡ get_or xs k x → count_equal tag (entries_of node (take i xs)) ≡ count_equal
    tag (entry_of node x ∷ entries_of node (take k xs))
counted-take node tag xs i k x e less here = ap (count_equal tag) (at (entry_of node) xs i k x e less here)

plain-more : {H : Type 0} (node : H → ℕ) (xs : List (FormatEntry H)) (i k : ℕ) (x : FormatEntry H) → i ≡ suc k
    → k < length xs → x ≡ get_or xs k x → is_mark (entry_of node x) ≡ false
    → list_any is_mark (entries_of node (drop i xs)) ≡ false → list_any is_mark (entries_of node (drop k xs)) ≡ false
plain-more node xs i k x e less here plain rest =
    ap (list_any is_mark) (drop-more (entry_of node) xs k x less)
    ∙ list_any-append is_mark (entries_of node (drop (suc k) xs)) (entry_of node (get_or xs k x) ∷ [])
    ∙ or-both _ _ (rw e at rest) (or-both _ _ (ap (λ y. is_mark (entry_of node y)) (sym here) ∙ plain) refl)

pub counted-other : {H : Type 0} (tag : Tag) (xs : List (FormatEntry H)) (i k count earliest : ℕ)
    (x : FormatEntry H) (handle : H) (other : Tag) → IsCounted tag xs i count earliest → i ≡ suc k
    → x ≡ get_or xs k x → x ≡ held.Element handle other → is_equiv_modulo_attr_order tag other ≡ false → IsCounted tag xs k count earliest
counted-other {H} tag xs i k count earliest x handle other is e here named differs =
    let within : count + i ≤ length xs = is.within in
    let less : k < length xs = omega arith in
    let same = λ (node : H → ℕ). counted-take node tag xs i k x e less here
    ∙ ap (λ y. count_equal tag (entry_of node y ∷ entries_of node (take k xs))) named
    ∙ count-other tag (node handle) other (entries_of node (take k xs)) differs in
    record {
      within = omega arith;
      plain = λ node. plain-more node xs i k x e less here (ap (λ y. is_mark (entry_of node y)) named) (is.plain node);
      counted = λ node. is.counted node ∙ ap (λ n. count + n) (same node);
      inside = is.inside;
      first = λ some node none. is.first some node (same node ∙ none);
    }

more : (m n : ℕ) → m + suc n ≡ m + 1 + n
more m n = omega arith

pub counted-equal : {H : Type 0} (tag : Tag) (xs : List (FormatEntry H)) (i k count earliest : ℕ)
    (x : FormatEntry H) (handle : H) (other : Tag) → IsCounted tag xs i count earliest → i ≡ suc k
    → x ≡ get_or xs k x → x ≡ held.Element handle other → is_equiv_modulo_attr_order tag other ≡ true → IsCounted tag xs k (count + 1) k
counted-equal {H} tag xs i k count earliest x handle other is e here named equal =
    let within : count + i ≤ length xs = is.within in
    let less : k < length xs = omega arith in
    let same = λ (node : H → ℕ). counted-take node tag xs i k x e less here
    ∙ ap (λ y. count_equal tag (entry_of node y ∷ entries_of node (take k xs))) named
    ∙ count-same tag (node handle) other (entries_of node (take k xs)) equal in
    record {
      within = omega arith;
      plain = λ node. plain-more node xs i k x e less here (ap (λ y. is_mark (entry_of node y)) named) (is.plain node);
      counted = λ node. is.counted node ∙ ap (λ n. count + n) (same node) ∙ more count (count_equal tag (entries_of node (take k xs)));
      inside = λ some. less;
      first = λ some node none.
          ap (without_earliest tag) (split-at (entry_of node) xs k x less
          ∙ ap (λ y. entries_of node (drop (suc k) xs) ++ entry_of node y ∷ entries_of node (take k xs)) (sym here ∙ named))
          ∙ earliest-at tag (entries_of node (drop (suc k) xs)) (node handle) other (entries_of node (take k xs))
          (rw e at (is.plain node)) equal none
          ∙ sym (removed-at (entry_of node) xs k);
    }

choose-true : {A : Type 0} (b : Bool) (x y : A) → b ≡ true → choose b (λ _. x) (λ _. y) ≡ x
choose-true b x y e = rw e refl

choose-false : {A : Type 0} (b : Bool) (x y : A) → b ≡ false → choose b (λ _. x) (λ _. y) ≡ y
choose-false b x y e = rw e refl

-- where no more are left to be counted
pub few : {H : Type 0} (tag : Tag) (xs : List (FormatEntry H)) (i count earliest : ℕ) (node : H → ℕ)
    → IsCounted tag xs i count earliest → count_equal tag (entries_of node (take i xs)) ≡ 0 → count < 3
    → with_room tag (entries_of node xs) ≡ entries_of node xs
few tag xs i count earliest node is none less =
    let all = is.counted node in
    choose-false (nat_le 3 (count_equal tag (entries_of node xs))) (without_earliest tag (entries_of node xs))
    (entries_of node xs) (lt-leb 3 (count_equal tag (entries_of node xs)) (omega arith))

pub many : {H : Type 0} (tag : Tag) (xs : List (FormatEntry H)) (i count earliest : ℕ) (node : H → ℕ)
    → IsCounted tag xs i count earliest → count_equal tag (entries_of node (take i xs)) ≡ 0 → 3 ≤ count → IsRoom node tag xs earliest
many tag xs i count earliest node is none enough =
    let all = is.counted node in
    record {
      within = is.inside (omega arith);
      room = choose-true (nat_le 3 (count_equal tag (entries_of node xs)))
          (without_earliest tag (entries_of node xs)) (entries_of node xs)
          (le-leb 3 (count_equal tag (entries_of node xs)) (omega arith)) ∙ is.first (omega arith) node none;
    }

pub none-behind : {H : Type 0} (tag : Tag) (xs : List (FormatEntry H)) (i k : ℕ) (x : FormatEntry H) (node : H → ℕ)
    → i ≡ suc k → k < length xs → x ≡ get_or xs k x → x ≡ held.Marker → count_equal tag (entries_of node (take i xs)) ≡ 0
none-behind tag xs i k x node e less here marker = counted-take node tag xs i k x e less here
    ∙ ap (λ y. count_equal tag (entry_of node y ∷ entries_of node (take k xs))) marker

pub none-before : {H : Type 0} (tag : Tag) (xs : List (FormatEntry H)) (i : ℕ) (node : H → ℕ) → i ≡ 0
    → count_equal tag (entries_of node (take i xs)) ≡ 0
none-before tag xs i node e = rw e refl

pub roomed : {H : Type 0} (tag : Tag) (xs : List (FormatEntry H)) (i count earliest : ℕ) (node : H → ℕ)
    (o : Option ℕ) → IsCounted tag xs i count earliest → count_equal tag (entries_of node (take i xs)) ≡ 0
    → MatchOption o (count < 3) (λ place. (3 ≤ count) × (place ≡ earliest))
    → MatchOption o (with_room tag (entries_of node xs) ≡ entries_of node xs) (IsRoom node tag xs)
roomed tag xs i count earliest node None is none h = few tag xs i count earliest node is none h
roomed tag xs i count earliest node (Some place) is none h = subst (λ p. IsRoom node tag xs p) (sym h.1)
    (many tag xs i count earliest node is none h.0)
