-- The formatting element's entry finds its new place.
use Rattle.std.proofs.Common.{◌≡◌, ◌≢◌, ◌∙◌, ℕ, suc, Bool, true, false, List, [], ◌∷◌, ◌++◌, take, drop, get_or, set, map}
use Rattle.std.proofs.Common.{reverse, insert, remove, Some, None, refl, sym, ap, arith, true≢false, eqb-true, ◌+◌, add-one}
use Rattle.std.proofs.Common.{append_assoc, ne_eqb}
use Rattle.std.proofs.lemmas.List.{drop-set-lt, map-append, reverse-append, take-set}
use Rattle.html_tokens.specs.declared.tags.Tag.{Tag}
use Rattle.html_rules.specs.Adoption.{listed_as}
use Rattle.html_rules.specs.Choice.{choose}
use Rattle.html_rules.specs.Formatting.{Listed, is_listed, put_after, stands_for, with_in_place, without_entry}
use Rattle.html_rules.specs.State.{Entry, Element, Marker}
use Rattle.html_stack.specs.Found.{IsNewest, renamed}
use Rattle.html_stack.specs.Stacks.{entries_of, entry_of}
use Rattle.html_stack.specs.declared.entries.FormatEntry.{FormatEntry}
use Rattle.html_stack.specs.declared.entries.FormatEntry.TheVariants as held
use Rattle.html_stack.proofs.ListEdits.{after-at, after-none, listed_as-none, said_by, unlisted}
use Rattle.html_stack.proofs.Newest.{split-at}
use Rattle.html_stack.proofs.WalksBack.{more}
use Rattle.html_stack.proofs.Walked.{listed-replaced, listed-said}

-- an entry leaves, and another one comes: in either order
pub after-without : (n m : ℕ) (new : Entry) (entries : List Entry) → m ≢ n → stands_for n new ≡ false
    → without_entry n (put_after m new entries) ≡ put_after m new (without_entry n entries)
after-without n m new [] ne other = refl
after-without n m new (entry ∷ entries) ne other = by (stands_for n entry) (stands_for m entry) refl refl
    (after-without n m new entries ne other) where
      both : (entry : Entry) → stands_for n entry ≡ true → stands_for m entry ≡ true → ⊥
      both Marker h k = absurd (true≢false (sym h))
      both (Element k tag) h l = ne (sym (eqb-true k m l) ∙ eqb-true k n h)

      by : (a b : Bool) → stands_for n entry ≡ a → stands_for m entry ≡ b
          → without_entry n (put_after m new entries) ≡ put_after m new (without_entry n entries)
          → without_entry n (choose b (λ _. new ∷ entry ∷ entries) (λ _. entry ∷ put_after m new entries)) ≡ put_after m
          new (choose a (λ _. entries) (λ _. entry ∷ without_entry n entries))
      by true true h k rest = absurd (both entry h k)
      by true false h k rest = rw h refl
      by false true h k rest = rw (other, h, k) refl
      by false false h k rest = rw (h, k) (ap (λ es. entry ∷ es) rest)

-- an entry is put back
pub put-at : {H : Type 0} (node : H → ℕ) (items : List (FormatEntry H)) (i : ℕ) (entry : FormatEntry H)
    → entries_of node (insert items i entry) ≡ entries_of node (drop i items) ++ entry_of node entry ∷ entries_of node (take i items)
put-at node items i entry =
    ap reverse (map-append (entry_of node) (take i items) (entry ∷ drop i items))
    ∙ reverse-append (map (entry_of node) (take i items)) (entry_of node entry ∷ map (entry_of node) (drop i items))
    ∙ ap (λ es. es ++ entries_of node (take i items)) (reverse-append (entry_of node entry ∷ []) (map (entry_of node) (drop i items)))
    ∙ append_assoc (entries_of node (drop i items)) (entry_of node entry ∷ []) (entries_of node (take i items))

-- just after that of an element
pub put-after : {H : Type 0} (node : H → ℕ) (m : ℕ) (items : List (FormatEntry H)) (i : ℕ) (entry : FormatEntry H)
    → IsNewest (entry_of node) (stands_for m) items i → put_after m (entry_of node entry)
    (entries_of node items) ≡ entries_of node (insert items (i + 1) entry)
put-after node m items i entry is =
    let x : FormatEntry _ = get_or items i held.Marker in
    ap (put_after m (entry_of node entry)) (split-at (entry_of node) items i held.Marker is.within)
    ∙ after-at m (entry_of node entry) (entries_of node (drop (suc i) items)) (entry_of node x)
    (entries_of node (take i items)) is.newer (is.here held.Marker)
    ∙ ap (λ es. entries_of node (drop (suc i) items) ++ entry_of node entry ∷ es) (sym (more (entry_of node) items i held.Marker is.within))
    ∙ sym (ap (λ k. entries_of node (insert items k entry)) (add-one i) ∙ put-at node items (suc i) entry)

abbrev listed_with : ℕ → Tag → Listed
listed_with number tag = record { number = number; tag = tag }

some-same : (a b : Listed) → Some a ≡ Some b → a ≡ b
some-same a b e = cc

-- the entry of a listed element, as it lies
pub record IsEntryOf {H : Type 0} (node : H → ℕ) (n : ℕ) (tag : Tag) (x : FormatEntry H) : Type 0 where
  pub handle : H
  pub is : x ≡ held.Element handle tag
  pub same : node handle ≡ n

pub entry-said : {H : Type 0} (node : H → ℕ) (n number : ℕ) (tag : Tag) (x : FormatEntry H)
    → stands_for n (entry_of node x) ≡ true → said_by (entry_of node x) ≡ Some
    (record { number = number; tag = tag }) → IsEntryOf node n tag x
entry-said node n number tag held.Marker here said = absurd (true≢false (sym here))
entry-said node n number tag (held.Element handle other) here said = record {
  handle = handle;
  is = ap (λ t. held.Element handle t) (tag-is said);
  same = eqb-true (node handle) n here;
} where
  tag-is : Some (listed_with (node handle) other) ≡ Some (listed_with number tag) → other ≡ tag
  tag-is e = ap (λ (l : Listed). l.tag) (some-same (listed_with (node handle) other) (listed_with number tag) e)

pub entry-at : {H : Type 0} (node : H → ℕ) (n number : ℕ) (tag : Tag) (items : List (FormatEntry H)) (i : ℕ)
    → IsNewest (entry_of node) (stands_for n) items i → listed_as n (entries_of node items) ≡ Some
    (record { number = number; tag = tag }) → IsEntryOf node n tag (get_or items i held.Marker)
entry-at node n number tag items i is said = entry-said node n number tag (get_or items i held.Marker)
    (is.here held.Marker) (sym (listed-said node n items i is) ∙ said)

-- without a copy it stays where it is
pub relisted-in_place : {H : Type 0} (node : H → ℕ) (n number : ℕ) (tag : Tag) (items : List (FormatEntry H))
    (i : ℕ) (new : H) → IsNewest (entry_of node) (stands_for n) items i → listed_as n (entries_of node items) ≡ Some
    (record { number = number; tag = tag })
    → entries_of node (set items i (renamed new (get_or items i held.Marker))) ≡ with_in_place n
    (Element (node new) tag) (entries_of node items)
relisted-in_place node n number tag items i new is said =
    let e = entry-at node n number tag items i is said in
    sym (listed-replaced node n items i e.handle new tag is e.is)
    ∙ ap (λ k. with_in_place k (Element (node new) tag) (entries_of node items)) e.same

-- it is taken out under its new name
pub taken-out : {H : Type 0} (node : H → ℕ) (n : ℕ) (items : List (FormatEntry H)) (i : ℕ) (x : FormatEntry H)
    → IsNewest (entry_of node) (stands_for n) items i → entries_of node (remove (set items i x) i) ≡ without_entry n (entries_of node items)
taken-out node n items i x is =
    let less = is.within in
    ap (λ ys. entries_of node (ys ++ drop (suc i) (set items i x))) (take-set items i x)
    ∙ ap (λ ys. entries_of node (take i items ++ ys)) (drop-set-lt (suc i) items i x (omega arith))
    ∙ sym (unlisted node n items i is)

pub relisted-after : {H : Type 0} (node : H → ℕ) (n number m : ℕ) (tag : Tag) (items rest : List (FormatEntry H))
    (i p : ℕ) (new : H) (entry : FormatEntry H) → IsNewest (entry_of node) (stands_for n) items i
    → listed_as n (entries_of node items) ≡ Some (record { number = number; tag = tag })
    → entries_of node rest ≡ without_entry n (entries_of node items) → entry ≡ renamed new
    (get_or items i held.Marker) → IsNewest (entry_of node) (stands_for m) rest p → node new ≢ n → m ≢ n
    → entries_of node (insert rest (p + 1) entry) ≡ without_entry n (put_after m (Element (node new) tag) (entries_of node items))
relisted-after node n number m tag items rest i p new entry is said left taken here ne ne' =
    let e = entry-at node n number tag items i is said in
    let named : entry_of node entry ≡ Element (node new) tag = ap (entry_of node) (taken ∙ ap (renamed new) e.is) in
    sym (put-after node m rest p entry here)
    ∙ ap (λ y. put_after m y (entries_of node rest)) named
    ∙ ap (put_after m (Element (node new) tag)) left
    ∙ sym (after-without n m (Element (node new) tag) (entries_of node items) ne' (ne_eqb (node new) n ne))

pub relisted-gone : {H : Type 0} (node : H → ℕ) (n m : ℕ) (tag : Tag) (items rest : List (FormatEntry H)) (new : H)
    → entries_of node rest ≡ without_entry n (entries_of node items) → is_listed m (entries_of node rest) ≡ false → node new ≢ n → m ≢ n
    → entries_of node rest ≡ without_entry n (put_after m (Element (node new) tag) (entries_of node items))
relisted-gone node n m tag items rest new left none ne ne' =
    left
    ∙ sym (after-none m (Element (node new) tag) (without_entry n (entries_of node items)) (ap (is_listed m) (sym left) ∙ none))
    ∙ sym (after-without n m (Element (node new) tag) (entries_of node items) ne' (ne_eqb (node new) n ne))

pub not-missing : (n number : ℕ) (tag : Tag) (entries : List Entry) → is_listed n entries ≡ false
    → listed_as n entries ≡ Some (record { number = number; tag = tag }) → ⊥
not-missing n number tag entries none said = let missing = listed_as-none n entries none in none-some (sym missing ∙ said) where
  none-some : None ≡ Some (listed_with number tag) → ⊥
  none-some e = cc
