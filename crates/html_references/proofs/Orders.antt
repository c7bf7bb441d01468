-- Rows in the order of their names.
use Rattle.std.proofs.Common.{◌≡◌, ◌∙◌, ℕ, ◌<◌, ◌≤◌, ◌+◌, zero, suc, List, [], ◌∷◌, length, get_or, refl, ap, arith, ⊎_elim}
use Rattle.std.specs.Ordering.{nat_cmp, ordering_reverse, is_eq}
use Rattle.std.specs.declared.cmp.Ordering.TheVariants.{Equal, Greater}
use Rattle.std.specs.Cmp.Lexicographic.{slice_cmp, texts_ties}
use Rattle.std.proofs.lemmas.Bool.{cases_order}
use Rattle.std.proofs.lemmas.Slice.Eq.{bytes_eq-Decides}
use Rattle.std.proofs.lemmas.Cmp.{nat_list_cmp_total}
use Rattle.html_references.specs.Order.{name_at, IsBefore, IsOrdered, ordered_name}
use Rattle.html_tokens.specs.declared.table.ReferenceRow.{ReferenceRow}

pub IsBefore-trans : (a b c : List ℕ) → IsBefore a b → IsBefore b c → IsBefore a c
IsBefore-trans a b c = nat_list_cmp_total.trans a b c

pub IsBefore-greater : (a b : List ℕ) → slice_cmp nat_cmp a b ≡ Greater → IsBefore b a
IsBefore-greater a b h = nat_list_cmp_total.antisymm b a ∙ ap ordering_reverse h

-- all names up to one that stands before a text stand before it
pub below_middle : (rows : List ReferenceRow) (order text : List ℕ) (middle : ℕ) → IsOrdered rows order
    → middle < length order → IsBefore (ordered_name rows order middle) text → (low : ℕ) → low < middle + 1
    → IsBefore (ordered_name rows order low) text
below_middle rows order text middle o in' h low l =
    ⊎_elim
    (λ (e : low ≡ middle). rw e h)
    (λ s. ⊎_elim (λ (b : low < middle). IsBefore-trans (ordered_name rows order low)
    (ordered_name rows order middle) text (o.rising low middle b in') h) (λ (b : middle < low). absurd (omega arith)) s)
    (cases_order low middle)

-- all names from one on that stands after a text stand after it
pub above_middle : (rows : List ReferenceRow) (order text : List ℕ) (middle : ℕ) → IsOrdered rows order
    → slice_cmp nat_cmp (ordered_name rows order middle) text ≡ Greater → (high : ℕ) → middle ≤ high
    → high < length order → IsBefore text (ordered_name rows order high)
above_middle rows order text middle o e high l in' =
    let h : IsBefore text (ordered_name rows order middle) = IsBefore-greater (ordered_name rows order middle) text e in
    ⊎_elim
    (λ (e : high ≡ middle). rw e h)
    (λ s. ⊎_elim (λ (b : high < middle). absurd (omega arith))
    (λ (b : middle < high). IsBefore-trans text (ordered_name rows order middle)
    (ordered_name rows order high) h (o.rising middle high b in')) s)
    (cases_order high middle)

-- the row at a place has the name at it
pub name_at-get_or : (rows : List ReferenceRow) (place : ℕ) (row : ReferenceRow) → place < length rows
    → name_at rows place ≡ (get_or rows place row).name
name_at-get_or [] place row h = absurd (omega arith)
name_at-get_or (r ∷ rows) zero row h = refl
name_at-get_or (r ∷ rows) (suc place) row h = name_at-get_or rows place row (omega arith)

-- names that compare as equal are the same
pub same_from_equal : (a b : List ℕ) → slice_cmp nat_cmp a b ≡ Equal → a ≡ b
same_from_equal a b h = (bytes_eq-Decides a b).0 (texts_ties a b ∙ ap is_eq h)
