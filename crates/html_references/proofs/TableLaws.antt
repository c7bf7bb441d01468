-- The definitions of tables against what they are to mean.
use Rattle.std.proofs.Common.{◌≡◌, ◌≢◌, ◌∙◌, ℕ, ◌<◌, ◌≤◌, Bool, true, false, cond, List, [], ◌∷◌, ◌++◌, length, Option, Some}
use Rattle.std.proofs.Common.{None, Result, Ok, Err, refl, sym, subst, arith, append_assoc, append-nil}
use Rattle.std.specs.Prelude.{IfErr, IsTrue, nat_eq, nat_le, not}
use Rattle.std.specs.List.{starts_with}
use Rattle.std.specs.Option.{option_or}
use Rattle.std.specs.Str.{bytes_eq}
use Rattle.std.proofs.lemmas.Bool.{cond-true, cond-false, leb-true, leb-false, not_from_false, not_from_true, true≢false}
use Rattle.std.proofs.lemmas.List.Elements.{All-nil, All-cons, All-push, All-weaker, Contains-append_left, Contains-append_right}
use Rattle.std.proofs.lemmas.List.Quantifiers.{all_pairs_push}
use Rattle.std.proofs.lemmas.Slice.Eq.{bytes_eq-Decides}
use Rattle.html_references.specs.Order.{name_at}
use Rattle.html_references.specs.References.{IsCheckedTable, IsFirstFault, MatchesLongest, fault_after, fault_of, first_fault}
use Rattle.html_references.specs.References.{has_values, is_named, is_reference_name, longer_of, longest}
use Rattle.html_tokens.specs.declared.table.ReferenceRow.{ReferenceRow}
use Rattle.html_tokens.specs.declared.table.TableFault.{TableFault}
use Rattle.html_tokens.specs.declared.table.TableFault.TheVariants.{Memory}
use Rattle.html_references.proofs.Begins.{fitting-is}
use Rattle.html_references.proofs.Faults.{name_without_fault}
use Rattle.html_references.proofs.Matches.{any_at}
use Rattle.html_references.proofs.Orders.{name_at-get_or}

some≢none : {A : Type 0} {x : A} → Some x ≡ None → ⊥
some≢none q = cc

good_values : (earlier : List ReferenceRow) (row : ReferenceRow) → fault_after earlier row ≡ None → has_values row ≡ true
good_values earlier row e = decided (has_values row) refl
  where
    decided : (b : Bool) → has_values row ≡ b → has_values row ≡ true
    decided true h = h
    decided false h =
        absurd (some≢none (sym (cond-false (not (is_reference_name row.name)) _ _
        (not_from_true _ (name_without_fault earlier row e)) ∙ cond-true (not (has_values row)) _ _ (not_from_false _ h)) ∙ e))

own_name : (earlier : List ReferenceRow) (row : ReferenceRow) → fault_after earlier row ≡ None → is_named earlier row.name ≡ false
own_name earlier row e = decided (is_named earlier row.name) refl
  where
    decided : (b : Bool) → is_named earlier row.name ≡ b → is_named earlier row.name ≡ false
    decided false h = h
    decided true h =
        absurd (some≢none (sym (cond-false (not (is_reference_name row.name)) _ _
        (not_from_true _ (name_without_fault earlier row e))
        ∙ (cond-false (not (has_values row)) _ _ (not_from_true _ (good_values earlier row e))
        ∙ cond-true (is_named earlier row.name) _ _ h)) ∙ e))

checked_nil : IsCheckedTable []
checked_nil = record {
  names = All-nil (λ row. IsTrue (is_reference_name row.name));
  values = All-nil (λ row. IsTrue (has_values row));
  distinct = λ i j d l m. absurd (omega arith);
}

-- a checked table with a row that has no fault after it
checked_push : (earlier : List ReferenceRow) (row : ReferenceRow) → IsCheckedTable earlier
    → fault_after earlier row ≡ None → IsCheckedTable (earlier ++ row ∷ [])
checked_push earlier row c e = record {
  names = All-push (λ r. IsTrue (is_reference_name r.name)) earlier row c.names (name_without_fault earlier row e);
  values = All-push (λ r. IsTrue (has_values r)) earlier row c.values (good_values earlier row e);
  distinct =
      all_pairs_push (λ r other. r.name ≢ other.name) earlier row c.distinct
      (λ k d l same.
      true≢false (sym (any_at (λ name. bytes_eq name row.name) earlier k l
      ((bytes_eq-Decides (name_at earlier k) row.name).1 (name_at-get_or earlier k d l ∙ same))) ∙ own_name earlier row e));
}

-- one row of a table without a fault
checked_turn : (earlier : List ReferenceRow) (row : ReferenceRow) (rows : List ReferenceRow) (o : Option TableFault)
    → fault_after earlier row ≡ o → option_or o (first_fault (earlier ++ row ∷ []) rows) ≡ None
    → IsCheckedTable earlier → (IsCheckedTable (earlier ++ row ∷ []) → first_fault (earlier ++ row ∷ []) rows ≡ None
    → IsCheckedTable ((earlier ++ row ∷ []) ++ rows)) → IsCheckedTable (earlier ++ row ∷ rows)
checked_turn earlier row rows None h e c next = subst IsCheckedTable (append_assoc earlier (row ∷ []) rows)
    (next (checked_push earlier row c h) e)
checked_turn earlier row rows (Some fault) h e c next = absurd (some≢none e)

rest_checked : (rows earlier : List ReferenceRow) → IsCheckedTable earlier → first_fault earlier rows ≡ None
    → IsCheckedTable (earlier ++ rows)
rest_checked [] earlier c e = subst IsCheckedTable (sym (append-nil earlier)) c
rest_checked (row ∷ rows) earlier c e = checked_turn earlier row rows (fault_after earlier row) refl e c
    (rest_checked rows (earlier ++ row ∷ []))

-- a table without a fault is checked
pub checked_from_fault_of : (rows : List ReferenceRow) → fault_of rows ≡ None → IsCheckedTable rows
checked_from_fault_of rows e = rest_checked rows [] checked_nil e

-- one row of a table with a fault
first_turn : (earlier : List ReferenceRow) (row : ReferenceRow) (rows : List ReferenceRow) (fault : TableFault)
    (o : Option TableFault) → fault_after earlier row ≡ o → option_or o (first_fault (earlier ++ row ∷ []) rows) ≡
    Some fault → IsCheckedTable earlier
    → (IsCheckedTable (earlier ++ row ∷ []) → first_fault (earlier ++ row ∷ []) rows ≡ Some fault
    → IsFirstFault ((earlier ++ row ∷ []) ++ rows) fault) → IsFirstFault (earlier ++ row ∷ rows) fault
first_turn earlier row rows fault None h e c next = subst (λ t. IsFirstFault t fault)
    (append_assoc earlier (row ∷ []) rows) (next (checked_push earlier row c h) e)
first_turn earlier row rows fault (Some other) h e c next = record {
  earlier = earlier;
  row = row;
  later = rows;
  split = refl;
  checked = c;
  faulty = h ∙ e;
}

rest_first : (rows earlier : List ReferenceRow) (fault : TableFault) → IsCheckedTable earlier
    → first_fault earlier rows ≡ Some fault → IsFirstFault (earlier ++ rows) fault
rest_first [] earlier fault c e = absurd (some≢none (sym e))
rest_first (row ∷ rows) earlier fault c e = first_turn earlier row rows fault (fault_after earlier row) refl e c
    (rest_first rows (earlier ++ row ∷ []) fault)

-- the fault of a table is that of its first faulty row
first_from_fault_of : (rows : List ReferenceRow) (fault : TableFault) → fault_of rows ≡ Some fault → IsFirstFault rows fault
first_from_fault_of rows fault e = rest_first rows [] fault checked_nil e

-- an answer that tells the fault of a table tells that of its first faulty row
pub first_told : {T : Type 0} (rows : List ReferenceRow) (r : Result T TableFault)
    → IfErr r (λ fault. fault ≢ Memory → fault_of rows ≡ Some fault) → IfErr r (λ fault. fault ≢ Memory → IsFirstFault rows fault)
first_told rows (Ok table) h = tt
first_told rows (Err fault) h = λ other. first_from_fault_of rows fault (h other)

more-fits : (row : ReferenceRow) (rows : List ReferenceRow) (text : List ℕ) (b : Bool) (o : Option ReferenceRow)
    → starts_with nat_eq text row.name ≡ b → MatchesLongest rows text o → MatchesLongest (row ∷ rows) text
    (longer_of (cond b (Some row) None) o)
more-fits row rows text false None s m = All-cons (λ r. starts_with nat_eq text r.name ≡ false) row rows s m
more-fits row rows text false (Some other) s m = record {
  among = Contains-append_right (row ∷ []) rows other m.among;
  fits = m.fits;
  longest =
      All-cons (λ r. IsTrue (starts_with nat_eq text r.name) → length r.name ≤ length other.name) row rows
      (λ h. absurd (true≢false (sym h ∙ s))) m.longest;
}
more-fits row rows text true None s m = record {
  among = Contains-append_left (row ∷ []) rows row (0, omega arith, refl);
  fits = s;
  longest =
      All-cons (λ r. IsTrue (starts_with nat_eq text r.name) → length r.name ≤ length row.name) row rows (λ _. omega arith)
      (All-weaker (λ r. starts_with nat_eq text r.name ≡ false) (λ r. IsTrue (starts_with nat_eq text r.name)
      → length r.name ≤ length row.name) (λ r f h. absurd (true≢false (sym h ∙ f))) rows m);
}
more-fits row rows text true (Some other) s m = decided (nat_le (length other.name) (length row.name)) refl
  where
    decided : (b : Bool) → nat_le (length other.name) (length row.name) ≡ b → MatchesLongest (row ∷ rows) text
        (cond b (Some row) (Some other))
    decided true h =
        let l : length other.name ≤ length row.name = leb-true _ _ h in
        record {
          among = Contains-append_left (row ∷ []) rows row (0, omega arith, refl);
          fits = s;
          longest =
              All-cons (λ r. IsTrue (starts_with nat_eq text r.name) → length r.name ≤ length row.name) row rows (λ _. omega arith)
              (All-weaker (λ r. IsTrue (starts_with nat_eq text r.name) → length r.name ≤ length other.name)
              (λ r. IsTrue (starts_with nat_eq text r.name) → length r.name ≤ length row.name)
              (λ r f q. omega (arith, f q)) rows m.longest);
        }
    decided false h =
        let l : length row.name < length other.name = leb-false _ _ h in
        record {
          among = Contains-append_right (row ∷ []) rows other m.among;
          fits = m.fits;
          longest =
              All-cons (λ r. IsTrue (starts_with nat_eq text r.name) → length r.name ≤ length other.name) row rows
              (λ _. omega arith) m.longest;
        }

-- the longest match is what the text begins with at most
pub longest-matches : (rows : List ReferenceRow) (text : List ℕ) → MatchesLongest rows text (longest rows text)
longest-matches [] text = All-nil (λ row. starts_with nat_eq text row.name ≡ false)
longest-matches (row ∷ rows) text = rw (fitting-is text row)
    (more-fits row rows text (starts_with nat_eq text row.name) (longest rows text) refl (longest-matches rows text))
