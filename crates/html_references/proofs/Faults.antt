-- What is wrong with a row after earlier ones, and with a table from one of its rows on.
use Rattle.std.proofs.Common.{◌≡◌, ◌∙◌, ℕ, ◌<◌, ◌+◌, Bool, true, false, cond, List, [], length, get_or, take, drop, Option}
use Rattle.std.proofs.Common.{Some, None, refl, sym, ap}
use Rattle.std.specs.Prelude.{not}
use Rattle.std.specs.Option.{option_or}
use Rattle.std.proofs.lemmas.Bool.{cond-true, cond-false, not_from_false, not_from_true}
use Rattle.std.proofs.lemmas.List.{drop_more, take_more}
use Rattle.html_references.specs.References.{fault_after, first_fault, has_values, is_named, is_reference_name}
use Rattle.html_tokens.specs.declared.table.ReferenceRow.{ReferenceRow}
use Rattle.html_tokens.specs.declared.table.TableFault.{TableFault}
use Rattle.html_tokens.specs.declared.table.TableFault.TheVariants.{Duplicate}

fault_after-good : (earlier : List ReferenceRow) (row : ReferenceRow) (b : Bool) → is_reference_name row.name ≡ true
    → has_values row ≡ true → is_named earlier row.name ≡ b → fault_after earlier row ≡ cond b (Some (Duplicate (length earlier + 1))) None
fault_after-good earlier row b n v d =
    cond-false (not (is_reference_name row.name)) _ _ (not_from_true _ n)
    ∙ (cond-false (not (has_values row)) _ _ (not_from_true _ v) ∙ ap (λ t. cond t (Some (Duplicate (length earlier + 1))) None) d)

-- a good row whose name an earlier one has
pub fault_after-named : (earlier : List ReferenceRow) (row : ReferenceRow) → is_reference_name row.name ≡ true
    → has_values row ≡ true → is_named earlier row.name ≡ true → fault_after earlier row ≡ Some (Duplicate (length earlier + 1))
fault_after-named earlier row n v d = fault_after-good earlier row true n v d

-- a good row with a name of its own
pub fault_after-absent : (earlier : List ReferenceRow) (row : ReferenceRow) → is_reference_name row.name ≡ true
    → has_values row ≡ true → is_named earlier row.name ≡ false → fault_after earlier row ≡ None
fault_after-absent earlier row n v d = fault_after-good earlier row false n v d

-- a row without a fault has a good name
pub name_without_fault : (earlier : List ReferenceRow) (row : ReferenceRow) → fault_after earlier row ≡ None
    → is_reference_name row.name ≡ true
name_without_fault earlier row e = decided (is_reference_name row.name) refl
  where
    decided : (b : Bool) → is_reference_name row.name ≡ b → is_reference_name row.name ≡ true
    decided true h = h
    decided false h = absurd (none≢some (sym e ∙ cond-true (not (is_reference_name row.name)) _ _ (not_from_false _ h)))
      where
        none≢some : {A : Type 0} {x : A} → None ≡ Some x → ⊥
        none≢some q = cc

-- a table whose rows up to one are good has the fault of that row, or else of those after it
first_fault-more : (rows : List ReferenceRow) (place : ℕ) (d : ReferenceRow) → place < length rows
    → first_fault (take place rows) (drop place rows) ≡ option_or
    (fault_after (take place rows) (get_or rows place d)) (first_fault (take (place + 1) rows) (drop (place + 1) rows))
first_fault-more rows place d l =
    ap (first_fault (take place rows)) (drop_more rows place d l)
    ∙ ap (λ earlier. option_or (fault_after (take place rows) (get_or rows place d))
    (first_fault earlier (drop (place + 1) rows))) (sym (take_more rows place d l))

pub first_fault-at : (rows : List ReferenceRow) (place : ℕ) (row : ReferenceRow) (found : Option TableFault)
    → place < length rows → row ≡ get_or rows place row → fault_after (take place rows) row ≡ found
    → first_fault [] rows ≡ first_fault (take place rows) (drop place rows) → first_fault [] rows ≡ option_or found
    (first_fault (take (place + 1) rows) (drop (place + 1) rows))
first_fault-at rows place row found l e g h =
    h ∙ (first_fault-more rows place row l
    ∙ ap (λ o. option_or o (first_fault (take (place + 1) rows) (drop (place + 1) rows)))
    (ap (fault_after (take place rows)) (sym e) ∙ g))
