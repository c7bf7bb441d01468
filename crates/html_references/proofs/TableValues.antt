-- Values of checked tables, as the definitions of tokenizing ask for them.
use Rattle.std.proofs.Common.{◌≡◌, ℕ, true, List, [], ◌∷◌, Option, Some, None, refl, arith}
use Rattle.std.specs.Prelude.{IsTrue, All}
use Rattle.std.specs.Option.{option_map_or}
use Rattle.std.proofs.lemmas.Bool.{and_parts, and_from}
use Rattle.std.proofs.lemmas.Bool.Decides.{nat_tests}
use Rattle.std.proofs.lemmas.List.Elements.{All-tail}
use Rattle.html_tokens.specs.Laws as laws
use Rattle.html_tokens.specs.Table.{values_of}
use Rattle.html_tokens.specs.declared.table.ReferenceRow.{ReferenceRow}
use Rattle.html_references.specs.References.{IsCheckedTable, has_values, is_reference_value}

not_null : (value : ℕ) → is_reference_value value ≡ true → laws.is_not_null value ≡ true
not_null value h = grind (arith, nat_tests)

no_null : (first : ℕ) (second : Option ℕ) → is_reference_value first ≡ true
    → option_map_or is_reference_value second true ≡ true → laws.has_no_null (values_of first second) ≡ true
no_null first None h k = and_from _ _ (not_null first h) refl
no_null first (Some second) h k = and_from _ _ (not_null first h) (and_from _ _ (not_null second k) refl)

all-values : (rows : List ReferenceRow) → All (λ row. IsTrue (has_values row)) rows → laws.has_values rows ≡ true
all-values [] h = refl
all-values (row ∷ rows) h =
    let parts = and_parts (is_reference_value row.first) (option_map_or is_reference_value row.second true) (h 0 row (omega arith)) in
    and_from _ _ (no_null row.first row.second parts.0 parts.1) (all-values rows (All-tail (λ r. IsTrue (has_values r)) row rows h))

pub checked-values : (rows : List ReferenceRow) → IsCheckedTable rows → laws.has_values rows ≡ true
checked-values rows c = all-values rows c.values
