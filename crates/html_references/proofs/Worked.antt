-- Worked rows of the definitions, computed.
use Rattle.std.proofs.Common.{◌≡◌, true, false, List, [], ◌∷◌, Some, None, refl}
use Rattle.std.specs.Prelude.{codes}
use Rattle.html_references.specs.References.{fault_of, five_rows, goes_on, is_reference_name, longest, row_of}
use Rattle.html_tokens.specs.declared.table.ReferenceRow.{ReferenceRow}
use Rattle.html_tokens.specs.declared.table.TableFault.TheVariants.{BadName, BadValue, Duplicate}

name_with_semicolon : is_reference_name (codes "amp;") ≡ true
name_with_semicolon = refl

name_without_letter : is_reference_name (codes ";") ≡ false
name_without_letter = refl

name_with_two_semicolons : is_reference_name (codes "amp;;") ≡ false
name_with_two_semicolons = refl

semicolon_inside : fault_of (row_of (codes "amp;") 0x26 ∷ row_of (codes "a;b") 0x41 ∷ []) ≡ Some (BadName 2)
semicolon_inside = refl

value_before_duplicate : fault_of (row_of (codes "x") 0x41 ∷ row_of (codes "x") 0 ∷ []) ≡ Some (BadValue 2)
value_before_duplicate = refl

later_duplicate : fault_of (row_of (codes "x") 0x41 ∷ row_of (codes "x") 0x42 ∷ []) ≡ Some (Duplicate 2)
later_duplicate = refl

name_before_value : fault_of (row_of (codes "a;b") 0 ∷ []) ≡ Some (BadName 1)
name_before_value = refl

surrogate : fault_of (row_of (codes "x") 0xD800 ∷ []) ≡ Some (BadValue 1)
surrogate = refl

bad_second : fault_of (record { name = codes "x"; first = 0x41; second = Some 0 } ∷ []) ≡ Some (BadValue 1)
bad_second = refl

no_rows : fault_of [] ≡ None
no_rows = refl

five_checked : fault_of five_rows ≡ None
five_checked = refl

-- two names, of which one begins as the other
abbrev not_rows : List ReferenceRow
not_rows = row_of (codes "not") 0xAC ∷ row_of (codes "notin;") 0x2209 ∷ []

shorter_name : longest not_rows (codes "notit;") ≡ Some (row_of (codes "not") 0xAC)
shorter_name = refl

longer_name : longest not_rows (codes "notin; ") ≡ Some (row_of (codes "notin;") 0x2209)
longer_name = refl

no_name : longest not_rows (codes "no") ≡ None
no_name = refl

held_goes_on : goes_on not_rows (codes "noti") ≡ true
held_goes_on = refl

held_whole : goes_on not_rows (codes "notin;") ≡ false
held_whole = refl

held_differs : goes_on not_rows (codes "notx") ≡ false
held_differs = refl
