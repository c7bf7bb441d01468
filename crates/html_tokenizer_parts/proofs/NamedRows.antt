-- A row that was found, whose name does not stand before text of the value.
use Rattle.std.proofs.Common.{◌≡◌, ℕ, ◌-◌, ◌≤◌, Bool, true, false, List, length, take, drop, sym, subst, arith, Some}
use Rattle.std.specs.Prelude.{◌&&◌}
use Rattle.std.proofs.lemmas.List.{length-drop, take_all}
use Rattle.html_tokens.specs.Table.{longest}
use Rattle.html_tokens.specs.declared.table.ReferenceRow.{ReferenceRow}
use Rattle.html_references.proofs.Longest.{Within, longest-within}
use Rattle.html_tokenizer_parts.specs.CharRefs.{is_text_before}

-- what is lent from a place on is what stands after it
pub rest_of : (bytes : List ℕ) (n : ℕ) → take (length bytes - n) (drop n bytes) ≡ drop n bytes
rest_of bytes n = take_all (length bytes - n) (drop n bytes) (omega (arith, length-drop n bytes))

-- what was asked of the name that was lent holds of the row's name
pub is_no_text-row : (in_value follows : Bool) (lent name bytes cs : List ℕ) (n : ℕ) → lent ≡ name → bytes ≡ cs
    → n ≡ length name → false ≡ (in_value && is_text_before lent (take (length bytes - n) (drop n bytes)) follows)
    → (in_value && is_text_before name (drop (length name) cs) follows) ≡ false
is_no_text-row in_value follows lent name bytes cs n same_name same_text same_length kept =
    sym (rw (rest_of bytes n, same_name, same_text, same_length) at kept)

-- what was asked of the name that was lent, where it stands before text
pub is_text-row : (in_value follows : Bool) (lent name bytes cs : List ℕ) (n : ℕ) → lent ≡ name → bytes ≡ cs
    → n ≡ length name → true ≡ (in_value && is_text_before lent (take (length bytes - n) (drop n bytes)) follows)
    → (in_value && is_text_before name (drop (length name) cs) follows) ≡ true
is_text-row in_value follows lent name bytes cs n same_name same_text same_length asked =
    sym (rw (rest_of bytes n, same_name, same_text, same_length) at asked)

-- a row that was found is no longer than the text
pub row-within : (rows : List ReferenceRow) (text bytes : List ℕ) (row : ReferenceRow) (n : ℕ)
    → Some row ≡ longest rows text → n ≡ length row.name → bytes ≡ text → n ≤ length bytes
row-within rows text bytes row n found size same =
    rw (size, same) (subst (λ o. Within (length text) o) (sym found) (longest-within rows text))
