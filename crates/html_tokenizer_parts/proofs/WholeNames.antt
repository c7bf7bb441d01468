-- What a name of the table stands for.
use Rattle.std.proofs.Common.{◌≡◌, ◌∙◌, ℕ, Bool, true, false, nat_eq, not, List, [], ◌∷◌, length, drop, Some, refl, sym, ap, subst}
use Rattle.std.specs.Prelude.{IsTrue, ◌&&◌}
use Rattle.std.proofs.lemmas.Bool.{true≢false}
use Rattle.std.proofs.lemmas.List.Elements.{All-contains}
use Rattle.std.proofs.Math.Seq.{drop-length}
use Rattle.html_tokens.specs.Reference.{named_by}
use Rattle.html_tokens.specs.Table.{longest, values}
use Rattle.html_tokens.specs.declared.table.ReferenceRow.{ReferenceRow}
use Rattle.html_references.specs.References.{IsCheckedTable, MatchesLongest, is_front, is_reference_name}
use Rattle.html_tokenizer_parts.specs.CharRefs.{IsWhole, decided, ends_in_semicolon, is_faulty, is_text_before, reference_of}
use Rattle.html_tokenizer_parts.specs.declared.numbers.Found.{Found}
use Rattle.html_tokenizer_parts.proofs.HeldFronts.{hash-unnamed}

and-false : (b : Bool) → (b && false) ≡ false
and-false true = refl
and-false false = refl

-- a name before which nothing goes on is no text of a value
none-behind : (in_value : Bool) (name cs : List ℕ) → cs ≡ [] → (in_value && is_text_before name cs false) ≡ false
none-behind in_value name cs e = rw e (ap (λ b. in_value && b) (and-false (not (ends_in_semicolon name))) ∙ and-false in_value)

named-whole : (b : Bool) (row : ReferenceRow) → b ≡ false → named_by b row ≡ Some (record { chars = values row; len = length row.name })
named-whole b row e = rw e refl

past-name : (name cs : List ℕ) → name ≡ cs → drop (length name) cs ≡ []
past-name name cs e = rw e (drop-length cs)

whole-stands : (rows : List ReferenceRow) → IsCheckedTable rows → (h : ℕ) (hs : List ℕ) (row : ReferenceRow)
    (in_value : Bool) → longest rows (h ∷ hs) ≡ Some row → row.name ≡ h ∷ hs → is_front rows (h ∷ hs) ≡ true
    → decided in_value rows (h ∷ hs) false ≡ Some (record { chars = values row; len = length row.name })
whole-stands rows checked h hs row in_value found named front =
    rw (hash-unnamed h hs rows checked.names front, found)
    (named-whole _ row (none-behind in_value row.name (drop (length row.name) (h ∷ hs)) (past-name row.name (h ∷ hs) named)))

whole-faultless : (rows : List ReferenceRow) → IsCheckedTable rows → (h : ℕ) (hs : List ℕ) (row : ReferenceRow)
    → longest rows (h ∷ hs) ≡ Some row → row.name ≡ h ∷ hs → is_front rows (h ∷ hs) ≡ true → ends_in_semicolon (h ∷ hs) ≡ true
    → is_faulty false rows (h ∷ hs) false ≡ false
whole-faultless rows checked h hs row found named front ends =
    rw (hash-unnamed h hs rows checked.names front, found) (ap not (ap ends_in_semicolon named ∙ ends))

pub whole-is : (rows : List ReferenceRow) → IsCheckedTable rows → (cs : List ℕ) (row : ReferenceRow) (found : Found)
    → longest rows cs ≡ Some row → row.name ≡ cs → is_front rows cs ≡ true → MatchesLongest rows cs (Some row)
    → reference_of found ≡ record { chars = values row; len = length row.name } → IsWhole rows cs found
whole-is rows checked [] row found is named front fits same =
    let good : is_reference_name row.name ≡ true = All-contains (λ r. IsTrue (is_reference_name r.name)) rows
    row checked.names fits.among in
    absurd (true≢false (sym (subst (λ name. is_reference_name name ≡ true) named good)))
whole-is rows checked (h ∷ hs) row found is named front fits same = record {
  front = front;
  stands = λ in_value. ap (λ r. Some r) same ∙ sym (whole-stands rows checked h hs row in_value is named front);
  faultless = λ ends. whole-faultless rows checked h hs row is named front ends;
  len = ap (λ r. r.len) same ∙ ap length named;
}
