-- Names are of ASCII alone, so their bytes are their characters.
use Rattle.std.proofs.Common.{◌≡◌, ◌∙◌, ℕ, ◌-◌, Bool, true, false, List, [], ◌∷◌, ◌++◌, length, take, refl, sym, ap, arith}
use Rattle.std.specs.Prelude.{nat_eq, nat_lt, not, ◌==◌}
use Rattle.std.specs.Char.{is_ascii_alphanumeric}
use Rattle.std.specs.List.{list_all, ends_with}
use Rattle.std.specs.Str.{IsAscii, IsUtf8, chars}
use Rattle.std.proofs.lemmas.Bool.{and_parts, and_from, cond-true, cond-false, ltb-true}
use Rattle.std.proofs.lemmas.Bool.Decides.{Decides-eqb, nat_tests}
use Rattle.std.proofs.lemmas.Slice.Eq.{ends_is}
use Rattle.std.proofs.lemmas.Str.Ascii.{IsAscii-cons, IsAscii-nil}
use Rattle.std.proofs.lemmas.Str.{encodes-IsAscii, encodes-chars}
use lib.Utf8.{encodes}
use Rattle.markup.specs.Plain.{is_plain}
use Rattle.html_references.specs.References.{is_reference_name, stem}

pub is_plain-append : (xs ys : List ℕ) → is_plain xs ≡ true → is_plain ys ≡ true → is_plain (xs ++ ys) ≡ true
is_plain-append [] ys p q = q
is_plain-append (x ∷ xs) ys p q = let h = and_parts _ _ p in and_from _ _ h.0 (is_plain-append xs ys h.1 q)

alphanumeric-plain : (c : ℕ) → is_ascii_alphanumeric c ≡ true → nat_lt c 128 ≡ true
alphanumeric-plain c h = grind (arith, nat_tests)

list_all-plain : (xs : List ℕ) → list_all is_ascii_alphanumeric xs ≡ true → is_plain xs ≡ true
list_all-plain [] h = refl
list_all-plain (x ∷ xs) h = let p = and_parts _ _ h in and_from _ _ (alphanumeric-plain x p.0) (list_all-plain xs p.1)

stem-plain : (name : List ℕ) (b : Bool) → ends_with nat_eq name (59 ∷ []) ≡ b → is_plain (stem name) ≡ true → is_plain name ≡ true
stem-plain name true e h =
    rw ((ends_is Decides-eqb name (59 ∷ []) true (sym e)).0 refl)
    (is_plain-append (take (length name - 1) name) (59 ∷ []) (rw (cond-true _ _ _ e) at h) refl)
stem-plain name false e h = rw (cond-false _ _ _ e) at h

pub is_plain-name : (name : List ℕ) → is_reference_name name ≡ true → is_plain name ≡ true
is_plain-name name h = stem-plain name _ refl (list_all-plain (stem name) (and_parts (not (length (stem name) == 0)) _ h).1)

pub IsAscii-from_plain : (text : List ℕ) → is_plain text ≡ true → IsAscii text
IsAscii-from_plain [] h = IsAscii-nil
IsAscii-from_plain (c ∷ cs) h = let p = and_parts _ _ h in IsAscii-cons c cs (ltb-true c 128 p.0) (IsAscii-from_plain cs p.1)

-- text of ASCII alone is spelled by its characters
pub bytes_of_plain : (bytes name : List ℕ) → IsUtf8 bytes → chars bytes ≡ name → is_plain name ≡ true → bytes ≡ name
bytes_of_plain bytes name u e p = sym (encodes-chars bytes u) ∙ (ap encodes e ∙ encodes-IsAscii name (IsAscii-from_plain name p))
