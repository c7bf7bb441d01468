-- Names are of ASCII alone, so texts may be compared with them by their bytes.
use Rattle.std.proofs.Common.{◌≡◌, ◌∙◌, ℕ, ◌<◌, suc, Bool, true, false, List, [], ◌∷◌, ◌++◌, length, drop, refl, sym, ap, arith}
use Rattle.std.specs.Prelude.{nat_eq, nat_lt}
use Rattle.std.specs.List.{starts_with}
use Rattle.std.specs.Str.{IsAscii, IsUtf8, chars}
use Rattle.std.proofs.lemmas.Bool.{and_parts, and_from, eqb-true, false_from_ne_true, true≢false}
use Rattle.std.proofs.lemmas.Bool.Decides.{Decides-eqb, same_from_decides}
use Rattle.std.proofs.lemmas.Slice.Eq.{starts_is}
use Rattle.std.proofs.lemmas.Str.{IsUtf8-from_ascii, chars-append, encodes-IsAscii, encodes-append, encodes-chars}
use lib.Utf8.{encodes}
use Rattle.markup.specs.Plain.{is_plain}
use Rattle.markup.proofs.Plain.{chars-plain}
use Rattle.html_references.specs.Order.{IsOrder, name_at}
use Rattle.html_references.specs.References.{goes_on, goes_on_after, is_reference_name, longest}
use Rattle.html_tokens.specs.declared.table.ReferenceRow.{ReferenceRow}
use Rattle.html_references.proofs.Begins.{fitting-is}
use Rattle.html_references.proofs.Longest.{named_at}
use Rattle.html_references.proofs.Matches.{place_of_any}
use Rattle.html_references.proofs.Names.{IsAscii-from_plain, bytes_of_plain, is_plain-name}

-- a test that only ASCII passes answers the same for bytes as for their characters
pub same_test : (test : List ℕ → Bool) → ((text : List ℕ) → test text ≡ true → is_plain text ≡ true)
    → (bytes : List ℕ) → IsUtf8 bytes → test bytes ≡ test (chars bytes)
same_test test only bytes u = decided (is_plain bytes) refl
  where
    decided : (b : Bool) → is_plain bytes ≡ b → test bytes ≡ test (chars bytes)
    decided true h = ap test (sym (chars-plain bytes h))
    decided false h =
        false_from_ne_true (test bytes) (λ e. true≢false (sym (only bytes e) ∙ h))
        ∙ sym (false_from_ne_true (test (chars bytes))
        (λ e. true≢false (sym (rw (bytes_of_plain bytes (chars bytes) u refl (only (chars bytes) e)) (only (chars bytes) e)) ∙ h)))

pub is_reference_name-chars : (bytes : List ℕ) → IsUtf8 bytes → is_reference_name bytes ≡ is_reference_name (chars bytes)
is_reference_name-chars = same_test is_reference_name is_plain-name

pub front_plain : (name front : List ℕ) → is_plain name ≡ true → starts_with nat_eq name front ≡ true → is_plain front ≡ true
front_plain name [] p s = refl
front_plain [] (f ∷ fs) p s = cc
front_plain (n ∷ ns) (f ∷ fs) p s =
    let a = and_parts (nat_eq f n) (starts_with nat_eq ns fs) s in
    let b = and_parts (nat_lt n 128) (is_plain ns) p in
    and_from (nat_lt f 128) (is_plain fs) (rw (eqb-true f n a.0) b.0) (front_plain ns fs b.1 a.1)

goes_on_plain : (rows : List ReferenceRow) (order : List ℕ) → IsOrder rows order → (held : List ℕ)
    → goes_on rows held ≡ true → is_plain held ≡ true
goes_on_plain rows order o held g =
    let p = place_of_any (goes_on_after held) rows g in
    front_plain (name_at rows p.0) held (is_plain-name (name_at rows p.0) (named_at rows order o p.0 p.1))
    (and_parts (starts_with nat_eq (name_at rows p.0) held) _ p.2).0

pub goes_on-chars : (rows : List ReferenceRow) (order bytes : List ℕ) → IsOrder rows order → IsUtf8 bytes
    → goes_on rows bytes ≡ goes_on rows (chars bytes)
goes_on-chars rows order bytes o u = same_test (goes_on rows) (goes_on_plain rows order o) bytes u

-- whether a text begins with a name shows in its bytes as in its characters
starts_with-chars : (bytes name : List ℕ) → IsUtf8 bytes → is_plain name ≡ true
    → starts_with nat_eq bytes name ≡ starts_with nat_eq (chars bytes) name
starts_with-chars bytes name u p =
    let ascii : IsAscii name = IsAscii-from_plain name p in
    let a = starts_is Decides-eqb bytes name (starts_with nat_eq bytes name) refl in
    let b = starts_is Decides-eqb (chars bytes) name (starts_with nat_eq (chars bytes) name) refl in
    same_from_decides {P = starts_with nat_eq bytes name ≡ true} (starts_with nat_eq bytes name) (starts_with nat_eq (chars bytes) name)
    (λ e. e, λ e. e) (
      λ e. a.1 (encodes (drop (length name) (chars bytes)))
          (sym (encodes-chars bytes u)
          ∙ (ap encodes (b.0 e) ∙ (encodes-append name (drop (length name) (chars bytes))
          ∙ ap (λ n. n ++ encodes (drop (length name) (chars bytes))) (encodes-IsAscii name ascii)))),
      λ e. b.1 (chars (drop (length name) bytes))
          (ap chars (a.0 e) ∙ (chars-append name (drop (length name) bytes) (IsUtf8-from_ascii name ascii)
          ∙ ap (λ n. n ++ chars (drop (length name) bytes)) (chars-plain name p))),
    )

longest-spelled : (rows : List ReferenceRow) (bytes : List ℕ) → IsUtf8 bytes
    → ((place : ℕ) → place < length rows → is_plain (name_at rows place) ≡ true) → longest rows bytes ≡ longest rows (chars bytes)
longest-spelled [] bytes u p = refl
longest-spelled (row ∷ rows) bytes u p =
    rw (
      fitting-is bytes row,
      fitting-is (chars bytes) row,
      starts_with-chars bytes row.name u (p 0 (omega arith)),
      longest-spelled rows bytes u (λ place l. p (suc place) (omega arith)),
    ) refl

pub longest-chars : (rows : List ReferenceRow) (order bytes : List ℕ) → IsOrder rows order → IsUtf8 bytes
    → longest rows bytes ≡ longest rows (chars bytes)
longest-chars rows order bytes o u = longest-spelled rows bytes u
    (λ place l. is_plain-name (name_at rows place) (named_at rows order o place l))
