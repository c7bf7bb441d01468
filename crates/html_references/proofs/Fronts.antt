-- Texts that names of a table begin with, and what no name begins with.
use Rattle.std.proofs.Common.{◌≡◌, ◌∙◌, ℕ, ◌<◌, suc, zero, Bool, true, false, List, [], ◌∷◌, ◌++◌, length, refl, sym, ap, arith}
use Rattle.std.specs.Prelude.{nat_eq, nat_lt, ◌&&◌, ◌||◌, slice_index}
use Rattle.std.specs.List.{starts_with}
use Rattle.std.specs.Str.{bytes_eq, IsUtf8, chars}
use Rattle.std.proofs.lemmas.Bool.{lt-ltb, or_parts}
use Rattle.std.proofs.lemmas.Bool.Decides.{nat_tests}
use Rattle.markup.specs.Plain.{is_plain}
use Rattle.html_references.specs.Order.{IsOrder, name_at, ordered_name}
use Rattle.html_references.specs.References.{goes_on, goes_on_after, is_front, is_named, longest}
use Rattle.html_references.proofs.Begins.{fitting-is}
use Rattle.html_references.proofs.Longest.{named_at}
use Rattle.html_references.proofs.Matches.{place_of_any}
use Rattle.html_references.proofs.Names.{is_plain-name}
use Rattle.html_references.proofs.Spelled.{front_plain, same_test}
use Rattle.html_tokens.specs.declared.table.ReferenceRow.{ReferenceRow}

nat_eq-sym : (a b : ℕ) → nat_eq a b ≡ nat_eq b a
nat_eq-sym a b = grind (arith, nat_tests)

under_first : (b x y z : Bool) → (b && x) ≡ false → (x ≡ false → y ≡ z) → (b && y) ≡ (b && z)
under_first true x y z e h = h e
under_first false x y z e h = refl

and-false : (b : Bool) → (b && true) ≡ false → b ≡ false
and-false true e = e
and-false false e = refl

-- a name that does not begin with what is held and one character more begins a longer text where it begins what is held
starts_with-stop : (held : List ℕ) (c : ℕ) (t name : List ℕ) → starts_with nat_eq name (held ++ c ∷ []) ≡ false
    → starts_with nat_eq (held ++ c ∷ t) name ≡ starts_with nat_eq held name
starts_with-stop held c t [] g = refl
starts_with-stop [] c t (n ∷ ns) g = rw (nat_eq-sym n c, and-false (nat_eq c n) g) refl
starts_with-stop (h ∷ hs) c t (n ∷ ns) g =
    under_first (nat_eq n h) _ _ _ (rw (nat_eq-sym n h) g) (starts_with-stop hs c t ns)

-- where no name begins with what is held and one character more, what follows does not change the longest name
pub longest-stop : (rows : List ReferenceRow) (held : List ℕ) (c : ℕ) (t : List ℕ)
    → is_front rows (held ++ c ∷ []) ≡ false → longest rows (held ++ c ∷ t) ≡ longest rows held
longest-stop [] held c t g = refl
longest-stop (row ∷ rows) held c t g =
    let p = or_parts (starts_with nat_eq row.name (held ++ c ∷ [])) (is_front rows (held ++ c ∷ [])) g in
    rw (fitting-is (held ++ c ∷ t) row, fitting-is held row, starts_with-stop held c t row.name p.0, longest-stop rows held c t p.1) refl

shift : (a b : ℕ) → nat_lt (suc a) (suc b) ≡ nat_lt a b
shift a b = grind (arith, nat_tests)

under_or : (b x y z : Bool) → x ≡ (y || z) → (b && x) ≡ ((b && y) || (b && z))
under_or true x y z e = e
under_or false x y z e = refl

and_assoc : (a b c : Bool) → ((a && b) && c) ≡ (a && (b && c))
and_assoc true b c = refl
and_assoc false b c = refl

-- a name that begins with a text is that text, or goes on after it
name-front : (name text : List ℕ) → starts_with nat_eq name text ≡ (bytes_eq name text || goes_on_after text name)
name-front [] [] = refl
name-front [] (t ∷ ts) = refl
name-front (n ∷ ns) [] = sym (lt-ltb 0 (suc (length ns)) (omega arith))
name-front (n ∷ ns) (t ∷ ts) =
    rw (nat_eq-sym t n, shift (length ts) (length ns), and_assoc (nat_eq n t) (starts_with nat_eq ns ts) (nat_lt (length ts) (length ns)))
    (under_or (nat_eq n t) (starts_with nat_eq ns ts) (bytes_eq ns ts) (goes_on_after ts ns) (name-front ns ts))

or-pairs : (a b c d : Bool) → ((a || b) || (c || d)) ≡ ((a || c) || (b || d))
or-pairs true b c d = refl
or-pairs false true true d = refl
or-pairs false true false d = refl
or-pairs false false c d = refl

-- some name begins with a text: it is a name, or one goes on after it
pub front-or : (rows : List ReferenceRow) (text : List ℕ) → is_front rows text ≡ (is_named rows text || goes_on rows text)
front-or [] text = refl
front-or (row ∷ rows) text =
    ap (λ b. b || is_front rows text) (name-front row.name text)
    ∙ ap (λ b. (bytes_eq row.name text || goes_on_after text row.name) || b) (front-or rows text)
    ∙ or-pairs (bytes_eq row.name text) (goes_on_after text row.name) (is_named rows text) (goes_on rows text)

or-true : (a b : Bool) → a ≡ true → (a || b) ≡ true
or-true a b e = rw e refl

or-last : (a b : Bool) → b ≡ true → (a || b) ≡ true
or-last true b e = refl
or-last false b e = e

eq-itself : (n : ℕ) → nat_eq n n ≡ true
eq-itself n = grind (arith, nat_tests)

bytes_eq-itself : (name : List ℕ) → bytes_eq name name ≡ true
bytes_eq-itself [] = refl
bytes_eq-itself (n ∷ ns) = rw (eq-itself n, bytes_eq-itself ns) refl

-- the name at a place is one of the table
named-place : (rows : List ReferenceRow) (place : ℕ) → place < length rows → is_named rows (name_at rows place) ≡ true
named-place [] place l = absurd (omega arith)
named-place (row ∷ rows) zero l = or-true _ _ (bytes_eq-itself row.name)
named-place (row ∷ rows) (suc place) l = or-last _ _ (named-place rows place (omega arith))

-- the name of a row is a front
pub front-named : (rows : List ReferenceRow) (place : ℕ) (text : List ℕ) → place < length rows
    → name_at rows place ≡ text → is_front rows text ≡ true
front-named rows place text l e = front-or rows text ∙ or-true (is_named rows text) (goes_on rows text)
    (ap (is_named rows) (sym e) ∙ named-place rows place l)

-- a name of the order is a front
pub front-found : (rows : List ReferenceRow) (order text : List ℕ) (index : ℕ) → IsOrder rows order
    → index < length order → ordered_name rows order index ≡ text → true ≡ is_front rows text
front-found rows order text index o l e = sym (front-named rows (slice_index order index) text (o.ordered.within index l) e)

pub front-unnamed : (rows : List ReferenceRow) (text : List ℕ) → is_named rows text ≡ false → goes_on rows text ≡ is_front rows text
front-unnamed rows text e = sym (front-or rows text ∙ ap (λ b. b || goes_on rows text) e)

front_is_plain : (rows : List ReferenceRow) (order : List ℕ) → IsOrder rows order → (text : List ℕ)
    → is_front rows text ≡ true → is_plain text ≡ true
front_is_plain rows order o text g =
    let p = place_of_any (λ name. starts_with nat_eq name text) rows g in
    front_plain (name_at rows p.0) text (is_plain-name (name_at rows p.0) (named_at rows order o p.0 p.1)) p.2

-- names are of ASCII, so a text may be looked up by its bytes
pub is_front-chars : (rows : List ReferenceRow) (order bytes : List ℕ) → IsOrder rows order → IsUtf8 bytes
    → is_front rows bytes ≡ is_front rows (chars bytes)
is_front-chars rows order bytes o u = same_test (is_front rows) (front_is_plain rows order o) bytes u
