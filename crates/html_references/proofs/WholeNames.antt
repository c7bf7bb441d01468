-- A name that ends in ";" goes on in no other name, so it is read whatever follows it.
use Rattle.std.proofs.Common.{◌≡◌, ◌∙◌, ℕ, ◌-◌, ◌<◌, ◌≤◌, Bool, true, false, List, [], ◌∷◌, ◌++◌, length, get_or, take, drop}
use Rattle.std.proofs.Common.{Option, Some, None, refl, sym, ap, subst, arith, ⊎_elim}
use Rattle.std.specs.Prelude.{nat_eq, not, ◌&&◌, ◌==◌, IsTrue, Contains, All}
use Rattle.std.specs.Char.{is_ascii_alphanumeric}
use Rattle.std.specs.List.{list_all, starts_with, ends_with}
use Rattle.std.proofs.lemmas.Bool.{and_parts, and_from, cases_order, cond-true, cond-false, eqb-true, or_cases, true≢false}
use Rattle.std.proofs.lemmas.Bool.Decides.{Decides-eqb, nat_tests}
use Rattle.std.proofs.lemmas.List.{get_or_default}
use Rattle.std.proofs.lemmas.List.Elements.{All-contains, All-head, All-tail, Contains-append_right}
use Rattle.std.proofs.lemmas.Slice.Eq.{ends_is}
use Rattle.html_tokens.specs.Reference.{is_text_in_value, named_by, reference_at}
use Rattle.html_tokens.specs.Table.{values, longest}
use Rattle.html_tokens.specs.declared.table.ReferenceRow.{ReferenceRow}
use Rattle.html_references.specs.References.{IsCheckedTable, MatchesLongest, is_front, is_reference_name, stem}
use Rattle.html_references.proofs.TableLaws.{longest-matches}

-- whether all characters but the last are letters and digits
abbrev is_alphanumeric_front : List ℕ → Bool
is_alphanumeric_front [] = true
is_alphanumeric_front (c ∷ []) = true
is_alphanumeric_front (c ∷ d ∷ t) = is_ascii_alphanumeric c && is_alphanumeric_front (d ∷ t)

front-all : (name : List ℕ) → list_all is_ascii_alphanumeric name ≡ true → is_alphanumeric_front name ≡ true
front-all [] h = refl
front-all (c ∷ []) h = refl
front-all (c ∷ d ∷ t) h =
    let p = and_parts (is_ascii_alphanumeric c) (list_all is_ascii_alphanumeric (d ∷ t)) h in
    and_from _ _ p.0 (front-all (d ∷ t) p.1)

front-push : (front : List ℕ) (last : ℕ) → list_all is_ascii_alphanumeric front ≡ true → is_alphanumeric_front (front ++ last ∷ []) ≡ true
front-push [] last h = refl
front-push (c ∷ []) last h = and_from _ _ (and_parts (is_ascii_alphanumeric c) true h).0 refl
front-push (c ∷ d ∷ t) last h =
    let p = and_parts (is_ascii_alphanumeric c) (list_all is_ascii_alphanumeric (d ∷ t)) h in
    and_from _ _ p.0 (front-push (d ∷ t) last p.1)

-- a name that ends in ";" is what stands before, and ";"
ends-split : (name : List ℕ) → ends_with nat_eq name (59 ∷ []) ≡ true → name ≡ take (length name - 1) name ++ 59 ∷ []
ends-split name e = (ends_is Decides-eqb name (59 ∷ []) true (sym e)).0 refl

stem-parts : (name : List ℕ) → is_reference_name name ≡ true → (not (length (stem name) == 0) ≡ true)
    × (list_all is_ascii_alphanumeric (stem name) ≡ true)
stem-parts name h = and_parts (not (length (stem name) == 0)) (list_all is_ascii_alphanumeric (stem name)) h

front-name : (name : List ℕ) (b : Bool) → ends_with nat_eq name (59 ∷ []) ≡ b → is_reference_name name ≡ true
    → is_alphanumeric_front name ≡ true
front-name name true e h =
    subst (λ n. is_alphanumeric_front n ≡ true) (sym (ends-split name e))
    (front-push (take (length name - 1) name) 59
    (subst (λ n. list_all is_ascii_alphanumeric n ≡ true) (cond-true _ _ _ e) (stem-parts name h).1))
front-name name false e h = front-all name (subst (λ n. list_all is_ascii_alphanumeric n ≡ true) (cond-false _ _ _ e) (stem-parts name h).1)

semicolon-no_letter : (c : ℕ) → nat_eq c 59 ≡ true → is_ascii_alphanumeric c ≡ true → ⊥
semicolon-no_letter c e h = true≢false (sym (rw (eqb-true c 59 e) at h))

-- no longer name begins a text that begins with a name with ";"
same-name : (front other t : List ℕ) → starts_with nat_eq ((front ++ 59 ∷ []) ++ t) other ≡ true
    → length front < length other → is_alphanumeric_front other ≡ true → other ≡ front ++ 59 ∷ []
same-name [] [] t s l f = absurd (omega arith)
same-name [] (c ∷ []) t s l f = ap (λ n. n ∷ []) (eqb-true c 59 (and_parts (nat_eq c 59) true s).0)
same-name [] (c ∷ d ∷ o) t s l f =
    absurd (semicolon-no_letter c (and_parts (nat_eq c 59) (starts_with nat_eq t (d ∷ o)) s).0 (and_parts (is_ascii_alphanumeric c) _ f).0)
same-name (x ∷ front) [] t s l f = absurd (omega arith)
same-name (x ∷ front) (c ∷ []) t s l f = absurd (omega arith)
same-name (x ∷ front) (c ∷ d ∷ o) t s l f =
    let p = and_parts (nat_eq c x) (starts_with nat_eq ((front ++ 59 ∷ []) ++ t) (d ∷ o)) s in
    let rest = same-name front (d ∷ o) t p.1 (omega arith) (and_parts (is_ascii_alphanumeric c) _ f).1 in
    ap (λ n. n ∷ d ∷ o) (eqb-true c x p.0) ∙ ap (λ n. x ∷ n) rest

-- rows of a checked table with one name are one row
only-row : (rows : List ReferenceRow) (row other : ReferenceRow) → IsCheckedTable rows
    → Contains rows row → Contains rows other → other.name ≡ row.name → other ≡ row
only-row rows row other c (i, l, e) (j, m, f) same =
    let there : get_or rows j row ≡ other = get_or_default rows j row other m ∙ f in
    ⊎_elim
    (λ (k : i ≡ j). sym there ∙ (ap (λ n. get_or rows n row) (sym k) ∙ e))
    (λ u. ⊎_elim
    (λ (k : i < j). absurd (c.distinct i j row k m (ap (λ r. r.name) e ∙ (sym same ∙ sym (ap (λ r. r.name) there)))))
    (λ (k : j < i). absurd (c.distinct j i row k l (ap (λ r. r.name) there ∙ (same ∙ sym (ap (λ r. r.name) e))))) u)
    (cases_order i j)

starts_with-front : (front t : List ℕ) → starts_with nat_eq (front ++ t) front ≡ true
starts_with-front [] t = refl
starts_with-front (c ∷ cs) t = and_from (nat_eq c c) _ (grind (arith, nat_tests)) (starts_with-front cs t)

length-push : (front : List ℕ) (last : ℕ) → length front < length (front ++ last ∷ [])
length-push [] last = omega arith
length-push (c ∷ cs) last = omega (arith, length-push cs last)

found : (rows : List ReferenceRow) (row : ReferenceRow) (front t : List ℕ) → IsCheckedTable rows
    → Contains rows row → row.name ≡ front ++ 59 ∷ [] → (o : Option ReferenceRow) → MatchesLongest rows (row.name ++ t) o → o ≡ Some row
found rows row front t c in_rows e None m =
    absurd (true≢false (sym (starts_with-front row.name t)
    ∙ All-contains (λ r. starts_with nat_eq (row.name ++ t) r.name ≡ false) rows row m in_rows))
found rows row front t c in_rows e (Some other) m =
    let no_longer : length row.name ≤ length other.name =
    All-contains (λ r. IsTrue (starts_with nat_eq (row.name ++ t) r.name) → length r.name ≤ length other.name)
    rows row m.longest in_rows (starts_with-front row.name t) in
    let longer : length front < length row.name = subst (λ n. length front < length n) (sym e) (length-push front 59) in
    let good : is_reference_name other.name ≡ true = All-contains (λ r. IsTrue (is_reference_name r.name)) rows other c.names m.among in
    let fits : starts_with nat_eq ((front ++ 59 ∷ []) ++ t) other.name ≡ true =
    subst (λ n. starts_with nat_eq (n ++ t) other.name ≡ true) e m.fits in
    let same : other.name ≡ row.name = same-name front other.name t fits (omega arith) (front-name other.name _ refl good) ∙ sym e in
    ap (λ r. Some r) (only-row rows row other c in_rows m.among same)

-- of a text that begins with a name with ";", that is the longest name
pub whole-longest : (rows : List ReferenceRow) → IsCheckedTable rows → (row : ReferenceRow)
    → Contains rows row → ends_with nat_eq row.name (59 ∷ []) ≡ true → (t : List ℕ) → longest rows (row.name ++ t) ≡ Some row
whole-longest rows c row in_rows e t =
    found rows row (take (length row.name - 1) row.name) t c in_rows (ends-split row.name e)
    (longest rows (row.name ++ t)) (longest-matches rows (row.name ++ t))

letter-no_hash : (c : ℕ) → is_ascii_alphanumeric c ≡ true → nat_eq c 35 ≡ false
letter-no_hash c h = grind (arith, nat_tests)

-- what holds of texts that don't begin with "#" holds of those that begin with letters or digits
at-letters : (P : List ℕ → Type 0) → ((c : ℕ) (u : List ℕ) → nat_eq c 35 ≡ false → P (c ∷ u)) → (front v t : List ℕ)
    → not (length front == 0) ≡ true → list_all is_ascii_alphanumeric front ≡ true → P ((front ++ v) ++ t)
at-letters P go [] v t some letters = absurd (true≢false (sym some))
at-letters P go (c ∷ front) v t some letters =
    go c ((front ++ v) ++ t) (letter-no_hash c (and_parts (is_ascii_alphanumeric c) (list_all is_ascii_alphanumeric front) letters).0)

named_by-false : (in_value b : Bool) (row : ReferenceRow) → b ≡ false → named_by (in_value && b) row ≡ Some
    (record { chars = values row; len = length row.name })
named_by-false true b row h = rw h refl
named_by-false false b row h = refl

whole-no_text : (name u : List ℕ) → ends_with nat_eq name (59 ∷ []) ≡ true → is_text_in_value name u ≡ false
whole-no_text name u e = rw e refl

named-read : (in_value : Bool) (rows : List ReferenceRow) (row : ReferenceRow) (c : ℕ) (u : List ℕ)
    → nat_eq c 35 ≡ false → longest rows (c ∷ u) ≡ Some row → ends_with nat_eq row.name (59 ∷ []) ≡ true
    → reference_at in_value rows (c ∷ u) ≡ Some (record { chars = values row; len = length row.name })
named-read in_value rows row c u n l e =
    rw (n, l) (named_by-false in_value (is_text_in_value row.name (drop (length row.name) (c ∷ u)))
    row (whole-no_text row.name (drop (length row.name) (c ∷ u)) e))

-- such a name is read as its row's characters
pub whole-read : (rows : List ReferenceRow) → IsCheckedTable rows → (row : ReferenceRow)
    → Contains rows row → ends_with nat_eq row.name (59 ∷ []) ≡ true → (in_value : Bool) (t : List ℕ)
    → reference_at in_value rows (row.name ++ t) ≡ Some (record { chars = values row; len = length row.name })
whole-read rows c row in_rows e in_value t =
    let front = take (length row.name - 1) row.name in
    let parts = stem-parts row.name (All-contains (λ r. IsTrue (is_reference_name r.name)) rows row c.names in_rows) in
    let short : stem row.name ≡ front = cond-true _ _ _ e in
    let P : List ℕ → Type 0 = λ u. longest rows u ≡ Some row → reference_at in_value rows u ≡ Some
    (record { chars = values row; len = length row.name }) in
    subst (λ n. P (n ++ t)) (sym (ends-split row.name e))
    (at-letters P (λ d u n l. named-read in_value rows row d u n l e) front (59 ∷ []) t
    (subst (λ n. not (length n == 0) ≡ true) short parts.0) (subst (λ n. list_all is_ascii_alphanumeric n ≡ true) short parts.1))
    (whole-longest rows c row in_rows e t)

-- NO NAME GOES ON BEHIND ";"

and-none : (b : Bool) → (b && false) ≡ false
and-none true = refl
and-none false = refl

none-begins : (front : List ℕ) (c : ℕ) → starts_with nat_eq [] ((front ++ 59 ∷ []) ++ c ∷ []) ≡ false
none-begins [] c = refl
none-begins (x ∷ front) c = refl

letter-no_semicolon : (c : ℕ) → is_ascii_alphanumeric c ≡ true → nat_eq 59 c ≡ false
letter-no_semicolon c h = grind (arith, nat_tests)

name-stops : (front other : List ℕ) (c : ℕ) → is_alphanumeric_front other ≡ true → starts_with nat_eq other
    ((front ++ 59 ∷ []) ++ c ∷ []) ≡ false
name-stops front [] c h = none-begins front c
name-stops [] (o ∷ []) c h = and-none (nat_eq 59 o)
name-stops [] (o ∷ d ∷ os) c h = rw (letter-no_semicolon o (and_parts (is_ascii_alphanumeric o) _ h).0) refl
name-stops (x ∷ front) (o ∷ []) c h = rw (none-begins front c) (and-none (nat_eq x o))
name-stops (x ∷ front) (o ∷ d ∷ os) c h =
    rw (name-stops front (d ∷ os) c (and_parts (is_ascii_alphanumeric o) _ h).1) (and-none (nat_eq x o))

rows-stop : (rows : List ReferenceRow) (front : List ℕ) (c : ℕ) → All (λ row. IsTrue (is_reference_name row.name))
    rows → is_front rows ((front ++ 59 ∷ []) ++ c ∷ []) ≡ false
rows-stop [] front c h = refl
rows-stop (row ∷ rows) front c h =
    let named : is_reference_name row.name ≡ true = All-head (λ row. IsTrue (is_reference_name row.name)) row rows h in
    rw (
      name-stops front row.name c (front-name row.name _ refl named),
      rows-stop rows front c (All-tail (λ row. IsTrue (is_reference_name row.name)) row rows h),
    ) refl

pub whole-stops : (rows : List ReferenceRow) → IsCheckedTable rows → (held : List ℕ) (c : ℕ) → ends_with nat_eq held
    (59 ∷ []) ≡ true → is_front rows (held ++ c ∷ []) ≡ false
whole-stops rows checked held c e = subst (λ text. is_front rows (text ++ c ∷ []) ≡ false) (sym (ends-split held e))
    (rows-stop rows (take (length held - 1) held) c checked.names)

-- a name that begins with a text that ends in ";" is that text
name-is : (front other : List ℕ) → is_alphanumeric_front other ≡ true → starts_with nat_eq other
    (front ++ 59 ∷ []) ≡ true → other ≡ front ++ 59 ∷ []
name-is [] [] h s = absurd (true≢false (sym s))
name-is (x ∷ front) [] h s = absurd (true≢false (sym s))
name-is [] (o ∷ []) h s = ap (λ c. c ∷ []) (sym (eqb-true 59 o (and_parts (nat_eq 59 o) _ s).0))
name-is [] (o ∷ d ∷ os) h s =
    absurd (true≢false (sym (and_parts (nat_eq 59 o) _ s).0 ∙ letter-no_semicolon o (and_parts (is_ascii_alphanumeric o) _ h).0))
name-is (x ∷ front) (o ∷ []) h s = absurd (true≢false (sym (and_parts (nat_eq x o) _ s).1 ∙ nothing-begins front))
  where
    nothing-begins : (front : List ℕ) → starts_with nat_eq [] (front ++ 59 ∷ []) ≡ false
    nothing-begins [] = refl
    nothing-begins (c ∷ cs) = refl
name-is (x ∷ front) (o ∷ d ∷ os) h s =
    let p = and_parts (nat_eq x o) _ s in
    ap (λ c. c ∷ d ∷ os) (sym (eqb-true x o p.0)) ∙ ap (λ u. x ∷ u) (name-is front (d ∷ os) (and_parts (is_ascii_alphanumeric o) _ h).1 p.1)

-- what begins a name of the table and ends in ";" is the name of a row
pub whole-row : (rows : List ReferenceRow) (text : List ℕ) → All (λ row. IsTrue (is_reference_name row.name)) rows
    → is_front rows text ≡ true → ends_with nat_eq text (59 ∷ []) ≡ true → (row : ReferenceRow) × Contains rows row × (row.name ≡ text)
whole-row [] text names f e = absurd (true≢false (sym f))
whole-row (row ∷ rows) text names f e =
    ⊎_elim
    (λ (s : starts_with nat_eq row.name text ≡ true).
    let split : text ≡ take (length text - 1) text ++ 59 ∷ [] = ends-split text e in
    let named : is_reference_name row.name ≡ true = All-head (λ row. IsTrue (is_reference_name row.name)) row rows names in (
      row,
      (0, omega arith, refl),
      name-is (take (length text - 1) text) row.name (front-name row.name _ refl named)
          (subst (λ u. starts_with nat_eq row.name u ≡ true) split s) ∙ sym split,
    ))
    (λ (s : is_front rows text ≡ true).
    let r = whole-row rows text (All-tail (λ row. IsTrue (is_reference_name row.name)) row rows names) s e in
    (r.0, Contains-append_right (row ∷ []) rows r.0 r.1, r.2))
    (or_cases (starts_with nat_eq row.name text) _ f)
