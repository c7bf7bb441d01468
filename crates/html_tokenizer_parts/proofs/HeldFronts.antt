-- By which characters a reference that is held goes on.
use Rattle.std.proofs.Common.{◌≡◌, ◌∙◌, ℕ, suc, ◌-◌, ◌==◌, Bool, true, false, cond, List, [], ◌∷◌, ◌++◌, length, take, refl}
use Rattle.std.proofs.Common.{sym, ap, subst, append_assoc, inl, inr}
use Rattle.std.specs.Prelude.{nat_eq, not, ◌&&◌, ◌||◌, ◌⊎◌, IsTrue, All}
use Rattle.std.specs.Char.{is_ascii_alphanumeric}
use Rattle.std.specs.List.{list_all, starts_with, ends_with}
use Rattle.std.proofs.Common.{arith}
use Rattle.std.proofs.lemmas.Bool.{and_parts, cond-true, cond-false, eqb-true, false_from_ne_true, true≢false}
use Rattle.std.proofs.lemmas.Bool.Decides.{Decides-eqb, nat_tests}
use Rattle.std.proofs.lemmas.List.Elements.{All-tail}
use Rattle.std.proofs.lemmas.Slice.Eq.{ends_is}
use Rattle.html_tokens.specs.declared.table.ReferenceRow.{ReferenceRow}
use Rattle.html_references.specs.References.{IsCheckedTable, is_front, is_reference_name, stem}
use Rattle.html_tokenizer_parts.specs.CharRefs.{are_digits, is_front_by, is_held, is_held_front, is_named_with, is_no_text}
use Rattle.html_tokenizer_parts.specs.CharRefs.{is_number_by, is_number_front, may_go_on, stops}

pub or-cases : {P : Type 0} (a b : Bool) → (a || b) ≡ true → (a ≡ true → P) → (b ≡ true → P) → P
or-cases true b h f g = f refl
or-cases false b h f g = g h

named-held : (c : ℕ) → is_named_with c ≡ true → is_held c ≡ true
named-held c h = rw h refl

-- NAMES

letters-named : (name : List ℕ) → list_all is_ascii_alphanumeric name ≡ true → list_all is_named_with name ≡ true
letters-named [] h = refl
letters-named (c ∷ cs) h =
    let p = and_parts (is_ascii_alphanumeric c) (list_all is_ascii_alphanumeric cs) h in
    rw (p.0, letters-named cs p.1) refl

letters-pushed : (front : List ℕ) → list_all is_ascii_alphanumeric front ≡ true → list_all is_named_with (front ++ 59 ∷ []) ≡ true
letters-pushed [] h = refl
letters-pushed (c ∷ cs) h =
    let p = and_parts (is_ascii_alphanumeric c) (list_all is_ascii_alphanumeric cs) h in
    rw (p.0, letters-pushed cs p.1) refl

name-letters : (name : List ℕ) → is_reference_name name ≡ true → list_all is_ascii_alphanumeric (stem name) ≡ true
name-letters name h = (and_parts (not (length (stem name) == 0)) (list_all is_ascii_alphanumeric (stem name)) h).1

-- a name of a checked table is letters, digits and ";"
name-named : (name : List ℕ) (b : Bool) → ends_with nat_eq name (59 ∷ []) ≡ b → is_reference_name name ≡ true
    → list_all is_named_with name ≡ true
name-named name true e h =
    let split : name ≡ take (length name - 1) name ++ 59 ∷ [] = (ends_is Decides-eqb name (59 ∷ []) true (sym e)).0 refl in
    let short : stem name ≡ take (length name - 1) name = cond-true _ _ _ e in
    subst (λ n. list_all is_named_with n ≡ true) (sym split)
    (letters-pushed (take (length name - 1) name) (subst (λ n. list_all is_ascii_alphanumeric n ≡ true) short (name-letters name h)))
name-named name false e h = letters-named name
    (subst (λ n. list_all is_ascii_alphanumeric n ≡ true) (cond-false _ _ _ e) (name-letters name h))

last-named : (name cs : List ℕ) (c : ℕ) → list_all is_named_with name ≡ true → starts_with nat_eq name
    (cs ++ c ∷ []) ≡ true → is_named_with c ≡ true
last-named [] [] c h s = absurd (true≢false (sym s))
last-named [] (d ∷ cs) c h s = absurd (true≢false (sym s))
last-named (n ∷ ns) [] c h s =
    let e : c ≡ n = eqb-true c n (and_parts (nat_eq c n) (starts_with nat_eq ns []) s).0 in
    ap is_named_with e ∙ (and_parts (is_named_with n) (list_all is_named_with ns) h).0
last-named (n ∷ ns) (d ∷ cs) c h s =
    last-named ns cs c (and_parts (is_named_with n) (list_all is_named_with ns) h).1
    (and_parts (nat_eq d n) (starts_with nat_eq ns (cs ++ c ∷ [])) s).1

-- what a name begins with ends in a letter, a digit or ";"
front-last : (rows : List ReferenceRow) → All (λ row. IsTrue (is_reference_name row.name)) rows
    → (cs : List ℕ) (c : ℕ) → is_front rows (cs ++ c ∷ []) ≡ true → is_named_with c ≡ true
front-last [] names cs c h = absurd (true≢false (sym h))
front-last (row ∷ rows) names cs c h =
    or-cases (starts_with nat_eq row.name (cs ++ c ∷ [])) (is_front rows (cs ++ c ∷ [])) h
    (λ s. last-named row.name cs c (name-named row.name (ends_with nat_eq row.name (59 ∷ [])) refl (names 0 row (omega arith))) s)
    (λ s. front-last rows (All-tail (λ row. IsTrue (is_reference_name row.name)) row rows names) cs c s)

-- what a name begins with is letters, digits and ";"
front-of : (name cs : List ℕ) → list_all is_named_with name ≡ true → starts_with nat_eq name cs ≡ true → list_all is_held cs ≡ true
front-of name [] h s = refl
front-of [] (c ∷ cs) h s = absurd (true≢false (sym s))
front-of (n ∷ ns) (c ∷ cs) h s =
    let p = and_parts (nat_eq c n) (starts_with nat_eq ns cs) s in
    let q = and_parts (is_named_with n) (list_all is_named_with ns) h in
    rw (ap is_held (eqb-true c n p.0) ∙ named-held n q.0, front-of ns cs q.1 p.1) refl

names-front : (rows : List ReferenceRow) → All (λ row. IsTrue (is_reference_name row.name)) rows → (cs : List ℕ)
    → is_front rows cs ≡ true → list_all is_held cs ≡ true
names-front [] names cs h = absurd (true≢false (sym h))
names-front (row ∷ rows) names cs h =
    or-cases (starts_with nat_eq row.name cs) (is_front rows cs) h
    (λ s. front-of row.name cs (name-named row.name (ends_with nat_eq row.name (59 ∷ [])) refl (names 0 row (omega arith))) s)
    (λ s. names-front rows (All-tail (λ row. IsTrue (is_reference_name row.name)) row rows names) cs s)

first-named : (name : List ℕ) (h : ℕ) (hs : List ℕ) → list_all is_named_with name ≡ true → starts_with nat_eq name
    (h ∷ hs) ≡ true → is_named_with h ≡ true
first-named [] h hs all s = absurd (true≢false (sym s))
first-named (n ∷ ns) h hs all s =
    ap is_named_with (eqb-true h n (and_parts (nat_eq h n) (starts_with nat_eq ns hs) s).0)
    ∙ (and_parts (is_named_with n) (list_all is_named_with ns) all).0

front-first : (rows : List ReferenceRow) → All (λ row. IsTrue (is_reference_name row.name)) rows
    → (h : ℕ) (hs : List ℕ) → is_front rows (h ∷ hs) ≡ true → is_named_with h ≡ true
front-first [] names h hs f = absurd (true≢false (sym f))
front-first (row ∷ rows) names h hs f =
    or-cases (starts_with nat_eq row.name (h ∷ hs)) (is_front rows (h ∷ hs)) f
    (λ s. first-named row.name h hs (name-named row.name (ends_with nat_eq row.name (59 ∷ [])) refl (names 0 row (omega arith))) s)
    (λ s. front-first rows (All-tail (λ row. IsTrue (is_reference_name row.name)) row rows names) h hs s)

-- what a name of the table begins with begins with no "#"
pub hash-unnamed : (h : ℕ) (hs : List ℕ) (rows : List ReferenceRow)
    → All (λ row. IsTrue (is_reference_name row.name)) rows → is_front rows (h ∷ hs) ≡ true → nat_eq h 35 ≡ false
hash-unnamed h hs rows names f = no_hash h (front-first rows names h hs f)
  where
    no_hash : (h : ℕ) → is_named_with h ≡ true → nat_eq h 35 ≡ false
    no_hash h e = grind (arith, nat_tests, e)

-- what some name begins with is held as the front of a reference
pub front-held : (rows : List ReferenceRow) → IsCheckedTable rows → (cs : List ℕ) → is_front rows cs ≡ true
    → (is_held_front rows cs ≡ true) × (list_all is_held cs ≡ true)
front-held rows checked [] f = (refl, refl)
front-held rows checked (h ∷ hs) f = (rw (hash-unnamed h hs rows checked.names f) f, names-front rows checked.names (h ∷ hs) f)

-- NUMBERS

no_text-more : (ds : List ℕ) (c : ℕ) (u : List ℕ) → is_no_text (ds ++ c ∷ u) ≡ false
no_text-more [] c u = refl
no_text-more (d ∷ ds) c u = refl

pub none-of : (a b : Bool) → (a && (b && false)) ≡ false
none-of true true = refl
none-of true false = refl
none-of false b = refl

not-closed : (some b : Bool) (ds : List ℕ) (c : ℕ) (u : List ℕ) → (some && (b && is_no_text (ds ++ c ∷ u))) ≡ false
not-closed some b ds c u = ap (λ x. some && (b && x)) (no_text-more ds c u) ∙ none-of some b

digit-named : (hex : Bool) (c : ℕ) → stops hex c ≡ false → is_named_with c ≡ true
digit-named true c h = grind (arith, nat_tests)
digit-named false c h = grind (arith, nat_tests)

last-by : (hex : Bool) (some : Bool) (c : ℕ) (b : Bool) → stops hex c ≡ b → cond b (some && (nat_eq c 59 && true))
    true ≡ true → is_named_with c ≡ true
last-by hex some c true e h =
    let is : nat_eq c 59 ≡ true = (and_parts (nat_eq c 59) true (and_parts some (nat_eq c 59 && true) h).1).0 in
    grind (arith, nat_tests)
last-by hex some c false e h = digit-named hex c e

digits-step : (hex : Bool) (some : Bool) (d : ℕ) (ds : List ℕ) (c : ℕ) (b : Bool)
    → cond b (some && (nat_eq d 59 && is_no_text (ds ++ c ∷ []))) (are_digits (stops hex) true (ds ++ c ∷ [])) ≡ true
    → (are_digits (stops hex) true (ds ++ c ∷ []) ≡ true → is_named_with c ≡ true) → is_named_with c ≡ true
digits-step hex some d ds c true h more = absurd (true≢false (sym h ∙ not-closed some (nat_eq d 59) ds c []))
digits-step hex some d ds c false h more = more h

digits-last : (hex : Bool) (some : Bool) (ds : List ℕ) (c : ℕ) → are_digits (stops hex) some (ds ++ c ∷ []) ≡ true → is_named_with c ≡ true
digits-last hex some [] c h = last-by hex some c (stops hex c) refl h
digits-last hex some (d ∷ ds) c h = digits-step hex some d ds c (stops hex d) h (digits-last hex true ds c)

prefix-named : (c : ℕ) → (nat_eq c 120 || nat_eq c 88) ≡ true → is_named_with c ≡ true
prefix-named c h = grind (arith, nat_tests)

first-by : (c : ℕ) (b : Bool) → (nat_eq c 120 || nat_eq c 88) ≡ b → is_number_by b c [] ≡ true → is_named_with c ≡ true
first-by c true e h = prefix-named c e
first-by c false e h = digits-last false false [] c h

more-by : (b : Bool) (d : ℕ) (ds : List ℕ) (c : ℕ) → is_number_by b d (ds ++ c ∷ []) ≡ true → is_named_with c ≡ true
more-by true d ds c h = digits-last true false ds c h
more-by false d ds c h = digits-last false false (d ∷ ds) c h

number-last : (hs : List ℕ) (c : ℕ) → is_number_front (hs ++ c ∷ []) ≡ true → is_named_with c ≡ true
number-last [] c h = first-by c (nat_eq c 120 || nat_eq c 88) refl h
number-last (d ∷ ds) c h = more-by (nat_eq d 120 || nat_eq d 88) d ds c h

hash-held : (c : ℕ) → nat_eq c 35 ≡ true → is_held c ≡ true
hash-held c h = grind (arith, nat_tests)

begun-by : (rows : List ReferenceRow) → IsCheckedTable rows → (c : ℕ) (b : Bool) → nat_eq c 35 ≡ b
    → is_front_by b rows c [] ≡ true → is_held c ≡ true
begun-by rows checked c true e h = hash-held c e
begun-by rows checked c false e h = named-held c (front-last rows checked.names [] c h)

goes_on-by : (rows : List ReferenceRow) → IsCheckedTable rows → (b : Bool) (h : ℕ) (hs : List ℕ) (c : ℕ)
    → is_front_by b rows h (hs ++ c ∷ []) ≡ true → is_held c ≡ true
goes_on-by rows checked true h hs c g = named-held c (number-last hs c g)
goes_on-by rows checked false h hs c g = named-held c (front-last rows checked.names (h ∷ hs) c g)

-- a reference goes on only by what is held
pub goes_on-held : (rows : List ReferenceRow) → IsCheckedTable rows → (cs : List ℕ) (c : ℕ) → may_go_on rows cs c ≡ true → is_held c ≡ true
goes_on-held rows checked [] c g = begun-by rows checked c (nat_eq c 35) refl g
goes_on-held rows checked (h ∷ hs) c g = goes_on-by rows checked (nat_eq h 35) h hs c g

decided-not : (b : Bool) → (b ≡ true → ⊥) → false ≡ b
decided-not true f = absurd (f refl)
decided-not false f = refl

-- by what is not held it does not
pub other-ends : (rows : List ReferenceRow) → IsCheckedTable rows → (cs : List ℕ) (c : ℕ) → is_held c ≡ false → false ≡ may_go_on rows cs c
other-ends rows checked cs c h = decided-not (may_go_on rows cs c) (λ g. true≢false (sym (goes_on-held rows checked cs c g) ∙ h))

-- HOW DIGITS GO ON

closed-step : (hex some : Bool) (d : ℕ) (front : List ℕ) (c : ℕ) (b : Bool) → are_digits (stops hex) true
    (front ++ 59 ∷ c ∷ []) ≡ false → cond b (some && (nat_eq d 59 && is_no_text (front ++ 59 ∷ c ∷ [])))
    (are_digits (stops hex) true (front ++ 59 ∷ c ∷ [])) ≡ false
closed-step hex some d front c true h = not-closed some (nat_eq d 59) front 59 (c ∷ [])
closed-step hex some d front c false h = h

closed-behind : (hex some : Bool) (front : List ℕ) (c : ℕ) → are_digits (stops hex) some (front ++ 59 ∷ c ∷ []) ≡ false
closed-behind true some [] c = none-of some true
closed-behind false some [] c = none-of some true
closed-behind hex some (d ∷ front) c = closed-step hex some d front c (stops hex d) (closed-behind hex true front c)

-- after ";" nothing goes on
pub digits-closed : (hex : Bool) (ds : List ℕ) (c : ℕ) → ends_with nat_eq ds (59 ∷ []) ≡ true → false ≡ are_digits
    (stops hex) false (ds ++ c ∷ [])
digits-closed hex ds c e =
    let front = take (length ds - 1) ds in
    let split : ds ≡ front ++ 59 ∷ [] = (ends_is Decides-eqb ds (59 ∷ []) true (sym e)).0 refl in
    sym (ap (λ x. are_digits (stops hex) false (x ++ c ∷ [])) split ∙ ap (are_digits (stops hex) false)
    (append_assoc front (59 ∷ []) (c ∷ [])) ∙ closed-behind hex false front c)

-- what digits go on by, or they end in ";"
abbrev GoOn : Bool → Bool → List ℕ → ℕ → Type 0
GoOn hex some ds c = (are_digits (stops hex) some (ds ++ c ∷ []) ≡
    (not (stops hex c) || ((some || not (is_no_text ds)) && nat_eq c 59))) ⊎ ((front : List ℕ) × (ds ≡ front ++ 59 ∷ []))

one-more : (b some x : Bool) → cond b (some && (x && true)) true ≡ (not b || ((some || false) && x))
one-more true true true = refl
one-more true true false = refl
one-more true false x = refl
one-more false some x = refl

pub text-alone : (some b : Bool) (ds : List ℕ) → (some && (b && is_no_text ds)) ≡ true → ds ≡ []
text-alone some b [] e = refl
text-alone some b (c ∷ ds) e = absurd (true≢false (sym e ∙ none-of some b))

some-before : (some x z y : Bool) → (y || ((true || x) && z)) ≡ (y || ((some || true) && z))
some-before true x z y = refl
some-before false x z y = refl

go_on-step : (hex some : Bool) (d : ℕ) (ds : List ℕ) (c : ℕ) (b : Bool) → stops hex d ≡ b
    → cond b (some && (nat_eq d 59 && is_no_text ds)) (are_digits (stops hex) true ds) ≡ true
    → (are_digits (stops hex) true ds ≡ true → GoOn hex true ds c) → GoOn hex some (d ∷ ds) c
go_on-step hex some d ds c true e h more =
    let p = and_parts some (nat_eq d 59 && is_no_text ds) h in
    let q = and_parts (nat_eq d 59) (is_no_text ds) p.1 in
    inr ([], rw (eqb-true d 59 q.0, text-alone some (nat_eq d 59) ds h) refl)
go_on-step hex some d ds c false e h more =
    elim (more h) [
      | inl go ↦
          let here : are_digits (stops hex) some (d ∷ (ds ++ c ∷ [])) ≡ are_digits (stops hex) true (ds ++ c ∷ []) =
          ap (λ b. cond b (some && (nat_eq d 59 && is_no_text (ds ++ c ∷ []))) (are_digits (stops hex) true (ds ++ c ∷ []))) e in
          let all : are_digits (stops hex) some (d ∷ (ds ++ c ∷ [])) ≡
          (not (stops hex c) || ((some || not (is_no_text (d ∷ ds))) && nat_eq c 59)) = here
          ∙ (go ∙ some-before some (not (is_no_text ds)) (nat_eq c 59) (not (stops hex c))) in
          inl all
      | inr p ↦ inr (d ∷ p.0, ap (λ x. d ∷ x) p.1)
    ]

go_on : (hex some : Bool) (ds : List ℕ) (c : ℕ) → are_digits (stops hex) some ds ≡ true → GoOn hex some ds c
go_on hex some [] c h = inl (one-more (stops hex c) some (nat_eq c 59))
go_on hex some (d ∷ ds) c h = go_on-step hex some d ds c (stops hex d) refl h (go_on hex true ds c)

empty-text : (ds : List ℕ) → (length ds == 0) ≡ is_no_text ds
empty-text [] = refl
empty-text (d ∷ ds) = false_from_ne_true (length (d ∷ ds) == 0) (λ e. absurd (no-suc (length ds) (eqb-true (suc (length ds)) 0 e)))
  where
    no-suc : (n : ℕ) → suc n ≡ 0 → ⊥
    no-suc n e = omega arith

digits-go_on : (hex : Bool) (ds : List ℕ) (c : ℕ) → are_digits (stops hex) false ds ≡ true → ends_with nat_eq ds
    (59 ∷ []) ≡ false → are_digits (stops hex) false (ds ++ c ∷ []) ≡ (not (stops hex c) || (not (is_no_text ds) && nat_eq c 59))
digits-go_on hex ds c h e =
    elim (go_on hex false ds c h) [
      | inl go ↦ go
      | inr p ↦ absurd (true≢false (sym ((ends_is Decides-eqb ds (59 ∷ []) (ends_with nat_eq ds (59 ∷ [])) refl).1 p.0 p.1) ∙ e))
    ]

-- digits go on by digits
pub go_on-digit : (hex : Bool) (ds : List ℕ) (c : ℕ) → are_digits (stops hex) false ds ≡ true → ends_with nat_eq ds
    (59 ∷ []) ≡ false → not (stops hex c) ≡ true → true ≡ are_digits (stops hex) false (ds ++ c ∷ [])
go_on-digit hex ds c h e f = sym (digits-go_on hex ds c h e ∙ ap (λ b. b || (not (is_no_text ds) && nat_eq c 59)) f)

go_on-other : (hex : Bool) (ds : List ℕ) (c : ℕ) → are_digits (stops hex) false ds ≡ true → ends_with nat_eq ds
    (59 ∷ []) ≡ false → not (stops hex c) ≡ false → (b : Bool) → (length ds == 0) ≡ b
    → (not b && nat_eq c 59) ≡ are_digits (stops hex) false (ds ++ c ∷ [])
go_on-other hex ds c h e f b g =
    sym (digits-go_on hex ds c h e ∙ ap (λ b. b || (not (is_no_text ds) && nat_eq c 59)) f
    ∙ ap (λ b. not b && nat_eq c 59) (sym (empty-text ds) ∙ g))

-- and by ";" after one at least
pub go_on-none : (hex : Bool) (ds : List ℕ) (c : ℕ) → are_digits (stops hex) false ds ≡ true → ends_with nat_eq ds
    (59 ∷ []) ≡ false → not (stops hex c) ≡ false → (length ds == 0) ≡ true → false ≡ are_digits (stops hex) false (ds ++ c ∷ [])
go_on-none hex ds c h e f g = go_on-other hex ds c h e f true g

pub go_on-closing : (hex : Bool) (ds : List ℕ) (c : ℕ) → are_digits (stops hex) false ds ≡ true
    → ends_with nat_eq ds (59 ∷ []) ≡ false → not (stops hex c) ≡ false → (length ds == 0) ≡ false
    → nat_eq c 59 ≡ are_digits (stops hex) false (ds ++ c ∷ [])
go_on-closing hex ds c h e f g = go_on-other hex ds c h e f false g
