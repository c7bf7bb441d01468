-- A character reference is decided once what is held of it can't go on.
use Rattle.std.proofs.Common.{◌≡◌, ◌∙◌, ℕ, zero, suc, ◌≤◌, ◌<◌, ◌+◌, Bool, cond, true, false, List, [], ◌∷◌, ◌++◌, length, take}
use Rattle.std.proofs.Common.{drop, Option, Some, None, refl, sym, ap, arith}
use Rattle.std.specs.Prelude.{nat_eq, not, ◌&&◌, ◌||◌, is_none, IsTrue, IfSome, All}
use Rattle.std.specs.Char.{is_ascii_digit, is_ascii_hexdigit}
use Rattle.std.specs.List.{starts_with, ends_with}
use Rattle.std.specs.Option.{is_some, option_map}
use Rattle.std.proofs.lemmas.Bool.{and_parts, true≢false}
use Rattle.std.proofs.lemmas.List.{take-append-le, drop-append-le}
use Rattle.std.proofs.lemmas.List.Elements.{All-tail}
use Rattle.html_tokens.specs.Characters.{run, run_by}
use Rattle.html_tokens.specs.Item.{Fault, Grave, Slight, slight_if}
use Rattle.html_tokens.specs.Reference.{goes_on_at, digits_at, ends_in_semicolon as has_semicolon, fault_of_number}
use Rattle.html_tokens.specs.Reference.{fault_of_reference, fault_of_reference_by, is_no_character, is_text_in_value, named_row}
use Rattle.html_tokens.specs.Reference.{named_by, number, numbered_reference, numeric, numeric_by, reference_at, reference_by}
use Rattle.html_tokens.specs.Reference.{semicolon}
use Rattle.html_tokens.specs.Table.{longest}
use Rattle.html_tokens.specs.declared.table.ReferenceRow.{ReferenceRow}
use Rattle.html_references.specs.References.{IsCheckedTable, is_reference_name}
use Rattle.html_references.proofs.Begins.{fitting-is}
use Rattle.html_references.proofs.Fronts.{longest-stop}
use Rattle.html_references.proofs.Longest.{Within, longest-within}
use Rattle.html_tokenizer_parts.specs.CharRefs.{stops, are_digits, is_no_text, is_number_by, is_number_front, is_front_by}
use Rattle.html_tokenizer_parts.specs.CharRefs.{is_held_front, may_go_on, is_text_before, named_before, decided, decided_by}
use Rattle.html_tokenizer_parts.specs.CharRefs.{reference_of, is_faulty, is_faulty_by, is_faulty_named, is_faulty_number}
use Rattle.html_tokenizer_parts.specs.CharRefs.{is_faulty_numeric, is_faulty_numeric_by, is_faulty_run, is_unknown}
use Rattle.html_tokenizer_parts.specs.declared.numbers.Found.{Found}

-- digits, and what can't go on after them

run-within-by : (b : Bool) (n m : ℕ) → n ≤ m → run_by b (λ _. n) ≤ suc m
run-within-by true n m l = omega arith
run-within-by false n m l = omega arith

pub run-within : (stops : ℕ → Bool) (ds : List ℕ) → run stops ds ≤ length ds
run-within stops [] = omega arith
run-within stops (d ∷ ds) = run-within-by (stops d) (run stops ds) (length ds) (run-within stops ds)

-- After what can't go on by c, neither the run of digits changes nor a ";" after it.
record Stops (stops : ℕ → Bool) (some : Bool) (ds : List ℕ) (c : ℕ) (t : List ℕ) : Type 0 where
  digits : run stops (ds ++ c ∷ t) ≡ run stops ds
  closed : (some ≡ false → 0 < run stops ds) → semicolon (drop (run stops ds) (ds ++ c ∷ t)) ≡ semicolon (drop (run stops ds) ds)

no_closing : (some : Bool) (c : ℕ) (t : List ℕ) (b : Bool) → nat_eq c 59 ≡ b → (some && (b && true)) ≡ false
    → (some ≡ false → 0 < 0) → semicolon (c ∷ t) ≡ semicolon []
no_closing true c t true e h p = absurd (true≢false h)
no_closing false c t true e h p = let l : 0 < 0 = p refl in absurd (omega arith)
no_closing some c t false e h p = rw e refl

stops-none : (stops : ℕ → Bool) (some : Bool) (c : ℕ) (t : List ℕ) (b : Bool) → stops c ≡ b
    → cond b (some && (nat_eq c 59 && true)) true ≡ false → Stops stops some [] c t
stops-none stops some c t true e h = record {
  digits = rw e refl;
  closed = λ p. no_closing some c t (nat_eq c 59) refl h p;
}
stops-none stops some c t false e h = absurd (true≢false h)

stops-step : (stops : ℕ → Bool) (some : Bool) (d : ℕ) (ds : List ℕ) (c : ℕ) (t : List ℕ) (b : Bool) → stops d ≡ b
    → cond b (some && (nat_eq d 59 && is_no_text ds)) (are_digits stops true ds) ≡ true
    → cond b (some && (nat_eq d 59 && is_no_text (ds ++ c ∷ []))) (are_digits stops true (ds ++ c ∷ [])) ≡ false
    → (are_digits stops true ds ≡ true → are_digits stops true (ds ++ c ∷ []) ≡ false → Stops stops true ds c t)
    → Stops stops some (d ∷ ds) c t
stops-step stops some d ds c t true e f g more = record {
  digits = rw e refl;
  closed = λ p. rw e refl;
}
stops-step stops some d ds c t false e f g more =
    let rest = more f g in
    record {
      digits = rw e (ap suc rest.digits);
      closed = λ p. rw e (rest.closed (λ q. absurd (true≢false q)));
    }

stops-at : (stops : ℕ → Bool) (some : Bool) (ds : List ℕ) (c : ℕ) (t : List ℕ) → are_digits stops some ds ≡ true
    → are_digits stops some (ds ++ c ∷ []) ≡ false → Stops stops some ds c t
stops-at stops some [] c t f g = stops-none stops some c t (stops c) refl g
stops-at stops some (d ∷ ds) c t f g = stops-step stops some d ds c t (stops d) refl f g (stops-at stops true ds c t)

digits-same : (k base n : ℕ) (ds u : List ℕ) → n ≤ length ds
    → (0 < n → semicolon (drop n (ds ++ u)) ≡ semicolon (drop n ds)) → digits_at k base n (ds ++ u) ≡ digits_at k base n ds
digits-same k base zero ds u l h = refl
digits-same k base (suc n) ds u l h =
    ap (λ x. Some (record { value = number base x; len = k + suc n + semicolon (drop (suc n) (ds ++ u)) })) (take-append-le (suc n) ds u l)
    ∙ ap (λ x. Some (record { value = number base (take (suc n) ds); len = k + suc n + x })) (h (omega arith))

digits-decided : (k base : ℕ) (stops : ℕ → Bool) (ds : List ℕ) (c : ℕ) (t : List ℕ)
    → are_digits stops false ds ≡ true → are_digits stops false (ds ++ c ∷ []) ≡ false
    → digits_at k base (run stops (ds ++ c ∷ t)) (ds ++ c ∷ t) ≡ digits_at k base (run stops ds) ds
digits-decided k base stops ds c t f g =
    let s = stops-at stops false ds c t f g in
    ap (λ n. digits_at k base n (ds ++ c ∷ t)) s.digits ∙ digits-same k base (run stops ds) ds (c ∷ t)
    (run-within stops ds) (λ l. s.closed (λ q. l))

numeric_by-decided : (b : Bool) (d : ℕ) (ds : List ℕ) (c : ℕ) (t : List ℕ) → is_number_by b d ds ≡ true
    → is_number_by b d (ds ++ c ∷ []) ≡ false → numeric_by b d (ds ++ c ∷ t) ≡ numeric_by b d ds
numeric_by-decided true d ds c t f g = digits-decided 2 16 (stops true) ds c t f g
numeric_by-decided false d ds c t f g = digits-decided 1 10 (stops false) (d ∷ ds) c t f g

numeric_by-none : (b : Bool) (c : ℕ) (t : List ℕ) → is_number_by b c [] ≡ false → numeric_by b c t ≡ None
numeric_by-none true c t g = absurd (true≢false g)
numeric_by-none false c t g = digits-decided 1 10 (stops false) [] c t refl g

-- a number that can't go on is the same whatever follows
number-decided : (hs : List ℕ) (c : ℕ) (t : List ℕ) → is_number_front hs ≡ true
    → is_number_front (hs ++ c ∷ []) ≡ false → numeric (hs ++ c ∷ t) ≡ numeric hs
number-decided [] c t f g = numeric_by-none (nat_eq c 120 || nat_eq c 88) c t g
number-decided (d ∷ ds) c t f g = numeric_by-decided (nat_eq d 120 || nat_eq d 88) d ds c t f g

abbrev AreNames : List ReferenceRow → Type 0
AreNames rows = All (λ row. IsTrue (is_reference_name row.name)) rows

AreNames-tail : (row : ReferenceRow) (rows : List ReferenceRow) → AreNames (row ∷ rows) → AreNames rows
AreNames-tail row rows h = All-tail (λ row. IsTrue (is_reference_name row.name)) row rows h

first-name : (row : ReferenceRow) (rows : List ReferenceRow) → AreNames (row ∷ rows) → is_reference_name row.name ≡ true
first-name row rows h = h 0 row (omega arith)

empty-none : (name : List ℕ) → is_reference_name name ≡ true → starts_with nat_eq [] name ≡ false
empty-none [] h = absurd (true≢false (sym h))
empty-none (n ∷ ns) h = refl

longest-empty : (rows : List ReferenceRow) → AreNames rows → longest rows [] ≡ None
longest-empty [] h = refl
longest-empty (row ∷ rows) h =
    rw (fitting-is [] row, empty-none row.name (first-name row rows h), longest-empty rows (AreNames-tail row rows h)) refl

text-before : (name x : List ℕ) (c : ℕ) (t : List ℕ) → is_text_in_value name (x ++ c ∷ t) ≡ is_text_before name x (goes_on_at (c ∷ []))
text-before name [] c t = refl
text-before name (d ∷ x) c t = refl

named-same : (in_value : Bool) (o : Option ReferenceRow) (cs : List ℕ) (c : ℕ) (t : List ℕ) → Within (length cs) o
    → named_row in_value o (cs ++ c ∷ t) ≡ named_before in_value o cs (goes_on_at (c ∷ []))
named-same in_value None cs c t w = refl
named-same in_value (Some row) cs c t w =
    ap (λ rest. named_by (in_value && is_text_in_value row.name rest) row) (drop-append-le (length row.name) cs (c ∷ t) w)
    ∙ ap (λ b. named_by (in_value && b) row) (text-before row.name (drop (length row.name) cs) c t)

begun-by : (b : Bool) (h : ℕ) (hs : List ℕ) (in_value : Bool) (rows : List ReferenceRow) (c : ℕ) (t : List ℕ)
    → is_front_by b rows h hs ≡ true → is_front_by b rows h (hs ++ c ∷ []) ≡ false
    → reference_by b in_value rows h (hs ++ c ∷ t) ≡ decided_by b in_value rows h hs (goes_on_at (c ∷ []))
begun-by true h hs in_value rows c t f g = ap numbered_reference (number-decided hs c t f g)
begun-by false h hs in_value rows c t f g =
    ap (λ o. named_row in_value o ((h ∷ hs) ++ c ∷ t)) (longest-stop rows (h ∷ hs) c t g)
    ∙ named-same in_value (longest rows (h ∷ hs)) (h ∷ hs) c t (longest-within rows (h ∷ hs))

none-begun : (b in_value : Bool) (rows : List ReferenceRow) (c : ℕ) (t : List ℕ) → AreNames rows
    → is_front_by b rows c [] ≡ false → reference_by b in_value rows c t ≡ None
none-begun true in_value rows c t names g = absurd (true≢false g)
none-begun false in_value rows c t names g = ap (λ o. named_row in_value o (c ∷ t)) (longest-stop rows [] c t g ∙ longest-empty rows names)

-- Where what is held can't go on by a character, the reference is the same whatever follows that.
pub reference-decided : (in_value : Bool) (rows : List ReferenceRow) (cs : List ℕ) (c : ℕ) (t : List ℕ)
    → IsCheckedTable rows → is_held_front rows cs ≡ true → may_go_on rows cs c ≡ false
    → reference_at in_value rows (cs ++ c ∷ t) ≡ decided in_value rows cs (goes_on_at (c ∷ []))
reference-decided in_value rows [] c t checked f g = none-begun (nat_eq c 35) in_value rows c t checked.names g
reference-decided in_value rows (h ∷ hs) c t checked f g = begun-by (nat_eq h 35) h hs in_value rows c t f g

text-end : (name x : List ℕ) → is_text_in_value name x ≡ is_text_before name x false
text-end name [] = refl
text-end name (d ∷ x) = refl

named-end : (in_value : Bool) (o : Option ReferenceRow) (cs : List ℕ) → named_row in_value o cs ≡ named_before in_value o cs false
named-end in_value None cs = refl
named-end in_value (Some row) cs = ap (λ b. named_by (in_value && b) row) (text-end row.name (drop (length row.name) cs))

end-by : (b : Bool) (in_value : Bool) (rows : List ReferenceRow) (h : ℕ) (hs : List ℕ)
    → reference_by b in_value rows h hs ≡ decided_by b in_value rows h hs false
end-by true in_value rows h hs = refl
end-by false in_value rows h hs = named-end in_value (longest rows (h ∷ hs)) (h ∷ hs)

-- what is held is the reference where the input ends
pub reference-end : (in_value : Bool) (rows : List ReferenceRow) (cs : List ℕ)
    → reference_at in_value rows cs ≡ decided in_value rows cs false
reference-end in_value rows [] = refl
reference-end in_value rows (h ∷ hs) = end-by (nat_eq h 35) in_value rows h hs

in_text-named : (o : Option ReferenceRow) (cs : List ℕ) (b : Bool) → named_before false o cs b ≡ named_before false o cs false
in_text-named None cs b = refl
in_text-named (Some row) cs b = refl

in_text-by : (x : Bool) (rows : List ReferenceRow) (h : ℕ) (hs : List ℕ) (b : Bool)
    → decided_by x false rows h hs b ≡ decided_by x false rows h hs false
in_text-by true rows h hs b = refl
in_text-by false rows h hs b = in_text-named (longest rows (h ∷ hs)) (h ∷ hs) b

-- in text it doesn't matter what follows
pub decided-in_text : (rows : List ReferenceRow) (cs : List ℕ) (b : Bool) → decided false rows cs b ≡ decided false rows cs false
decided-in_text rows [] b = refl
decided-in_text rows (h ∷ hs) b = in_text-by (nat_eq h 35) rows h hs b

-- how many characters a reference takes

semicolon-within : (n : ℕ) (t : List ℕ) → n ≤ length t → n + semicolon (drop n t) ≤ length t
semicolon-within zero [] l = omega arith
semicolon-within zero (c ∷ t) l = elim (nat_eq c 59) as (λ b. 0 + cond b 1 0 ≤ suc (length t)) [ true ↦ omega arith | false ↦ omega arith ]
semicolon-within (suc n) [] l = absurd (omega arith)
semicolon-within (suc n) (c ∷ t) l = let h : n + semicolon (drop n t) ≤ length t = semicolon-within n t (omega arith) in omega arith

digits-within : (k base n m : ℕ) (t : List ℕ) → n ≤ length t → k + length t ≤ m
    → IfSome (numbered_reference (digits_at k base n t)) (λ r. r.len ≤ m)
digits-within k base zero m t l f = tt
digits-within k base (suc n) m t l f = let h : suc n + semicolon (drop (suc n) t) ≤ length t = semicolon-within (suc n) t l in omega arith

numeric-within : (b : Bool) (c : ℕ) (t : List ℕ) → IfSome (numbered_reference (numeric_by b c t)) (λ r. r.len ≤ suc (suc (length t)))
numeric-within true c t = digits-within 2 16 (run (λ d. not (is_ascii_hexdigit d)) t) (suc (suc (length t))) t
    (run-within (λ d. not (is_ascii_hexdigit d)) t) (omega arith)
numeric-within false c t = digits-within 1 10 (run (λ d. not (is_ascii_digit d)) (c ∷ t)) (suc (suc (length t)))
    (c ∷ t) (run-within (λ d. not (is_ascii_digit d)) (c ∷ t)) (omega arith)

named_by-within : (b : Bool) (row : ReferenceRow) (n : ℕ) → length row.name ≤ n → IfSome (named_by b row) (λ r. r.len ≤ n)
named_by-within true row n l = tt
named_by-within false row n l = l

named-within : (in_value : Bool) (o : Option ReferenceRow) (cs : List ℕ) (b : Bool) → Within (length cs) o
    → IfSome (named_before in_value o cs b) (λ r. r.len ≤ length cs)
named-within in_value None cs b w = tt
named-within in_value (Some row) cs b w =
    named_by-within (in_value && is_text_before row.name (drop (length row.name) cs) b) row (length cs) w

hash-within : (hs : List ℕ) → IfSome (numbered_reference (numeric hs)) (λ r. r.len ≤ suc (length hs))
hash-within [] = tt
hash-within (c ∷ t) = numeric-within (nat_eq c 120 || nat_eq c 88) c t

within-by : (x in_value : Bool) (rows : List ReferenceRow) (h : ℕ) (hs : List ℕ) (b : Bool)
    → IfSome (decided_by x in_value rows h hs b) (λ r. r.len ≤ suc (length hs))
within-by true in_value rows h hs b = hash-within hs
within-by false in_value rows h hs b = named-within in_value (longest rows (h ∷ hs)) (h ∷ hs) b (longest-within rows (h ∷ hs))

-- a reference takes no more than what is held
pub decided-within : (in_value : Bool) (rows : List ReferenceRow) (cs : List ℕ) (b : Bool)
    → IfSome (decided in_value rows cs b) (λ r. r.len ≤ length cs)
decided-within in_value rows [] b = tt
decided-within in_value rows (h ∷ hs) b = within-by (nat_eq h 35) in_value rows h hs b

if-mapped : (o : Option Found) (n : ℕ) → IfSome (option_map reference_of o) (λ r. r.len ≤ n) → IfSome o (λ f. f.len ≤ n)
if-mapped None n h = h
if-mapped (Some f) n h = h

pub found-within : (in_value : Bool) (rows : List ReferenceRow) (cs : List ℕ) (b : Bool) (o : Option Found)
    → option_map reference_of o ≡ decided in_value rows cs b → IfSome o (λ f. f.len ≤ length cs)
found-within in_value rows cs b o e = if-mapped o (length cs) (rw e (decided-within in_value rows cs b))

-- what is wrong with a reference

fault-begun : (b : Bool) (rows : List ReferenceRow) (h : ℕ) (hs : List ℕ) (c : ℕ) (t : List ℕ)
    → is_front_by b rows h hs ≡ true → is_front_by b rows h (hs ++ c ∷ []) ≡ false
    → fault_of_reference_by b rows h (hs ++ c ∷ t) ≡ fault_of_reference_by b rows h hs
fault-begun true rows h hs c t f g = ap (λ n. Some (fault_of_number n)) (number-decided hs c t f g)
fault-begun false rows h hs c t f g = ap (λ o. slight_if (not (has_semicolon o))) (longest-stop rows (h ∷ hs) c t g)

fault-none : (b : Bool) (rows : List ReferenceRow) (c : ℕ) (t : List ℕ) → AreNames rows → is_front_by b rows c
    [] ≡ false → fault_of_reference_by b rows c t ≡ Some Slight
fault-none true rows c t names g = absurd (true≢false g)
fault-none false rows c t names g = ap (λ o. slight_if (not (has_semicolon o))) (longest-stop rows [] c t g ∙ longest-empty rows names)

-- Where what is held can't go on by a character, what follows does not matter to what is wrong with it.
pub fault-decided : (rows : List ReferenceRow) (cs : List ℕ) (c : ℕ) (t : List ℕ) → IsCheckedTable rows
    → is_held_front rows cs ≡ true → may_go_on rows cs c ≡ false → fault_of_reference rows (cs ++ c ∷ t) ≡ fault_of_reference rows cs
fault-decided rows [] c t checked f g = fault-none (nat_eq c 35) rows c t checked.names g
fault-decided rows (h ∷ hs) c t checked f g = fault-begun (nat_eq h 35) rows h hs c t f g

-- a name with an error that the Standard names does not end in ";"
faulty-named : (in_value : Bool) (o : Option ReferenceRow) (cs : List ℕ) (follows : Bool)
    → is_faulty_named in_value o cs follows ≡ true → is_some (slight_if (not (has_semicolon o))) ≡ true
faulty-named in_value None cs follows e = refl
faulty-named in_value (Some row) cs follows e =
    let p = and_parts (not (in_value && is_text_before row.name (drop (length row.name) cs) follows))
    (not (ends_with nat_eq row.name (59 ∷ []))) e in
    rw (p.1) refl

faulty-some-by : (b in_value : Bool) (rows : List ReferenceRow) (h : ℕ) (hs : List ℕ) (follows : Bool)
    → is_faulty_by b in_value rows h hs follows ≡ true → is_some (fault_of_reference_by b rows h hs) ≡ true
faulty-some-by true in_value rows h hs follows e = refl
faulty-some-by false in_value rows h hs follows e = faulty-named in_value (longest rows (h ∷ hs)) (h ∷ hs) follows e

-- where the Standard names an error for a reference, something is wrong with it
pub faulty-some : (in_value : Bool) (rows : List ReferenceRow) (cs : List ℕ) (follows : Bool)
    → is_faulty in_value rows cs follows ≡ true → is_some (fault_of_reference rows cs) ≡ true
faulty-some in_value rows [] follows e = refl
faulty-some in_value rows (h ∷ hs) follows e = faulty-some-by (nat_eq h 35) in_value rows h hs follows e

faulty-number : (n : ℕ) → is_no_character n ≡ true → is_faulty_number n ≡ true
faulty-number n e = rw e refl

last-holds : (a b c : Bool) → c ≡ true → (a || b || c) ≡ true
last-holds true b c e = refl
last-holds false true c e = refl
last-holds false false c e = e

-- a number is a grave fault only where it names no character
grave-only : (b : Bool) → cond b Grave Slight ≡ Grave → b ≡ true
grave-only true e = refl
grave-only false e = absurd cc

grave-within : (fault : Fault) → Some fault ≡ Some Grave → fault ≡ Grave
grave-within Grave e = refl
grave-within Slight e = absurd cc

grave-run : (k base n : ℕ) (t : List ℕ) → fault_of_number (digits_at k base n t) ≡ Grave → is_faulty_run base n t ≡ true
grave-run k base zero t e = refl
grave-run k base (suc n) t e =
    last-holds (nat_eq (suc n) 0) (nat_eq (semicolon (drop (suc n) t)) 0)
    (is_faulty_number (number base (take (suc n) t)))
    (faulty-number (number base (take (suc n) t)) (grave-only (is_no_character (number base (take (suc n) t))) e))

grave-numeric_by : (b : Bool) (c : ℕ) (t : List ℕ) → fault_of_number (numeric_by b c t) ≡ Grave → is_faulty_numeric_by b c t ≡ true
grave-numeric_by true c t e = grave-run 2 16 (run (λ d. not (is_ascii_hexdigit d)) t) t e
grave-numeric_by false c t e = grave-run 1 10 (run (λ d. not (is_ascii_digit d)) (c ∷ t)) (c ∷ t) e

grave-numeric : (t : List ℕ) → fault_of_number (numeric t) ≡ Grave → is_faulty_numeric t ≡ true
grave-numeric [] e = refl
grave-numeric (c ∷ t) e = grave-numeric_by (nat_eq c 120 || nat_eq c 88) c t e

-- what is slight is not grave
slight-named : (b : Bool) → slight_if b ≡ Some Grave → ⊥
slight-named true e = cc
slight-named false e = cc

grave-faulty-by : (b in_value : Bool) (rows : List ReferenceRow) (h : ℕ) (hs : List ℕ) (follows : Bool)
    → fault_of_reference_by b rows h hs ≡ Some Grave → is_faulty_by b in_value rows h hs follows ≡ true
grave-faulty-by true in_value rows h hs follows e = grave-numeric hs (grave-within (fault_of_number (numeric hs)) e)
grave-faulty-by false in_value rows h hs follows e = absurd (slight-named (not (has_semicolon (longest rows (h ∷ hs)))) e)

-- the Standard names an error for a reference that is a grave fault
pub grave-faulty : (in_value : Bool) (rows : List ReferenceRow) (cs : List ℕ) (follows : Bool)
    → fault_of_reference rows cs ≡ Some Grave → is_faulty in_value rows cs follows ≡ true
grave-faulty in_value rows [] follows e = absurd cc
grave-faulty in_value rows (h ∷ hs) follows e = grave-faulty-by (nat_eq h 35) in_value rows h hs follows e

-- AN UNKNOWN NAME

unknown-row : (o : Option ReferenceRow) → is_none o ≡ true → slight_if (not (has_semicolon o)) ≡ Some Slight
unknown-row None e = refl
unknown-row (Some row) e = absurd cc

unknown-by : (b ended : Bool) (rows : List ReferenceRow) (h : ℕ) (hs : List ℕ)
    → (not b && (not ended && is_none (longest rows (h ∷ hs)))) ≡ true → fault_of_reference_by b rows h hs ≡ Some Slight
unknown-by true ended rows h hs e = absurd cc
unknown-by false true rows h hs e = absurd cc
unknown-by false false rows h hs e = unknown-row (longest rows (h ∷ hs)) e

-- an unknown name has a slight fault
pub unknown-slight : (rows : List ReferenceRow) (cs : List ℕ) (c : ℕ) → is_unknown rows cs c ≡ true
    → fault_of_reference rows cs ≡ Some Slight
unknown-slight rows [] c e = refl
unknown-slight rows (h ∷ hs) c e = unknown-by (nat_eq h 35) (ends_with nat_eq (h ∷ hs) (59 ∷ [])) rows h hs e
