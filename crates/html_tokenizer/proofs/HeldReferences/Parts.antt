-- What is held of a reference is a part of one, which some further text makes.
use Rattle.std.proofs.Common.{◌≡◌, ◌∙◌, ℕ, zero, suc, ◌≤◌, ◌<◌, ◌+◌, Bool, cond, true, false, List, [], ◌∷◌, ◌++◌, length, drop}
use Rattle.std.proofs.Common.{Option, Some, None, refl, sym, ap, subst, arith, append-nil, length-append}
use Rattle.std.specs.Prelude.{nat_eq, nat_le, ◌&&◌, ◌||◌}
use Rattle.std.specs.List.{starts_with}
use Rattle.std.specs.Str.{bytes_eq}
use Rattle.std.proofs.lemmas.Bool.{and_parts, true≢false}
use Rattle.std.proofs.lemmas.Bool.Decides.{Decides-eqb, nat_tests}
use Rattle.std.proofs.lemmas.List.{drop_all}
use Rattle.std.proofs.lemmas.Slice.Eq.{bytes_eq-Decides, starts_is}
use Rattle.html_tokens.specs.declared.states.State.{State}
use Rattle.html_tokens.specs.declared.table.ReferenceRow.{ReferenceRow}
use Rattle.html_tokens.specs.Characters.{run}
use Rattle.html_tokens.specs.Reference.{Reference, digits_at, is_text_in_value, named_row, numbered_reference, numeric}
use Rattle.html_tokens.specs.Reference.{reference_by, semicolon}
use Rattle.html_references.specs.References.{is_front, is_named, longer_of, longest}
use Rattle.html_references.proofs.Begins.{fitting-is}
use Rattle.html_tokenizer.specs.Calls.{HeldIn, is_value, EndHeldIn}
use Rattle.html_tokenizer_parts.specs.CharRefs.{BeginsReference, are_digits, fits_in, is_front_by, is_held_front, is_no_text}
use Rattle.html_tokenizer_parts.specs.CharRefs.{is_number_by, is_number_front, may_hold, stops}
use Rattle.html_tokenizer_parts.specs.declared.held_reference.Ampersand.{Ampersand}
use Rattle.html_tokenizer_parts.specs.declared.held_reference.Ampersand.TheVariants.{Held, Unknown}
use Rattle.html_tokenizer_parts.proofs.HeldFronts.{none-of, or-cases, text-alone}
use Rattle.html_tokenizer_parts.specs.Words.{FittingEnd, BeginsEnd}

-- NUMBERS

-- of digits with ";" or nothing after them, all are taken
whole-step : (stops : ℕ → Bool) (some : Bool) (d : ℕ) (ds : List ℕ) (b : Bool) → stops d ≡ b
    → cond b (some && (nat_eq d 59 && is_no_text ds)) (are_digits stops true ds) ≡ true
    → (are_digits stops true ds ≡ true → run stops ds + semicolon (drop (run stops ds) ds) ≡ length ds)
    → run stops (d ∷ ds) + semicolon (drop (run stops (d ∷ ds)) (d ∷ ds)) ≡ suc (length ds)
whole-step stops some d ds true e h more =
    let p = and_parts some (nat_eq d 59 && is_no_text ds) h in
    let q = and_parts (nat_eq d 59) (is_no_text ds) p.1 in
    rw (e, q.0, text-alone some (nat_eq d 59) ds h) refl
whole-step stops some d ds false e h more = let rest = more h in rw e (omega arith)

whole-run : (stops : ℕ → Bool) (some : Bool) (ds : List ℕ) → are_digits stops some ds ≡ true
    → run stops ds + semicolon (drop (run stops ds) ds) ≡ length ds
whole-run stops some [] h = refl
whole-run stops some (d ∷ ds) h = whole-step stops some d ds (stops d) refl h (whole-run stops true ds)

some-run : (stops : ℕ → Bool) (d : ℕ) (ds : List ℕ) (b : Bool) → stops d ≡ b
    → cond b false (are_digits stops true ds) ≡ true → 0 < run stops (d ∷ ds)
some-run stops d ds true e h = absurd (true≢false (sym h))
some-run stops d ds false e h = rw e (omega arith)

-- a reference that takes so many characters
abbrev Takes : ℕ → Option Reference → Type 0
Takes n o = (r : Reference) × (o ≡ Some r) × (n ≤ r.len)

digits-taken : (k base n m : ℕ) (t : List ℕ) → 0 < n → n + semicolon (drop n t) ≡ length t → m ≤ k + length t
    → Takes m (numbered_reference (digits_at k base n t))
digits-taken k base zero m t l e f = absurd (omega arith)
digits-taken k base (suc n) m t l e f = (_, refl, let all : k + suc n + semicolon (drop (suc n) t) ≡ k + length t = omega arith in rw all f)

digits-whole : (k base m : ℕ) (stops : ℕ → Bool) (d : ℕ) (ds : List ℕ) → are_digits stops false (d ∷ ds) ≡ true
    → m ≤ k + length (d ∷ ds) → Takes m (numbered_reference (digits_at k base (run stops (d ∷ ds)) (d ∷ ds)))
digits-whole k base m stops d ds h l = digits-taken k base (run stops (d ∷ ds)) m (d ∷ ds)
    (some-run stops d ds (stops d) refl h) (whole-run stops false (d ∷ ds) h) l

-- a text after which this makes a reference that takes all of what stands before
abbrev NumberPart : List ℕ → Type 0
NumberPart hs = (more : List ℕ) × Takes (suc (length hs)) (numbered_reference (numeric (hs ++ more)))

part-alone : (d : ℕ) (ds : List ℕ) → Takes (suc (length (d ∷ ds))) (numbered_reference (numeric (d ∷ ds))) → NumberPart (d ∷ ds)
part-alone d ds h = ([], subst (λ u. Takes (suc (length (d ∷ ds))) (numbered_reference (numeric u))) (sym (append-nil (d ∷ ds))) h)

part-hex : (d : ℕ) (ds : List ℕ) → (nat_eq d 120 || nat_eq d 88) ≡ true → are_digits (stops true) false ds ≡ true → NumberPart (d ∷ ds)
part-hex d [] e h = (48 ∷ [], rw e (digits-whole 2 16 2 (stops true) 48 [] refl (omega arith)))
part-hex d (x ∷ ds) e h = part-alone d (x ∷ ds) (rw e (digits-whole 2 16 (suc (suc (suc (length ds)))) (stops true) x ds h (omega arith)))

part-decimal : (d : ℕ) (ds : List ℕ) → (nat_eq d 120 || nat_eq d 88) ≡ false → are_digits (stops false) false
    (d ∷ ds) ≡ true → NumberPart (d ∷ ds)
part-decimal d ds e h = part-alone d ds (rw e (digits-whole 1 10 (suc (suc (length ds))) (stops false) d ds h (omega arith)))

part-by : (d : ℕ) (ds : List ℕ) (b : Bool) → (nat_eq d 120 || nat_eq d 88) ≡ b → is_number_by b d ds ≡ true → NumberPart (d ∷ ds)
part-by d ds true e h = part-hex d ds e h
part-by d ds false e h = part-decimal d ds e h

number-part : (hs : List ℕ) → is_number_front hs ≡ true → NumberPart hs
number-part [] h = (48 ∷ [], digits-whole 1 10 1 (stops false) 48 [] refl (omega arith))
number-part (d ∷ ds) h = part-by d ds (nat_eq d 120 || nat_eq d 88) refl h

-- NAMES

eq-itself : (n : ℕ) → nat_eq n n ≡ true
eq-itself n = grind (arith, nat_tests)

starts_with-itself : (text : List ℕ) → starts_with nat_eq text text ≡ true
starts_with-itself [] = refl
starts_with-itself (c ∷ cs) = rw (eq-itself c, starts_with-itself cs) refl

bytes_eq-itself : (name : List ℕ) → bytes_eq name name ≡ true
bytes_eq-itself [] = refl
bytes_eq-itself (n ∷ ns) = rw (eq-itself n, bytes_eq-itself ns) refl

or-true : (a b : Bool) → a ≡ true → (a || b) ≡ true
or-true a b e = rw e refl

or-last : (a b : Bool) → b ≡ true → (a || b) ≡ true
or-last true b e = refl
or-last false b e = e

-- what a name begins with goes on to it
named-behind : (rows : List ReferenceRow) (cs : List ℕ) → is_front rows cs ≡ true → (more : List ℕ) × (is_named rows (cs ++ more) ≡ true)
named-behind [] cs h = absurd (true≢false (sym h))
named-behind (row ∷ rows) cs h =
    or-cases (starts_with nat_eq row.name cs) (is_front rows cs) h
    (λ s.
    let split : row.name ≡ cs ++ drop (length cs) row.name =
    (starts_is Decides-eqb row.name cs (starts_with nat_eq row.name cs) refl).0 s in (
      drop (length cs) row.name,
      or-true (bytes_eq row.name (cs ++ drop (length cs) row.name)) _
          (ap (bytes_eq row.name) (sym split) ∙ bytes_eq-itself row.name),
    ))
    (λ s. let rest = named-behind rows cs s in (rest.0, or-last (bytes_eq row.name (cs ++ rest.0)) _ rest.1))

abbrev AtLeast : ℕ → Option ReferenceRow → Type 0
AtLeast n None = ⊥
AtLeast n (Some row) = n ≤ length row.name

first-long : (n : ℕ) (row other : ReferenceRow) (b : Bool) → nat_le (length other.name) (length row.name) ≡ b
    → n ≤ length row.name → AtLeast n (cond b (Some row) (Some other))
first-long n row other true e l = l
first-long n row other false e l = grind (arith, nat_tests)

second-long : (n : ℕ) (row other : ReferenceRow) (b : Bool) → nat_le (length other.name) (length row.name) ≡ b
    → n ≤ length other.name → AtLeast n (cond b (Some row) (Some other))
second-long n row other true e l = grind (arith, nat_tests)
second-long n row other false e l = l

longer-first : (n : ℕ) (row : ReferenceRow) (other : Option ReferenceRow) → n ≤ length row.name → AtLeast n (longer_of (Some row) other)
longer-first n row None l = l
longer-first n row (Some other) l = first-long n row other _ refl l

longer-second : (n : ℕ) (first other : Option ReferenceRow) → AtLeast n other → AtLeast n (longer_of first other)
longer-second n None other l = l
longer-second n (Some row) None l = absurd l
longer-second n (Some row) (Some other) l = second-long n row other _ refl l

-- the longest name that a name begins with is no shorter
longest-named : (rows : List ReferenceRow) (name : List ℕ) → is_named rows name ≡ true → AtLeast (length name) (longest rows name)
longest-named [] name h = true≢false (sym h)
longest-named (row ∷ rows) name h =
    or-cases (bytes_eq row.name name) (is_named rows name) h
    (λ s.
    let same : row.name ≡ name = (bytes_eq-Decides row.name name).0 s in
    let fits : starts_with nat_eq name row.name ≡ true = ap (starts_with nat_eq name) same ∙ starts_with-itself name in
    let long : length name ≤ length row.name = rw same (omega arith) in
    rw (fitting-is name row, fits) (longer-first (length name) row (longest rows name) long))
    (λ s. longer-second (length name) _ (longest rows name) (longest-named rows name s))

-- a name at the end of the text is a reference, in a value too
named-taken : (in_value : Bool) (n : ℕ) (o : Option ReferenceRow) (text : List ℕ) → n ≤ length text
    → AtLeast (length text) o → Takes n (named_row in_value o text)
named-taken in_value n None text l h = absurd h
named-taken in_value n (Some row) text l h =
    let none : drop (length row.name) text ≡ [] = drop_all (length row.name) text h in
    let plain : (in_value && is_text_in_value row.name (drop (length row.name) text)) ≡ false =
    ap (λ u. in_value && is_text_in_value row.name u) none ∙ none-of in_value _ in
    rw plain (_, refl, omega arith)

-- A REFERENCE

longer-text : (cs more : List ℕ) → length cs ≤ length (cs ++ more)
longer-text cs more = rw (length-append cs more) (omega arith)

part-of : (in_value b : Bool) (rows : List ReferenceRow) (h : ℕ) (hs : List ℕ) → nat_eq h 35 ≡ b
    → is_front_by b rows h hs ≡ true → BeginsReference in_value rows (h ∷ hs)
part-of in_value true rows h hs e f =
    let p = number-part hs f in
    record { more = p.0; reference = p.1.0; is = ap (λ b. reference_by b in_value rows h (hs ++ p.0)) e ∙ p.1.1; whole = p.1.2 }
part-of in_value false rows h hs e f =
    let p = named-behind rows (h ∷ hs) f in
    let q = named-taken in_value (length (h ∷ hs)) (longest rows ((h ∷ hs) ++ p.0)) ((h ∷ hs) ++ p.0)
    (longer-text (h ∷ hs) p.0) (longest-named rows ((h ∷ hs) ++ p.0) p.1) in
    record { more = p.0; reference = q.0; is = ap (λ b. reference_by b in_value rows h (hs ++ p.0)) e ∙ q.1; whole = q.2 }

-- some text after the front of a reference makes one of both
pub held-part : (in_value : Bool) (rows : List ReferenceRow) (cs : List ℕ) → is_held_front rows cs ≡ true → BeginsReference in_value rows cs
held-part in_value rows [] f =
    let p = number-part [] refl in
    record { more = 35 ∷ p.0; reference = p.1.0; is = p.1.1; whole = omega arith }
held-part in_value rows (h ∷ hs) f = part-of in_value (nat_eq h 35) rows h hs refl f

-- what is held is a part of a reference
pub holds-part : (rows : List ReferenceRow) (st : State) (behind : Option Ampersand) → fits_in rows behind st ≡ true → HeldIn rows st behind
holds-part rows st None f = tt
holds-part rows st (Some Unknown) f = tt
holds-part rows st (Some (Held cs)) f = held-part (is_value st) rows cs (and_parts (is_held_front rows cs) (may_hold st) f).0

-- so they do wherever the machine is
pub holds-end : (st : State) (held : FittingEnd) → BeginsEnd held.name held.letters → EndHeldIn st held
holds-end st held h = λ kind is. h
