-- A policy that is written with its bounds is read back with them.
use Rattle.std.proofs.Common.{◌≡◌, ◌∙◌, ℕ, ◌+◌, ◌*◌, ◌/◌, ◌%◌, ◌≤◌, ◌<◌, Bool, true, false, List, [], ◌∷◌, ◌++◌}
use Rattle.std.proofs.Common.{Option, None, Some, Result, Ok, Err, ap, append_assoc, arith, eqb-true, refl, subst, sym}
use Rattle.std.specs.Prelude.{◌&&◌, ◌==◌, codes, cond, length, not}
use Rattle.std.specs.Char.{is_ascii_digit}
use Rattle.std.specs.Fmt.{decimal}
use Rattle.std.specs.List.{fold, list_all}
use Rattle.std.specs.Str.{bytes_eq}
use Rattle.std.proofs.lemmas.Bool.{and_from}
use Rattle.std.proofs.lemmas.Fmt.{decimal_by_steps, decimal_nonempty}
use Rattle.std.proofs.lemmas.List.Elements.{All-append}
use Rattle.std.proofs.lemmas.List.Folds.{list_all-append}
use Rattle.std.proofs.lemmas.List.Splits.{slice_split_at}
use Rattle.std.proofs.lemmas.List.Sums.{fold-append}
use Rattle.std.proofs.lemmas.Slice.Eq.{bytes_eq-Decides}
use Rattle.html_clean.specs.Values.{words_of}
use Rattle.html_clean.specs.declared.bounding.Bound.{Bound}
use Rattle.html_clean.specs.declared.bounding.Bound.TheVariants.{Depth, Elements, Bytes}
use Rattle.html_clean.specs.declared.bounding.Bounds.{Bounds}
use Rattle.html_policy_text.specs.Bounded.{AreInRange, BoundedRules, bound_named, bound_text, bounded_rules, bounded_text, bounds_if}
use Rattle.html_policy_text.specs.Bounded.{bounds_text, by_name, in_bounds, in_rules, no_bound, no_bounds, nothing_said, number_of}
use Rattle.html_policy_text.specs.Bounded.{read_bounded, then_bounded, with_bound, with_bounded_line, with_digit}
use Rattle.html_policy_text.specs.PolicyText.{is_feed, lines_of, policy_rules, read_lines, then_lines, with_line}
use Rattle.html_policy_text.specs.Rules.{Rules, no_rules}
use Rattle.html_policy_text.specs.Written.{is_solid, is_word, is_writable, line_of, policy_text, spaced}
use Rattle.html_policy_text.specs.declared.rules.Problem.{Problem}
use Rattle.html_policy_text.specs.declared.rules.Problem.TheVariants.{UnknownRule}
use Rattle.html_policy_text.proofs.Numbers.{digits-solid, is-digit, parts-of, some-length}
use Rattle.html_policy_text.proofs.PoliciesBack.{written-read}
use Rattle.html_policy_text.proofs.ReadBack.{IsNoFeed, line-words, solid-feeds, spaced-feeds, word-solid}

-- NUMBERS

-- the digits of a number of 64 bits, read from the left, are that number
abbrev IsRead : ℕ → List ℕ → Type 0
IsRead n ds = (list_all is_ascii_digit ds ≡ true) × (n ≤ no_bound → fold with_digit 0 ds ≡ n)

next-digit : (n d k : ℕ) → n * 10 + d ≡ k → k ≤ no_bound → with_digit n (48 + d) ≡ k
next-digit n d k e h = omega arith

one-digit : (n : ℕ) → n < 10 → IsRead n ((48 + n) ∷ [])
one-digit n h = (and_from (is_ascii_digit (48 + n)) true (is-digit n h) refl, λ k. next-digit 0 n n (omega arith) k)

one-more : (n : ℕ) (ds : List ℕ) → 10 ≤ n → IsRead (n / 10) ds → IsRead n (ds ++ (48 + n % 10) ∷ [])
one-more n ds h read =
    let last = 48 + n % 10 in
    let parts = parts-of n in (
      list_all-append is_ascii_digit ds (last ∷ [])
          ∙ and_from (list_all is_ascii_digit ds) (is_ascii_digit last && true) read.0
          (and_from (is_ascii_digit last) true (is-digit (n % 10) parts.1) refl),
      λ k. fold-append with_digit 0 ds (last ∷ [])
          ∙ (ap (λ m. with_digit m last) (read.1 (omega (arith, k))) ∙ next-digit (n / 10) (n % 10) n parts.0 k),
    )

digits-read : (n : ℕ) → n ≤ no_bound → IsRead n (decimal n)
digits-read n h = decimal_by_steps IsRead one-digit one-more n (omega (arith, h))

-- a number is read from its digits
number-back : (n : ℕ) → n ≤ no_bound → number_of (decimal n) ≡ Some n
number-back n h =
    let read = digits-read n h in
    ap (λ b. cond b (Some (fold with_digit 0 (decimal n))) None) read.0 ∙ ap Some (read.1 h)

-- the digits of a number are a word of a line
decimal-is : (n : ℕ) → n ≤ no_bound → is_word (decimal n) ≡ true
decimal-is n h =
    and_from (not (length (decimal n) == 0)) (list_all is_solid (decimal n))
    (some-length (decimal n) (decimal_nonempty n (omega (arith, h)))) (digits-solid (decimal n) (digits-read n h).0)

-- LINES

-- after rules and bounds, a text makes others, whatever follows it
record Says (text : List ℕ) (b next : BoundedRules) : Type 0 where
  go : (number : ℕ) (rest : List ℕ) → (later : ℕ)
      × (read_bounded number b (lines_of (text ++ rest)) ≡ read_bounded later next (lines_of rest))

nothing-said : (b : BoundedRules) → Says [] b b
nothing-said b = record { go = λ number rest. (number, refl) }

then-said : (s t : List ℕ) (a b c : BoundedRules) → Says s a b → Says t b c → Says (s ++ t) a c
then-said s t a b c f g = record {
  go = λ number rest.
      let first = f.go number (t ++ rest) in
      let second = g.go first.0 rest in (
        second.0,
        ap (λ (text : List ℕ). read_bounded number a (lines_of text)) (append_assoc s t rest) ∙ (first.1 ∙ second.1),
      );
}

line-said : (keyword : List ℕ) (words : List (List ℕ)) (b next : BoundedRules) → is_word keyword ≡ true → list_all is_word words ≡ true
    → with_bounded_line b (keyword ∷ words) ≡ Ok next → Says (line_of keyword words) b next
line-said keyword words b next h hs taken = record {
  go = λ number rest.
      let body = keyword ++ spaced words in
      let feeds = All-append IsNoFeed keyword (spaced words) (solid-feeds keyword (word-solid keyword h)) (spaced-feeds words hs) in (
        number + 1,
        ap (λ (text : List ℕ). read_bounded number b (lines_of text)) (append_assoc body (10 ∷ []) rest)
            ∙ (ap (read_bounded number b) (slice_split_at is_feed body 10 rest feeds refl)
            ∙ ap (λ made. then_bounded number made (λ next. read_bounded (number + 1) next (lines_of rest)))
            (ap (with_bounded_line b) (line-words keyword words h hs) ∙ taken)),
      );
}

-- BOUNDS

bound-taken : (keyword : List ℕ) (bound : Bound) (n : ℕ) (b : BoundedRules) → bound_named keyword ≡ Some bound → n ≤ no_bound
    → with_bounded_line b (keyword ∷ (decimal n ∷ [])) ≡ Ok (record b { bounds = with_bound bound n b.bounds })
bound-taken keyword bound n b is h =
    ap (λ (o : Option Bound). by_name o b (keyword ∷ (decimal n ∷ [])) (decimal n ∷ [])) is
    ∙ ap (λ (o : Option ℕ). in_bounds b (bounds_if bound b.bounds o)) (number-back n h)

bound-said : (keyword : List ℕ) (bound : Bound) (n : ℕ) (b : BoundedRules) → bound_named keyword ≡ Some bound → is_word keyword ≡ true
    → n ≤ no_bound → with_bound bound no_bound b.bounds ≡ b.bounds
    → Says (bound_text keyword n) b (record b { bounds = with_bound bound n b.bounds })
bound-said keyword bound n b is word h none = by (n == no_bound) refl where
  by : (unbounded : Bool) → (n == no_bound) ≡ unbounded
      → Says (cond unbounded [] (line_of keyword (decimal n ∷ []))) b (record b { bounds = with_bound bound n b.bounds })
  by true e =
      subst (λ (bounds : Bounds). Says [] b (record b { bounds = bounds }))
      (sym none ∙ ap (λ (m : ℕ). with_bound bound m b.bounds) (sym (eqb-true n no_bound e))) (nothing-said b)
  by false e = line-said keyword (decimal n ∷ []) b (record b { bounds = with_bound bound n b.bounds }) word
      (and_from (is_word (decimal n)) true (decimal-is n h) refl) (bound-taken keyword bound n b is h)

bounds-said : (bounds : Bounds) → AreInRange bounds → Says (bounds_text bounds) nothing_said (record nothing_said { bounds = bounds })
bounds-said bounds are =
    let b1 : BoundedRules = record nothing_said { bounds = record no_bounds { depth = bounds.depth } } in
    let b2 : BoundedRules = record nothing_said { bounds = record bounds { bytes = no_bound } } in
    let t1 = bound_text (codes "max-depth") bounds.depth in
    let t2 = bound_text (codes "max-elements") bounds.elements in
    let t3 = bound_text (codes "max-bytes") bounds.bytes in
    then-said (t1 ++ t2) t3 nothing_said b2 (record nothing_said { bounds = bounds })
    (then-said t1 t2 nothing_said b1 b2 (bound-said (codes "max-depth") Depth bounds.depth nothing_said refl refl are.depth refl)
    (bound-said (codes "max-elements") Elements bounds.elements b1 refl refl are.elements refl))
    (bound-said (codes "max-bytes") Bytes bounds.bytes b2 refl refl are.bytes refl)

-- RULES

-- no rule begins with the name of a bound
named-refused : (word name : List ℕ) (words : List (List ℕ)) (r s : Rules) → bytes_eq word name ≡ true
    → with_line r (name ∷ words) ≡ Err UnknownRule → with_line r (word ∷ words) ≡ Ok s → ⊥
named-refused word name words r s same refused e =
    let is : word ≡ name = (bytes_eq-Decides word name).0 same in
    let clash : Err UnknownRule ≡ Ok s = sym refused ∙ (sym (ap (λ (w : List ℕ). with_line r (w ∷ words)) is) ∙ e) in
    cc

no-rule : (word : List ℕ) (words : List (List ℕ)) (r s : Rules) (bound : Bound) → bound_named word ≡ Some bound
    → with_line r (word ∷ words) ≡ Ok s → ⊥
no-rule word words r s bound is e =
    by (bytes_eq word (codes "max-depth")) (bytes_eq word (codes "max-elements")) (bytes_eq word (codes "max-bytes")) refl refl refl
    is where
      by : (b1 b2 b3 : Bool) → bytes_eq word (codes "max-depth") ≡ b1 → bytes_eq word (codes "max-elements") ≡ b2
          → bytes_eq word (codes "max-bytes") ≡ b3
          → cond b1 (Some Depth) (cond b2 (Some Elements) (cond b3 (Some Bytes) None)) ≡ Some bound → ⊥
      by true b2 b3 e1 e2 e3 k = named-refused word (codes "max-depth") words r s e1 refl e
      by false true b3 e1 e2 e3 k = named-refused word (codes "max-elements") words r s e2 refl e
      by false false true e1 e2 e3 k = named-refused word (codes "max-bytes") words r s e3 refl e
      by false false false e1 e2 e3 k = cc

plain : (words : List (List ℕ)) (r s : Rules) (bounds : Bounds) → with_line r words ≡ Ok s
    → with_bounded_line (record { rules = r; bounds = bounds }) words ≡ Ok (record { rules = s; bounds = bounds })
plain [] r s bounds e = ap (in_rules (record { rules = r; bounds = bounds })) e
plain (word ∷ words) r s bounds e = by (bound_named word) refl where
  by : (o : Option Bound) → bound_named word ≡ o
      → by_name (bound_named word) (record { rules = r; bounds = bounds }) (word ∷ words) words
      ≡ Ok (record { rules = s; bounds = bounds })
  by None k = ap (λ (o : Option Bound). by_name o (record { rules = r; bounds = bounds }) (word ∷ words) words) k
      ∙ ap (in_rules (record { rules = r; bounds = bounds })) e
  by (Some bound) k = absurd (no-rule word words r s bound k e)

-- rules, beside bounds
abbrev beside : Bounds → Result Rules (ℕ × Problem) → Result BoundedRules (ℕ × Problem)
beside bounds (Ok rules) = Ok (record { rules = rules; bounds = bounds })
beside bounds (Err problem) = Err problem

-- lines that are rules alone are read as rules, beside any bounds
rules-said : (lines : List (List ℕ)) (n m : ℕ) (r next : Rules) (bounds : Bounds) → read_lines n r lines ≡ Ok next
    → read_bounded m (record { rules = r; bounds = bounds }) lines ≡ Ok (record { rules = next; bounds = bounds })
rules-said [] n m r next bounds h = ap (beside bounds) h
rules-said (line ∷ lines) n m r next bounds h =
    by (with_line r (words_of line)) refl h (λ number other s k. rules-said lines number other s next bounds k) where
      by : (made : Result Rules Problem) → with_line r (words_of line) ≡ made
          → then_lines n made (λ s. read_lines (n + 1) s lines) ≡ Ok next
          → ((number other : ℕ) (s : Rules) → read_lines number s lines ≡ Ok next
          → read_bounded other (record { rules = s; bounds = bounds }) lines ≡ Ok (record { rules = next; bounds = bounds }))
          → then_bounded m (with_bounded_line (record { rules = r; bounds = bounds }) (words_of line)) (λ b. read_bounded (m + 1) b lines)
          ≡ Ok (record { rules = next; bounds = bounds })
      by (Ok s) e k later =
          ap (λ made. then_bounded m made (λ b. read_bounded (m + 1) b lines)) (plain (words_of line) r s bounds e)
          ∙ later (n + 1) (m + 1) s k
      by (Err problem) e k later = absurd cc

-- ALL

-- where the rules are read back, so are the bounds with them
pub bounded-back : (b : BoundedRules) → AreInRange b.bounds → policy_rules (policy_text b.rules) ≡ Ok b.rules
    → bounded_rules (bounded_text b) ≡ Ok b
bounded-back b are back =
    let said = (bounds-said b.bounds are).go 1 (policy_text b.rules) in
    said.1 ∙ rules-said (lines_of (policy_text b.rules)) 1 said.0 no_rules b.rules b.bounds back

-- reading what was written gives the same rules and bounds
pub bounded-read : (b : BoundedRules) → is_writable b.rules ≡ true → AreInRange b.bounds → bounded_rules (bounded_text b) ≡ Ok b
bounded-read b h are = bounded-back b are (written-read b.rules h)
