-- What stands behind a compound selector: nothing, white space, a combinator, a comma or a parenthesis.
use Rattle.std.proofs.Common.{◌≡◌, ℕ, zero, suc, ◌-◌, ◌<◌, ◌≤◌, Bool, true, false, ◌||◌, Result, Ok, Err, Some, None}
use Rattle.std.proofs.Common.{List, [], ◌∷◌, ◌++◌, length, refl, sym, ap, subst, arith, inl, inr}
use Rattle.std.specs.Prelude.{◌==◌, slice_index, nat_lt}
use Rattle.std.proofs.lemmas.Bool.{cases_Bool, or_cases, eqb-true, le-ltb, lt-ltb}
use Rattle.std.proofs.lemmas.Bool.Decides.{nat_tests}
use Rattle.selectors.specs.declared.selector.Combinator.{Combinator}
use Rattle.selectors.specs.declared.selector.Combinator.TheVariants.{Descendant, Child, NextSibling, SubsequentSibling}
use Rattle.html_selector_text.specs.declared.simples.Part.TheVariants.{Nothing}
use Rattle.html_selector_text.specs.declared.tokens.Token.{Token}
use Rattle.html_selector_text.specs.declared.tokens.TokenKind.{TokenKind}
use Rattle.html_selector_text.specs.declared.tokens.TokenKind.TheVariants.{Ident, Function, AtKeyword, Hash, Str, BadStr, Url, BadUrl}
use Rattle.html_selector_text.specs.declared.tokens.TokenKind.TheVariants.{Number, Percentage, Dimension, Space, Cdo, Cdc, Delim, End}
use Rattle.html_selector_text.specs.Characters.{is_whitespace, at_name, at_number}
use Rattle.html_selector_text.specs.Reading.{wrong, is_space, past_spaces, ends}
use Rattle.html_selector_text.specs.Scanning.{read, past_whitespace, placed, token}
use Rattle.html_selector_text.specs.Simples.{prefix, type_selector, next_part}
use Rattle.html_selector_text.specs.Grammar.{Inner, written_combinator, combinator_of, past_combinator, turn}
use Rattle.html_selector_text.specs.Grammar.{parts, missing, compound, beside}
use Rattle.html_selector_text.specs.Trees.{CompoundTree, ComplexTree}
use Rattle.html_selector_text.specs.Written.{combinator_text}
use Rattle.html_selector_text.proofs.ReadBack.Lexing.{tokens_of, token_first, no_tokens}
use Rattle.html_selector_text.proofs.ReadBack.Words.{space_token}
use Rattle.html_selector_text.proofs.ReadBack.Parts.{follows_at, follows}
use Rattle.html_selector_text.proofs.ReadBack.Classes.{close_token}

-- WHERE A COMPOUND SELECTOR ENDS

abbrev pub stops_at : ℕ → Bool
stops_at c = (c == 32) || ((c == 41) || (c == 44))

abbrev pub stops : List ℕ → Bool
stops [] = true
stops (c ∷ rest) = stops_at c

stop_follows : (c : ℕ) → stops_at c ≡ true → follows_at c ≡ true
stop_follows c h = grind (arith, nat_tests)

pub stops_follow : (rest : List ℕ) → stops rest ≡ true → follows rest ≡ true
stops_follow [] h = refl
stops_follow (c ∷ rest) h = stop_follows c h

pub comma_token : (total : ℕ) (rest : List ℕ)
    → tokens_of total (44 ∷ rest) ≡ placed (Delim 44) (total - length (44 ∷ rest)) ∷ tokens_of total rest
unfolding token at_number at_name
comma_token total rest = token_first total 44 rest rest (Delim 44) refl refl

-- white space, however much of it
pub some_space : (total : ℕ) (rest : List ℕ)
    → tokens_of total (32 ∷ rest) ≡ placed Space (total - length (32 ∷ rest)) ∷ tokens_of total (past_whitespace rest)
unfolding token
some_space total rest = token_first total 32 rest (past_whitespace rest) Space refl refl

no_more : (total : ℕ) (in_has : Bool) (rest : List ℕ) → stops rest ≡ true
    → next_part in_has (tokens_of total rest) ≡ Ok (Nothing, tokens_of total rest)
unfolding next_part
no_more total in_has [] h = rw (no_tokens total) refl
no_more total in_has (c ∷ rest) h = elim (or_cases _ _ h) [
  | inl is ↦ subst (λ (x : ℕ). next_part in_has (tokens_of total (x ∷ rest)) ≡ Ok (Nothing, tokens_of total (x ∷ rest)))
      (sym (eqb-true c 32 is)) (rw (some_space total rest) refl)
  | inr h ↦ elim (or_cases _ _ h) [
    | inl is ↦ subst (λ (x : ℕ). next_part in_has (tokens_of total (x ∷ rest)) ≡ Ok (Nothing, tokens_of total (x ∷ rest)))
        (sym (eqb-true c 41 is)) (rw (close_token total rest) refl)
    | inr is ↦ subst (λ (x : ℕ). next_part in_has (tokens_of total (x ∷ rest)) ≡ Ok (Nothing, tokens_of total (x ∷ rest)))
        (sym (eqb-true c 44 is)) (rw (comma_token total rest) refl)
  ]
]

-- no part is read any more
pub parts_end : (inner : Inner) (in_has : Bool) (n total : ℕ) (so_far : CompoundTree) (rest : List ℕ) → stops rest ≡ true
    → parts inner in_has n so_far (tokens_of total rest) ≡ Ok (so_far, tokens_of total rest)
unfolding turn
parts_end inner in_has zero total so_far rest h = refl
parts_end inner in_has (suc n) total so_far rest h = rw (no_more total in_has rest h) refl

-- HOW A COMPOUND SELECTOR BEGINS

-- what tokens begin with where a compound selector was read of them
pub record Begins (tokens : List Token) : Type 0 where
  pub spaces : past_spaces tokens ≡ tokens
  pub combinator : written_combinator tokens ≡ None
  pub going : ends tokens ≡ false

no_less : (n : ℕ) → nat_lt n n ≡ false
no_less n = le-ltb n n (omega arith)

nothing_read : (inner : Inner) (in_has : Bool) (t : Token) (ts : List Token) → type_selector (t ∷ ts) ≡ Ok ([], t ∷ ts)
    → next_part in_has (t ∷ ts) ≡ Ok (Nothing, t ∷ ts) → compound inner in_has (t ∷ ts) ≡ Err (wrong (missing (t ∷ ts)) (t ∷ ts))
unfolding compound turn
nothing_read inner in_has t ts types next = rw (types, next, no_less (length (t ∷ ts))) refl

pub err≢ok : {A B : Type 0} (x : B) (y : A) (r : Result A B) → r ≡ Err x → r ≡ Ok y → ⊥
err≢ok x y r a b = absurd (cc)

bad_delim : (inner : Inner) (in_has : Bool) (c d at : ℕ) (ts : List Token) (x : CompoundTree × List Token) → (c == d) ≡ true
    → type_selector (placed (Delim d) at ∷ ts) ≡ Ok ([], placed (Delim d) at ∷ ts)
    → next_part in_has (placed (Delim d) at ∷ ts) ≡ Ok (Nothing, placed (Delim d) at ∷ ts)
    → compound inner in_has (placed (Delim c) at ∷ ts) ≡ Ok x → ⊥
bad_delim inner in_has c d at ts x is types next read =
    err≢ok _ x (compound inner in_has (placed (Delim d) at ∷ ts)) (nothing_read inner in_has (placed (Delim d) at) ts types next)
    (subst (λ (e : ℕ). compound inner in_has (placed (Delim e) at ∷ ts) ≡ Ok x) (eqb-true c d is) read)

good_delim : (c at : ℕ) (ts : List Token) → (c == 62) ≡ false → (c == 43) ≡ false → (c == 126) ≡ false → (c == 44) ≡ false
    → (c == 41) ≡ false → Begins (placed (Delim c) at ∷ ts)
good_delim c at ts a b d e f = record { spaces = refl; combinator = simp (a, b, d) refl; going = simp (e, f) refl }

compound_kind : (inner : Inner) (in_has : Bool) (kind : TokenKind) (at : ℕ) (ts : List Token) (x : CompoundTree × List Token)
    → compound inner in_has (placed kind at ∷ ts) ≡ Ok x → Begins (placed kind at ∷ ts)
unfolding type_selector prefix next_part
compound_kind inner in_has (Ident text) at ts x read = record { spaces = refl; combinator = refl; going = refl }
compound_kind inner in_has (Function text) at ts x read = record { spaces = refl; combinator = refl; going = refl }
compound_kind inner in_has (AtKeyword text) at ts x read = record { spaces = refl; combinator = refl; going = refl }
compound_kind inner in_has (Hash text id) at ts x read = record { spaces = refl; combinator = refl; going = refl }
compound_kind inner in_has (Str text) at ts x read = record { spaces = refl; combinator = refl; going = refl }
compound_kind inner in_has BadStr at ts x read = record { spaces = refl; combinator = refl; going = refl }
compound_kind inner in_has Url at ts x read = record { spaces = refl; combinator = refl; going = refl }
compound_kind inner in_has BadUrl at ts x read = record { spaces = refl; combinator = refl; going = refl }
compound_kind inner in_has (Number value) at ts x read = record { spaces = refl; combinator = refl; going = refl }
compound_kind inner in_has Percentage at ts x read = record { spaces = refl; combinator = refl; going = refl }
compound_kind inner in_has (Dimension value unit) at ts x read = record { spaces = refl; combinator = refl; going = refl }
compound_kind inner in_has Space at ts x read = absurd (err≢ok _ x _ (nothing_read inner in_has (placed Space at) ts refl refl) read)
compound_kind inner in_has Cdo at ts x read = record { spaces = refl; combinator = refl; going = refl }
compound_kind inner in_has Cdc at ts x read = record { spaces = refl; combinator = refl; going = refl }
compound_kind inner in_has End at ts x read = absurd (err≢ok _ x _ (nothing_read inner in_has (placed End at) ts refl refl) read)
compound_kind inner in_has (Delim c) at ts x read = elim (cases_Bool (c == 62)) [
  | inl is ↦ absurd (bad_delim inner in_has c 62 at ts x is refl refl read)
  | inr a ↦ elim (cases_Bool (c == 43)) [
    | inl is ↦ absurd (bad_delim inner in_has c 43 at ts x is refl refl read)
    | inr b ↦ elim (cases_Bool (c == 126)) [
      | inl is ↦ absurd (bad_delim inner in_has c 126 at ts x is refl refl read)
      | inr d ↦ elim (cases_Bool (c == 44)) [
        | inl is ↦ absurd (bad_delim inner in_has c 44 at ts x is refl refl read)
        | inr e ↦ elim (cases_Bool (c == 41)) [
          | inl is ↦ absurd (bad_delim inner in_has c 41 at ts x is refl refl read)
          | inr f ↦ good_delim c at ts a b d e f
        ]
      ]
    ]
  ]
]

pub compound_begins : (inner : Inner) (in_has : Bool) (tokens : List Token) (x : CompoundTree × List Token)
    → compound inner in_has tokens ≡ Ok x → Begins tokens
unfolding compound type_selector prefix
compound_begins inner in_has [] x read = absurd (err≢ok _ x (compound inner in_has []) refl read)
compound_begins inner in_has (t ∷ ts) x read = compound_kind inner in_has t.kind t.at ts x read

-- no white space stands there
white_slash : (c : ℕ) → is_whitespace c ≡ true → (c == 47) ≡ false
white_slash c h = grind (arith, nat_tests)

white_first : (total c : ℕ) (rest : List ℕ) → is_whitespace c ≡ true
    → tokens_of total (c ∷ rest) ≡ placed Space (total - length (c ∷ rest)) ∷ tokens_of total (past_whitespace rest)
unfolding token
white_first total c rest h = token_first total c rest (past_whitespace rest) Space (white_slash c h) (rw h refl)

pub spaces_shorter : (ts : List Token) → length (past_spaces ts) ≤ length ts
spaces_shorter [] = omega arith
spaces_shorter (t ∷ ts) = elim (cases_Bool (is_space t.kind)) [
  | inl is ↦ rw is (omega (arith, spaces_shorter ts))
  | inr is ↦ rw is (omega arith)
]

pub begins_black : (total : ℕ) (chars : List ℕ) → Begins (tokens_of total chars) → is_whitespace (slice_index chars 0) ≡ false
begins_black total [] h = refl
begins_black total (c ∷ rest) h = elim (cases_Bool (is_whitespace c)) [
  | inr is ↦ is
  | inl is ↦
      let all = white_first total c rest is in
      let same = subst (λ (x : List Token). past_spaces x ≡ x) all h.spaces in
      absurd (omega (arith, ap length same, spaces_shorter (tokens_of total (past_whitespace rest))))
]

-- COMBINATORS

-- a combinator is read of a text, before a compound selector
pub record IsCombinator (total : ℕ) (combinator : Combinator) (chars rest : List ℕ) : Type 0 where
  pub read : combinator_of (tokens_of total chars) ≡ Some combinator
  pub past : past_combinator (tokens_of total chars) ≡ tokens_of total rest
  pub fewer : length (tokens_of total rest) < length (tokens_of total chars)

sign_combinator : (total c : ℕ) (combinator : Combinator) (rest : List ℕ) → Begins (tokens_of total rest)
    → tokens_of total (c ∷ 32 ∷ rest) ≡ placed (Delim c) (total - length (c ∷ 32 ∷ rest)) ∷ tokens_of total (32 ∷ rest)
    → is_whitespace c ≡ false
    → ((at : ℕ) (ts : List Token) → written_combinator (placed (Delim c) at ∷ ts) ≡ Some combinator)
    → IsCombinator total combinator (32 ∷ c ∷ 32 ∷ rest) rest
unfolding combinator_of past_combinator
sign_combinator total c combinator rest begins sign white written =
    let black = begins_black total rest begins in
    let first = space_token total (c ∷ 32 ∷ rest) white in
    let second = space_token total rest black in
    let w = written (total - length (c ∷ 32 ∷ rest)) (tokens_of total (32 ∷ rest)) in
    record {
      read = rw (first, sign, w) refl;
      past = rw (first, sign, w, second, begins.spaces) refl;
      fewer = rw (first, sign, second) (omega arith);
    }

descendant_combinator : (total : ℕ) (rest : List ℕ) → Begins (tokens_of total rest) → IsCombinator total Descendant (32 ∷ rest) rest
unfolding combinator_of past_combinator
descendant_combinator total rest begins =
    let space = space_token total rest (begins_black total rest begins) in
    let less : nat_lt (length (tokens_of total rest)) (length (placed Space (total - length (32 ∷ rest)) ∷ tokens_of total rest)) ≡ true =
    lt-ltb _ _ (omega arith) in
    record {
      read = rw (space, begins.spaces, begins.combinator, begins.spaces, less, begins.going) refl;
      past = rw (space, begins.spaces, begins.combinator) refl;
      fewer = rw space (omega arith);
    }

pub combinator_read : (total : ℕ) (combinator : Combinator) (rest : List ℕ) → Begins (tokens_of total rest)
    → IsCombinator total combinator (combinator_text false combinator ++ rest) rest
unfolding token at_number at_name
combinator_read total Descendant rest begins = descendant_combinator total rest begins
combinator_read total Child rest begins = sign_combinator total 62 Child rest begins
    (token_first total 62 (32 ∷ rest) (32 ∷ rest) (Delim 62) refl refl) refl (λ at ts. refl)
combinator_read total NextSibling rest begins = sign_combinator total 43 NextSibling rest begins
    (token_first total 43 (32 ∷ rest) (32 ∷ rest) (Delim 43) refl refl) refl (λ at ts. refl)
combinator_read total SubsequentSibling rest begins = sign_combinator total 126 SubsequentSibling rest begins
    (token_first total 126 (32 ∷ rest) (32 ∷ rest) (Delim 126) refl refl) refl (λ at ts. refl)

-- WHERE A SELECTOR OF A LIST ENDS

abbrev pub ends_list : List ℕ → Bool
ends_list [] = true
ends_list (c ∷ rest) = (c == 41) || (c == 44)

ends_stop : (c : ℕ) → ((c == 41) || (c == 44)) ≡ true → stops_at c ≡ true
ends_stop c h = grind (arith, nat_tests)

pub list_stops : (rest : List ℕ) → ends_list rest ≡ true → stops rest ≡ true
list_stops [] h = refl
list_stops (c ∷ rest) h = ends_stop c h

-- what tokens begin with there
pub record EndsList (tokens : List Token) : Type 0 where
  pub spaces : past_spaces tokens ≡ tokens
  pub combinator : combinator_of tokens ≡ None
  pub ended : ends tokens ≡ true

no_combinator : (t : Token) (ts : List Token) → past_spaces (t ∷ ts) ≡ t ∷ ts → written_combinator (t ∷ ts) ≡ None
    → combinator_of (t ∷ ts) ≡ None
unfolding combinator_of
no_combinator t ts spaces written = rw (spaces, written, spaces, no_less (length (t ∷ ts))) refl

pub list_ends : (total : ℕ) (rest : List ℕ) → ends_list rest ≡ true → EndsList (tokens_of total rest)
list_ends total [] h = rw (no_tokens total) (record {
  spaces = refl;
  combinator = no_combinator
      (placed End total) [] refl refl;
  ended = refl;
})
list_ends total (c ∷ rest) h = elim (or_cases _ _ h) [
  | inl is ↦ subst (λ (x : ℕ). EndsList (tokens_of total (x ∷ rest))) (sym (eqb-true c 41 is))
      (rw (close_token total rest) (record { spaces = refl; combinator = no_combinator _ _ refl refl; ended = refl }))
  | inr is ↦ subst (λ (x : ℕ). EndsList (tokens_of total (x ∷ rest))) (sym (eqb-true c 44 is))
      (rw (comma_token total rest) (record { spaces = refl; combinator = no_combinator _ _ refl refl; ended = refl }))
]

-- no combinator is read any more
pub beside_end : (inner : Inner) (in_has : Bool) (n total : ℕ) (so_far : ComplexTree) (rest : List ℕ) → ends_list rest ≡ true
    → beside inner in_has n so_far (tokens_of total rest) ≡ Ok (so_far, tokens_of total rest)
beside_end inner in_has zero total so_far rest h = refl
beside_end inner in_has (suc n) total so_far rest h =
    let e = list_ends total rest h in
    rw (e.combinator, beside, e.spaces) refl
