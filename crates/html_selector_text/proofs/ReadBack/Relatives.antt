-- Relative selectors that are written are read back.
use Rattle.std.proofs.Common.{◌≡◌, ◌∙◌, ℕ, suc, ◌-◌, ◌<◌, ◌≤◌, Bool, true, false, Ok, Option, Some, None}
use Rattle.std.proofs.Common.{List, [], ◌∷◌, ◌++◌, length, refl, sym, ap, subst, arith, append_assoc}
use Rattle.std.specs.Prelude.{slice_index, unwrap_or}
use Rattle.std.proofs.lemmas.List.{append-nil}
use Rattle.selectors.specs.declared.selector.Combinator.{Combinator}
use Rattle.selectors.specs.declared.selector.Combinator.TheVariants.{Descendant, Child, NextSibling, SubsequentSibling}
use Rattle.selectors.specs.declared.selector.Simple.{Simple}
use Rattle.html_selector_text.specs.declared.simples.ListKind.TheVariants.{Relative}
use Rattle.html_selector_text.specs.declared.tokens.Token.{Token}
use Rattle.html_selector_text.specs.declared.tokens.TokenKind.TheVariants.{Delim}
use Rattle.html_selector_text.specs.Characters.{is_whitespace, at_name, at_number}
use Rattle.html_selector_text.specs.Reading.{past_spaces}
use Rattle.html_selector_text.specs.Scanning.{placed, token}
use Rattle.html_selector_text.specs.Grammar.{written_combinator, past_written, combinator_of, past_combinator, CompoundRead, compound}
use Rattle.html_selector_text.specs.Grammar.{RelativeRead}
use Rattle.html_selector_text.specs.Grammar.{behind, relative_to, relative, item, has_alone}
use Rattle.html_selector_text.specs.Results.{◌>>=◌}
use Rattle.html_selector_text.specs.Trees.{RelativeTree, ToTree, ThenTree, TestsTree, CompoundTree, LeftTree, joined}
use Rattle.html_selector_text.specs.Written.{combinator_text, compound_text, tests_text, relative_text, complex_text}
use Rattle.html_selector_text.specs.Readable.{AreSimples}
use Rattle.html_selector_text.proofs.ReadBack.Lexing.{tokens_of, token_first}
use Rattle.html_selector_text.proofs.ReadBack.Words.{space_token}
use Rattle.html_selector_text.proofs.Turns.{joined_append}
use Rattle.html_selector_text.proofs.ReadBack.Ends.{Begins, compound_begins, begins_black, spaces_shorter, combinator_read, ends_list}
use Rattle.html_selector_text.proofs.ReadBack.Ends.{list_stops, list_ends}
use Rattle.html_selector_text.proofs.ReadBack.Joins.{at_depth, of_both, TestsRead, IsCompound, compound_read}
use Rattle.html_selector_text.proofs.ReadBack.Lists.{combinator_stops, ItemIs}

abbrev pub first_of : RelativeTree → Combinator
first_of (ToTree combinator simples tests) = combinator
first_of (ThenTree combinator simples tests rest) = combinator

-- what is written behind the first combinator
abbrev pub body_text : RelativeTree → List ℕ
body_text (ToTree combinator simples tests) = compound_text simples tests (tests_text false tests)
body_text (ThenTree combinator simples tests rest) = compound_text simples tests (tests_text false tests) ++ relative_text false rest

pub first_text : (first : Bool) (one : RelativeTree) → relative_text first one ≡ combinator_text first (first_of one) ++ body_text one
first_text first (ToTree combinator simples tests) = refl
first_text first (ThenTree combinator simples tests rest) =
    append_assoc (combinator_text first combinator) (compound_text simples tests (tests_text false tests)) (relative_text false rest)

pub record RelativeIs (depth : ℕ) (one : RelativeTree) : Type 0 where
  pub read : (total n : ℕ) (so_far : List LeftTree) (rest : List ℕ) → ends_list rest ≡ true
      → length (tokens_of total (body_text one ++ rest)) ≤ n
      → relative_to (at_depth depth) true n so_far (first_of one) (tokens_of total (body_text one ++ rest))
      ≡ Ok (joined so_far one, tokens_of total rest)
  pub fewer : (total : ℕ) (rest : List ℕ) → ends_list rest ≡ true
      → length (tokens_of total rest) < length (tokens_of total (body_text one ++ rest))
  pub begins : (total : ℕ) (rest : List ℕ) → ends_list rest ≡ true → Begins (tokens_of total (body_text one ++ rest))

-- what is read behind a compound selector
abbrev goes_on : ℕ → ℕ → List LeftTree → Combinator → CompoundTree × List Token → Option Combinator → RelativeRead
goes_on depth n so_far first c None = Ok (joined so_far (ToTree first c.0.simples c.0.tests), past_spaces c.1)
goes_on depth n so_far first c (Some combinator) =
    relative_to (at_depth depth) true n (so_far ++ behind first c.0 ∷ []) combinator (past_combinator c.1)

compound_step : (depth n : ℕ) (so_far : List LeftTree) (first : Combinator) (ts : List Token) (c : CompoundTree × List Token)
    (o : Option Combinator) → compound (at_depth depth) true ts ≡ Ok c → combinator_of c.1 ≡ o
    → relative_to (at_depth depth) true (suc n) so_far first ts ≡ goes_on depth n so_far first c o
compound_step depth n so_far first ts c o read next =
    ap (λ (r : CompoundRead). r >>= λ x. goes_on depth n so_far first x (combinator_of x.1)) read ∙ ap (goes_on depth n so_far first c) next

last_step : (depth n total : ℕ) (so_far : List LeftTree) (combinator : Combinator) (simples : List Simple) (tests : TestsTree)
    (chars rest : List ℕ) → ends_list rest ≡ true → IsCompound (at_depth depth) true total simples tests chars rest
    → relative_to (at_depth depth) true (suc n) so_far combinator (tokens_of total chars)
    ≡ Ok (joined so_far (ToTree combinator simples tests), tokens_of total rest)
last_step depth n total so_far combinator simples tests chars rest ends c =
    let e = list_ends total rest ends in
    compound_step depth n so_far combinator (tokens_of total chars) (of_both simples tests, tokens_of total rest) None c.read e.combinator
    ∙ rw e.spaces refl

pub to_relative : (depth : ℕ) (combinator : Combinator) (simples : List Simple) (tests : TestsTree) → AreSimples simples
    → TestsRead depth true tests → RelativeIs depth (ToTree combinator simples tests)
to_relative depth combinator simples tests are reads = record {
  read = λ total n so_far rest ends long.
      let c = compound_read depth true total simples tests rest are reads (list_stops rest ends) in
      let is : n ≡ suc (n - 1) = omega (arith, long, c.fewer) in
      ap (λ (m : ℕ). relative_to (at_depth depth) true m so_far combinator
      (tokens_of total (compound_text simples tests (tests_text false tests) ++ rest))) is
      ∙ last_step depth (n - 1) total so_far combinator simples tests _ rest ends c;
  fewer = λ total rest ends. (compound_read depth true total simples tests rest are reads (list_stops rest ends)).fewer;
  begins = λ total rest ends. compound_begins (at_depth depth) true _ _
      (compound_read depth true total simples tests rest are reads (list_stops rest ends)).read;
}

then_step : (depth n total : ℕ) (so_far : List LeftTree) (combinator : Combinator) (simples : List Simple) (tests : TestsTree)
    (next : RelativeTree) (chars rest : List ℕ) → RelativeIs depth next → ends_list rest ≡ true
    → IsCompound (at_depth depth) true total simples tests chars (combinator_text false (first_of next) ++ (body_text next ++ rest))
    → length (tokens_of total (body_text next ++ rest)) ≤ n
    → relative_to (at_depth depth) true (suc n) so_far combinator (tokens_of total chars)
    ≡ Ok (joined so_far (ThenTree combinator simples tests next), tokens_of total rest)
then_step depth n total so_far combinator simples tests next chars rest is ends c long =
    let k = combinator_read total (first_of next) (body_text next ++ rest) (is.begins total rest ends) in
    let left : LeftTree = behind combinator (of_both simples tests) in
    let r = is.read total n (so_far ++ left ∷ []) rest ends long in
    compound_step depth n so_far combinator (tokens_of total chars)
    (of_both simples tests, tokens_of total (combinator_text false (first_of next) ++ (body_text next ++ rest))) (Some
    (first_of next)) c.read k.read
    ∙ rw (k.past, r)
    (ap (λ (x : RelativeTree). Ok (x, tokens_of total rest)) (joined_append so_far left next))

pub then_relative : (depth : ℕ) (combinator : Combinator) (simples : List Simple) (tests : TestsTree) (next : RelativeTree)
    → AreSimples simples → TestsRead depth true tests → RelativeIs depth next
    → RelativeIs depth (ThenTree combinator simples tests next)
then_relative depth combinator simples tests next are reads is =
    let here : List ℕ = compound_text simples tests (tests_text false tests) in
    let sign : List ℕ = combinator_text false (first_of next) in
    let all : (rest : List ℕ) → body_text (ThenTree combinator simples tests next) ++ rest ≡ here ++ (sign ++ (body_text next ++ rest)) =
    λ rest. append_assoc here (relative_text false next) rest
    ∙ ap (λ (x : List ℕ). here ++ x) (ap (λ (x : List ℕ). x ++ rest) (first_text false next) ∙ append_assoc sign (body_text next) rest) in
    record {
      read = λ total n so_far rest ends long.
          let c = compound_read depth true total simples tests (sign ++ (body_text next ++ rest)) are reads
          (combinator_stops (first_of next) (body_text next ++ rest)) in
          let k = combinator_read total (first_of next) (body_text next ++ rest) (is.begins total rest ends) in
          let lengths = ap (λ (x : List ℕ). length (tokens_of total x)) (all rest) in
          let one : n ≡ suc (n - 1) = omega (arith, lengths, long, c.fewer) in
          ap (λ (x : List ℕ). relative_to (at_depth depth) true n so_far combinator (tokens_of total x)) (all rest)
          ∙ (ap (λ (m : ℕ). relative_to (at_depth depth) true m so_far combinator
          (tokens_of total (here ++ (sign ++ (body_text next ++ rest))))) one
          ∙ then_step depth (n - 1) total so_far combinator simples tests next _ rest is ends c
          (omega (arith, lengths, long, c.fewer, k.fewer)));
      fewer = λ total rest ends.
          let c = compound_read depth true total simples tests (sign ++ (body_text next ++ rest)) are reads
          (combinator_stops (first_of next) (body_text next ++ rest)) in
          let k = combinator_read total (first_of next) (body_text next ++ rest) (is.begins total rest ends) in
          omega (arith, ap (λ (x : List ℕ). length (tokens_of total x)) (all rest), c.fewer, k.fewer, is.fewer total rest ends);
      begins = λ total rest ends. subst (λ (x : List ℕ). Begins (tokens_of total x)) (sym (all rest))
          (compound_begins (at_depth depth) true _ _
          (compound_read depth true total simples tests (sign ++ (body_text next ++ rest)) are reads
          (combinator_stops (first_of next) (body_text next ++ rest))).read);
    }

-- THE FIRST COMBINATOR

record IsFirst (total : ℕ) (combinator : Combinator) (chars rest : List ℕ) : Type 0 where
  pub spaces : past_spaces (tokens_of total chars) ≡ tokens_of total chars
  pub read : unwrap_or (written_combinator (tokens_of total chars)) Descendant ≡ combinator
  pub past : past_written (tokens_of total chars) ≡ tokens_of total rest
  pub fewer : length (tokens_of total rest) ≤ length (tokens_of total chars)
  pub black : is_whitespace (slice_index chars 0) ≡ false

first_sign : (total c : ℕ) (combinator : Combinator) (rest : List ℕ) → Begins (tokens_of total rest)
    → tokens_of total (c ∷ 32 ∷ rest) ≡ placed (Delim c) (total - length (c ∷ 32 ∷ rest)) ∷ tokens_of total (32 ∷ rest)
    → is_whitespace c ≡ false
    → ((at : ℕ) (ts : List Token) → written_combinator (placed (Delim c) at ∷ ts) ≡ Some combinator)
    → IsFirst total combinator (c ∷ 32 ∷ rest) rest
first_sign total c combinator rest begins sign white written =
    let space = space_token total rest (begins_black total rest begins) in
    let w = written (total - length (c ∷ 32 ∷ rest)) (tokens_of total (32 ∷ rest)) in
    record {
      spaces = rw sign refl;
      read = rw (sign, w) refl;
      past = rw (sign, w, space, begins.spaces) refl;
      fewer = rw (sign, space) (omega arith);
      black = white;
    }

first_read : (total : ℕ) (combinator : Combinator) (rest : List ℕ) → Begins (tokens_of total rest)
    → IsFirst total combinator (combinator_text true combinator ++ rest) rest
unfolding token at_number at_name
first_read total Descendant rest begins = record {
  spaces = begins.spaces;
  read = rw begins.combinator refl;
  past = rw begins.combinator refl;
  fewer = omega arith;
  black = begins_black total rest begins;
}
first_read total Child rest begins = first_sign total 62 Child rest begins
    (token_first total 62 (32 ∷ rest) (32 ∷ rest) (Delim 62) refl refl) refl (λ at ts. refl)
first_read total NextSibling rest begins = first_sign total 43 NextSibling rest begins
    (token_first total 43 (32 ∷ rest) (32 ∷ rest) (Delim 43) refl refl) refl (λ at ts. refl)
first_read total SubsequentSibling rest begins = first_sign total 126 SubsequentSibling rest begins
    (token_first total 126 (32 ∷ rest) (32 ∷ rest) (Delim 126) refl refl) refl (λ at ts. refl)

whole_relative : (depth total : ℕ) (one : RelativeTree) (chars rest : List ℕ) (ts : List Token) → RelativeIs depth one
    → ends_list rest ≡ true → chars ≡ combinator_text true (first_of one) ++ (body_text one ++ rest)
    → past_spaces ts ≡ tokens_of total chars → item (at_depth depth) true Relative ts ≡ Ok (Some (has_alone one), tokens_of total rest)
unfolding item relative past_combinator
whole_relative depth total one chars rest ts is ends text spaces =
    let f = first_read total (first_of one) (body_text one ++ rest) (is.begins total rest ends) in
    let same : past_spaces ts ≡ tokens_of total (combinator_text true (first_of one) ++ (body_text one ++ rest)) =
    spaces ∙ ap (tokens_of total) text in
    let long : length (tokens_of total (body_text one ++ rest)) ≤ length ts = omega (arith, spaces_shorter ts, ap length same, f.fewer) in
    let r = is.read total (length ts) [] rest ends long in
    rw (same, f.read, f.past, r) refl

-- the items of `:has()`
pub has_item : (depth : ℕ) (one : RelativeTree) → RelativeIs depth one → ItemIs depth true Relative true (has_alone one)
has_item depth one is =
    let text : (rest : List ℕ) → complex_text true (has_alone one) ++ rest
    ≡ combinator_text true (first_of one) ++ (body_text one ++ rest) =
    λ rest. ap (λ (x : List ℕ). x ++ rest) (append-nil (relative_text true one) ∙ first_text true one)
    ∙ append_assoc (combinator_text true (first_of one)) (body_text one) rest in
    record {
      read = λ total rest ts ends spaces. whole_relative depth total one _ rest ts is ends (text rest) spaces;
      fewer = λ total rest ends.
          let f = first_read total (first_of one) (body_text one ++ rest) (is.begins total rest ends) in
          omega (arith, ap (λ (x : List ℕ). length (tokens_of total x)) (text rest), f.fewer, is.fewer total rest ends);
      spaces = λ total rest ends. subst (λ (x : List ℕ). past_spaces (tokens_of total x) ≡ tokens_of total x) (sym (text rest))
          (first_read total (first_of one) (body_text one ++ rest) (is.begins total rest ends)).spaces;
      black = λ rest ends. subst (λ (x : List ℕ). is_whitespace (slice_index x 0) ≡ false) (sym (text rest))
          (first_read 0 (first_of one) (body_text one ++ rest) (is.begins 0 rest ends)).black;
    }
