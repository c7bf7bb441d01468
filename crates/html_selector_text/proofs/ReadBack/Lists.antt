-- Tests, complex selectors and lists, from their parts.
use Rattle.std.proofs.Common.{◌≡◌, ◌∙◌, ℕ, suc, ◌-◌, ◌<◌, ◌≤◌, Bool, true, false, cond, ◌||◌, Ok, Some}
use Rattle.std.proofs.Common.{List, [], ◌∷◌, ◌++◌, length, drop, refl, sym, ap, subst, arith, append_assoc}
use Rattle.std.specs.Prelude.{◌==◌, slice_index, codes}
use Rattle.std.proofs.lemmas.Bool.{true≢false}
use Rattle.selectors.specs.declared.selector.Combinator.{Combinator}
use Rattle.selectors.specs.declared.selector.Combinator.TheVariants.{Descendant, Child, NextSibling, SubsequentSibling}
use Rattle.selectors.specs.declared.selector.Simple.{Simple}
use Rattle.html_selector_text.specs.declared.simples.ListKind.{ListKind}
use Rattle.html_selector_text.specs.declared.simples.ListKind.TheVariants.{Plain, Forgiving, Relative}
use Rattle.html_selector_text.specs.declared.simples.Part.TheVariants.{List as Argument}
use Rattle.html_selector_text.specs.declared.simples.Test.{Test}
use Rattle.html_selector_text.specs.declared.tokens.Token.{Token}
use Rattle.html_selector_text.specs.Characters.{is_whitespace}
use Rattle.html_selector_text.specs.Reading.{is_delim, past_spaces, ends}
use Rattle.html_selector_text.specs.Scanning.{is_word}
use Rattle.html_selector_text.specs.Simples.{next_part, pseudo, function_named, function_part, function_of}
use Rattle.html_selector_text.specs.Results.{◌>>=◌}
use Rattle.html_selector_text.specs.Grammar.{ListRead, with_test, tested, turn, parts, compound, beside, complex}
use Rattle.html_selector_text.specs.Grammar.{is_relative, item, items, finished, list_at}
use Rattle.html_selector_text.specs.Trees.{ListTree, NoSelectors, OrSelector, ComplexTree, AloneTree, BesideTree, CompoundTree, TestsTree}
use Rattle.html_selector_text.specs.Trees.{NoTests}
use Rattle.html_selector_text.specs.Written.{combinator_text, compound_text, tests_text, complex_text, list_text}
use Rattle.html_selector_text.specs.Readable.{AreSimples}
use Rattle.html_selector_text.proofs.ReadBack.Lexing.{tokens_of}
use Rattle.html_selector_text.proofs.ReadBack.Words.{space_token}
use Rattle.html_selector_text.proofs.ReadBack.Parts.{follows, IsWord, function_token, colon_token}
use Rattle.html_selector_text.proofs.ReadBack.Classes.{close_token}
use Rattle.html_selector_text.proofs.ReadBack.Compounds.{Reaches}
use Rattle.html_selector_text.proofs.ReadBack.Ends.{stops, Begins, compound_begins, begins_black, spaces_shorter, combinator_read}
use Rattle.html_selector_text.proofs.ReadBack.Ends.{ends_list, list_stops, list_ends, beside_end, comma_token}
use Rattle.html_selector_text.proofs.ReadBack.Joins.{at_depth, count_tests, of_both, TestsRead, compound_read}

-- TESTS

-- one test is read of a text
pub record IsTested (depth : ℕ) (in_has : Bool) (total : ℕ) (test : Test) (list : ListTree) (chars rest : List ℕ) : Type 0 where
  pub next : (k : ℕ) (so_far : CompoundTree) → parts (at_depth depth) in_has (suc k) so_far (tokens_of total chars)
      ≡ parts (at_depth depth) in_has k (tested test list so_far) (tokens_of total rest)
  pub fewer : length (tokens_of total rest) < length (tokens_of total chars)

pub test_step : (depth : ℕ) (in_has : Bool) (total k : ℕ) (so_far : CompoundTree) (test : Test) (kind : ListKind) (list : ListTree)
    (chars rest : List ℕ) (argument : List Token) → next_part in_has (tokens_of total chars) ≡ Ok (Argument test kind, argument)
    → list_at depth (in_has || is_relative kind) kind argument ≡ Ok (list, tokens_of total (41 ∷ rest))
    → parts (at_depth depth) in_has (suc k) so_far (tokens_of total chars)
    ≡ parts (at_depth depth) in_has k (tested test list so_far) (tokens_of total rest)
unfolding turn
test_step depth in_has total k so_far test kind list chars rest argument next read =
    let close = close_token total rest in
    rw (next, read, close) refl

-- one test more
pub add_test : (depth : ℕ) (in_has : Bool) (test : Test) (list : ListTree) (others whole : TestsTree) (middle : List ℕ)
    → TestsRead depth in_has others → tests_text false whole ≡ tests_text false others ++ middle → with_test test list others ≡ whole
    → count_tests whole ≡ suc (count_tests others) → ((rest : List ℕ) → follows (middle ++ rest) ≡ true)
    → ((total : ℕ) (rest : List ℕ) → IsTested depth in_has total test list (middle ++ rest) rest) → TestsRead depth in_has whole
add_test depth in_has test list others whole middle reads text same counts follow one =
    let before : List ℕ = tests_text false others in
    let all : (rest : List ℕ) → tests_text false whole ++ rest ≡ before ++ (middle ++ rest) =
    λ rest. ap (λ (x : List ℕ). x ++ rest) text ∙ append_assoc before middle rest in
    record {
      follow = λ rest h. subst (λ (x : List ℕ). follows x ≡ true) (sym (all rest)) (reads.follow (middle ++ rest) (follow rest));
      read = λ simples total n rest h long.
          let lengths : length (tokens_of total (tests_text false whole ++ rest)) ≡ length (tokens_of total (before ++ (middle ++ rest))) =
          ap (λ (x : List ℕ). length (tokens_of total x)) (all rest) in
          let r = reads.read simples total n (middle ++ rest) (follow rest) (omega (arith, lengths, long)) in
          let t = one total rest in
          let k = r.fuel - 1 in
          let is : r.fuel ≡ suc k = omega (arith, r.enough, t.fewer) in
          record {
            fuel = k;
            enough = omega (arith, r.enough, t.fewer, is);
            is = ap (λ (x : List ℕ). parts (at_depth depth) in_has n (of_both simples NoTests) (tokens_of total x)) (all rest)
                ∙ (r.is ∙ (ap (λ (m : ℕ). parts (at_depth depth) in_has m (of_both simples others) (tokens_of total (middle ++ rest))) is
                ∙ (t.next k (of_both simples others)
                ∙ ap (λ (x : TestsTree). parts (at_depth depth) in_has k (of_both simples x) (tokens_of total rest)) same)));
            fewer = omega (arith, counts, r.fewer, t.fewer, lengths);
          };
    }

-- the function of a test, and what stands in its parentheses
pub argument_read : (total : ℕ) (in_has : Bool) (word : List ℕ) (test : Test) (kind : ListKind) (rest : List ℕ) → IsWord word
    → is_word word (codes "url") ≡ false
    → ((ts : List Token) → function_part in_has (function_of word) ts ≡ Ok (Argument test kind, drop 1 ts))
    → next_part in_has (tokens_of total (58 ∷ (word ++ 40 ∷ rest))) ≡ Ok (Argument test kind, tokens_of total rest)
unfolding next_part pseudo function_named
argument_read total in_has word test kind rest is url named =
    rw (colon_token total (word ++ 40 ∷ rest), function_token total word rest is url) (named _)

pub argument_fewer : (total : ℕ) (word rest : List ℕ) → IsWord word → is_word word (codes "url") ≡ false
    → length (tokens_of total rest) < length (tokens_of total (58 ∷ (word ++ 40 ∷ rest)))
argument_fewer total word rest is url =
    rw (colon_token total (word ++ 40 ∷ rest), function_token total word rest is url) (omega arith)

-- COMPLEX SELECTORS

pub record ComplexIs (depth : ℕ) (in_has : Bool) (one : ComplexTree) : Type 0 where
  pub read : (total n : ℕ) (rest : List ℕ) (ts : List Token) → stops rest ≡ true
      → past_spaces ts ≡ tokens_of total (complex_text false one ++ rest)
      → length (tokens_of total (complex_text false one ++ rest)) ≤ n
      → Reaches (compound (at_depth depth) in_has (past_spaces ts)
      >>= λ c. beside (at_depth depth) in_has n (AloneTree c.0.simples c.0.tests) c.1)
      (λ m. beside (at_depth depth) in_has m one (tokens_of total rest))
      1 (length (tokens_of total rest)) (length (tokens_of total (complex_text false one ++ rest)))
  pub begins : (total : ℕ) (rest : List ℕ) → stops rest ≡ true → Begins (tokens_of total (complex_text false one ++ rest))

pub alone_complex : (depth : ℕ) (in_has : Bool) (simples : List Simple) (tests : TestsTree) → AreSimples simples
    → TestsRead depth in_has tests
    → ComplexIs depth in_has (AloneTree simples tests)
alone_complex depth in_has simples tests are reads = record {
  read = λ total n rest ts stop spaces long.
      let c = compound_read depth in_has total simples tests rest are reads stop in
      record { fuel = n; enough = omega (arith, long, c.fewer); is = rw (spaces, c.read) refl; fewer = omega (arith, c.fewer) };
  begins = λ total rest stop. compound_begins (at_depth depth) in_has _ _
      (compound_read depth in_has total simples tests rest are reads stop).read;
}

pub combinator_stops : (combinator : Combinator) (rest : List ℕ) → stops (combinator_text false combinator ++ rest) ≡ true
combinator_stops Descendant rest = refl
combinator_stops Child rest = refl
combinator_stops NextSibling rest = refl
combinator_stops SubsequentSibling rest = refl

pub beside_complex : (depth : ℕ) (in_has : Bool) (left : ComplexTree) (combinator : Combinator) (simples : List Simple) (tests : TestsTree)
    → ComplexIs depth in_has left → AreSimples simples → TestsRead depth in_has tests
    → ComplexIs depth in_has (BesideTree left combinator simples tests)
beside_complex depth in_has left combinator simples tests before are reads =
    let sign : List ℕ = combinator_text false combinator in
    let last : List ℕ = compound_text simples tests (tests_text false tests) in
    let all : (rest : List ℕ) → complex_text false (BesideTree left combinator simples tests) ++ rest
    ≡ complex_text false left ++ (sign ++ (last ++ rest)) =
    λ rest. append_assoc (complex_text false left ++ sign) last rest ∙ append_assoc (complex_text false left) sign (last ++ rest) in
    record {
      read = λ total n rest ts stop spaces long.
          let c = compound_read depth in_has total simples tests rest are reads stop in
          let b = compound_begins (at_depth depth) in_has _ _ c.read in
          let k = combinator_read total combinator (last ++ rest) b in
          let lengths = ap (λ (x : List ℕ). length (tokens_of total x)) (all rest) in
          let r = before.read total n (sign ++ (last ++ rest)) ts (combinator_stops combinator (last ++ rest))
          (spaces ∙ ap (tokens_of total) (all rest)) (omega (arith, lengths, long)) in
          let m = r.fuel - 1 in
          let is : r.fuel ≡ suc m = omega (arith, r.enough, k.fewer) in
          record {
            fuel = m;
            enough = omega (arith, r.enough, k.fewer, c.fewer, is);
            is = r.is ∙ (ap (λ (x : ℕ). beside (at_depth depth) in_has x left (tokens_of total (sign ++ (last ++ rest)))) is
                ∙ rw (k.read, beside, k.past, c.read) refl);
            fewer = omega (arith, lengths, r.fewer, k.fewer, c.fewer);
          };
      begins = λ total rest stop. subst (λ (x : List ℕ). Begins (tokens_of total x)) (sym (all rest))
          (before.begins total (sign ++ (last ++ rest)) (combinator_stops combinator (last ++ rest)));
    }

-- ITEMS OF LISTS

-- a selector of a list is read, in `:has()` or not
pub record ItemIs (depth : ℕ) (in_has : Bool) (kind : ListKind) (of_has : Bool) (one : ComplexTree) : Type 0 where
  pub read : (total : ℕ) (rest : List ℕ) (ts : List Token) → ends_list rest ≡ true
      → past_spaces ts ≡ tokens_of total (complex_text of_has one ++ rest)
      → item (at_depth depth) in_has kind ts ≡ Ok (Some one, tokens_of total rest)
  pub fewer : (total : ℕ) (rest : List ℕ) → ends_list rest ≡ true
      → length (tokens_of total rest) < length (tokens_of total (complex_text of_has one ++ rest))
  pub spaces : (total : ℕ) (rest : List ℕ) → ends_list rest ≡ true
      → past_spaces (tokens_of total (complex_text of_has one ++ rest)) ≡ tokens_of total (complex_text of_has one ++ rest)
  pub black : (rest : List ℕ) → ends_list rest ≡ true → is_whitespace (slice_index (complex_text of_has one ++ rest) 0) ≡ false

whole_complex : (depth : ℕ) (in_has : Bool) (one : ComplexTree) (total : ℕ) (rest : List ℕ) (ts : List Token) → ComplexIs depth in_has one
    → ends_list rest ≡ true → past_spaces ts ≡ tokens_of total (complex_text false one ++ rest)
    → complex (at_depth depth) in_has ts ≡ Ok (one, tokens_of total rest)
unfolding complex
whole_complex depth in_has one total rest ts is ends spaces =
    let long : length (tokens_of total (complex_text false one ++ rest)) ≤ length ts = omega (arith, spaces_shorter ts, ap length spaces) in
    let r = is.read total (length ts) rest ts (list_stops rest ends) spaces long in
    r.is ∙ beside_end (at_depth depth) in_has r.fuel total one rest ends

kind_item : (depth : ℕ) (in_has : Bool) (kind : ListKind) (one : ComplexTree) (total : ℕ) (rest : List ℕ) (ts : List Token)
    → is_relative kind ≡ false → complex (at_depth depth) in_has ts ≡ Ok (one, tokens_of total rest) → ends (tokens_of total rest) ≡ true
    → item (at_depth depth) in_has kind ts ≡ Ok (Some one, tokens_of total rest)
unfolding item
kind_item depth in_has Plain one total rest ts kind read ended = rw read refl
kind_item depth in_has Forgiving one total rest ts kind read ended = rw (read, ended) refl
kind_item depth in_has Relative one total rest ts kind read ended = absurd (true≢false kind)

pub complex_item : (depth : ℕ) (in_has : Bool) (kind : ListKind) (one : ComplexTree) → is_relative kind ≡ false → ComplexIs depth in_has one
    → ItemIs depth in_has kind false one
complex_item depth in_has kind one plain is = record {
  read = λ total rest ts ends spaces. kind_item depth in_has kind one total rest ts plain
      (whole_complex depth in_has one total rest ts is ends spaces) (list_ends total rest ends).ended;
  fewer = λ total rest ends.
      let r = is.read total (length (tokens_of total (complex_text false one ++ rest))) rest (tokens_of total
      (complex_text false one ++ rest))
      (list_stops rest ends) (is.begins total rest (list_stops rest ends)).spaces (omega arith) in
      omega (arith, r.fewer);
  spaces = λ total rest ends. (is.begins total rest (list_stops rest ends)).spaces;
  black = λ rest ends. begins_black 0 (complex_text false one ++ rest) (is.begins 0 rest (list_stops rest ends));
}

-- LISTS

abbrev pub behind_item : ℕ → Bool → ListKind → ℕ → ListTree → List Token → ListRead
behind_item depth in_has kind m so_far ts =
    cond (is_delim 44 ts) (items (at_depth depth) in_has kind m so_far (drop 1 ts)) (finished so_far ts)

pub record ListIs (depth : ℕ) (in_has : Bool) (kind : ListKind) (of_has : Bool) (list : ListTree) : Type 0 where
  pub read : (total n : ℕ) (rest : List ℕ) (ts : List Token) → ends_list rest ≡ true
      → past_spaces ts ≡ tokens_of total (list_text of_has list ++ rest)
      → length (tokens_of total (list_text of_has list ++ rest)) ≤ n
      → Reaches (items (at_depth depth) in_has kind n NoSelectors ts)
      (λ m. behind_item depth in_has kind m list (tokens_of total rest))
      1 (length (tokens_of total rest)) (length (tokens_of total (list_text of_has list ++ rest)))
  pub spaces : (total : ℕ) (rest : List ℕ) → ends_list rest ≡ true
      → past_spaces (tokens_of total (list_text of_has list ++ rest)) ≡ tokens_of total (list_text of_has list ++ rest)
  pub black : (rest : List ℕ) → ends_list rest ≡ true → is_whitespace (slice_index (list_text of_has list ++ rest) 0) ≡ false

pub one_item : (depth : ℕ) (in_has : Bool) (kind : ListKind) (of_has : Bool) (one : ComplexTree) → ItemIs depth in_has kind of_has one
    → ListIs depth in_has kind of_has (OrSelector one NoSelectors)
one_item depth in_has kind of_has one is = record {
  read = λ total n rest ts ends spaces long.
      let m = n - 1 in
      let more : n ≡ suc m = omega (arith, long, is.fewer total rest ends) in
      let i = is.read total rest ts ends spaces in
      record {
        fuel = m;
        enough = omega (arith, long, is.fewer total rest ends, more);
        is = ap (λ (x : ℕ). items (at_depth depth) in_has kind x NoSelectors ts) more ∙ rw i refl;
        fewer = omega (arith, is.fewer total rest ends);
      };
  spaces = is.spaces;
  black = is.black;
}

pub more_items : (depth : ℕ) (in_has : Bool) (kind : ListKind) (of_has : Bool) (one other : ComplexTree) (others : ListTree)
    → ItemIs depth in_has kind of_has one → ListIs depth in_has kind of_has (OrSelector other others)
    → ListIs depth in_has kind of_has (OrSelector one (OrSelector other others))
more_items depth in_has kind of_has one other others is before =
    let list : ListTree = OrSelector other others in
    let all : (rest : List ℕ) → list_text of_has (OrSelector one list) ++ rest
    ≡ list_text of_has list ++ 44 ∷ 32 ∷ (complex_text of_has one ++ rest) =
    λ rest. append_assoc (list_text of_has list ++ codes ", ") (complex_text of_has one) rest
    ∙ append_assoc (list_text of_has list) (codes ", ") (complex_text of_has one ++ rest) in
    record {
      read = λ total n rest ts ends spaces long.
          let last : List ℕ = complex_text of_has one ++ rest in
          let lengths = ap (λ (x : List ℕ). length (tokens_of total x)) (all rest) in
          let r = before.read total n (44 ∷ 32 ∷ last) ts refl (spaces ∙ ap (tokens_of total) (all rest)) (omega (arith, lengths, long)) in
          let comma = comma_token total (32 ∷ last) in
          let space = space_token total last (is.black rest ends) in
          let m = r.fuel - 1 in
          let more : r.fuel ≡ suc m = omega (arith, r.enough, ap length comma) in
          let i = is.read total rest (tokens_of total (32 ∷ last)) ends
          (subst (λ (x : List Token). past_spaces x ≡ tokens_of total last) (sym space) (is.spaces total rest ends)) in
          record {
            fuel = m;
            enough = omega (arith, r.enough, ap length comma, ap length space, is.fewer total rest ends, more);
            is = r.is ∙ (ap (λ (x : ℕ). behind_item depth in_has kind x list (tokens_of total (44 ∷ 32 ∷ last))) more
                ∙ rw (comma, i) refl);
            fewer = omega (arith, lengths, r.fewer, ap length comma, ap length space, is.fewer total rest ends);
          };
      spaces = λ total rest ends. subst (λ (x : List ℕ). past_spaces (tokens_of total x) ≡ tokens_of total x) (sym (all rest))
          (before.spaces total (44 ∷ 32 ∷ (complex_text of_has one ++ rest)) refl);
      black = λ rest ends. subst (λ (x : List ℕ). is_whitespace (slice_index x 0) ≡ false) (sym (all rest))
          (before.black (44 ∷ 32 ∷ (complex_text of_has one ++ rest)) refl);
    }

-- a whole list, up to a parenthesis or the end
abbrev pub closes_list : List ℕ → Bool
closes_list [] = true
closes_list (c ∷ rest) = c == 41

pub whole_list : (depth : ℕ) (in_has : Bool) (kind : ListKind) (of_has : Bool) (list : ListTree) (total : ℕ) (rest : List ℕ)
    (ts : List Token)
    → ListIs depth in_has kind of_has list → ends_list rest ≡ true → is_delim 44 (tokens_of total rest) ≡ false
    → past_spaces ts ≡ tokens_of total (list_text of_has list ++ rest)
    → list_at (suc depth) in_has kind ts ≡ Ok (list, tokens_of total rest)
unfolding list_at
whole_list depth in_has kind of_has list total rest ts is ends comma spaces =
    let long : length (tokens_of total (list_text of_has list ++ rest)) ≤ length ts = omega (arith, spaces_shorter ts, ap length spaces) in
    let r = is.read total (length ts) rest ts ends spaces long in
    let ended = (list_ends total rest ends).ended in
    r.is ∙ rw (ended, comma) refl
