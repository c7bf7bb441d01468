-- Selectors that are written are read back.
use Rattle.std.proofs.Common.{◌≡◌, ◌∙◌, ℕ, suc, ◌-◌, ◌<◌, ◌≤◌, Bool, true, false, ◌||◌, Ok, Some}
use Rattle.std.proofs.Common.{List, [], ◌∷◌, ◌++◌, length, refl, sym, ap, subst, arith, append_assoc, inl, inr}
use Rattle.std.specs.Prelude.{◌⊎◌, codes}
use Rattle.std.proofs.lemmas.Bool.{and_right, true≢false, le-ltb}
use Rattle.selectors.specs.declared.selector.Nth.{Nth}
use Rattle.selectors.specs.declared.selector.Simple.{Simple}
use Rattle.html_selector_text.specs.declared.simples.ListKind.{ListKind}
use Rattle.html_selector_text.specs.declared.simples.ListKind.TheVariants.{Plain, Forgiving, Relative}
use Rattle.html_selector_text.specs.declared.simples.FunctionName.TheVariants.{NthClass}
use Rattle.html_selector_text.specs.declared.simples.Part.TheVariants.{List as Argument}
use Rattle.html_selector_text.specs.declared.simples.Test.{Test}
use Rattle.html_selector_text.specs.declared.simples.Test.TheVariants.{Is, Not, NthOf}
use Rattle.html_selector_text.specs.declared.tokens.Token.{Token}
use Rattle.html_selector_text.specs.Reading.{is_delim, past_spaces}
use Rattle.html_selector_text.specs.Scanning.{is_word}
use Rattle.html_selector_text.specs.Simples.{prefix, type_selector, next_part, pseudo, function_named, nth_class, function_of}
use Rattle.html_selector_text.specs.Grammar.{is_relative, list_at, item, compound, complex, turn}
use Rattle.html_selector_text.specs.Trees.{ListTree, NoSelectors, OrSelector, ComplexTree, AloneTree, BesideTree, RelativeTree, ToTree}
use Rattle.html_selector_text.specs.Trees.{ThenTree}
use Rattle.html_selector_text.specs.Trees.{TestsTree, NoTests, IsTest, NotTest, HasTest, NthOfTest}
use Rattle.html_selector_text.specs.Written.{identifier, nth_text, is_none, asks_has, all_ask_has, is_has, list_text, tests_text}
use Rattle.html_selector_text.specs.Readable.{IsNth, IsList, IsComplex, IsHasList, IsHas, IsHasAlone, IsRelative, IsTests}
use Rattle.html_selector_text.proofs.ReadBack.Lexing.{tokens_of}
use Rattle.html_selector_text.proofs.ReadBack.Words.{space_token}
use Rattle.html_selector_text.proofs.ReadBack.Parts.{IsWord, no_zeros, word_token, function_token, colon_token}
use Rattle.html_selector_text.proofs.ReadBack.Numbers.{nth_read}
use Rattle.html_selector_text.proofs.ReadBack.Classes.{close_token, of_token, of_word, child_word, last_child_word}
use Rattle.html_selector_text.proofs.ReadBack.Joins.{TestsRead, no_tests}
use Rattle.html_selector_text.proofs.ReadBack.Lists.{IsTested, test_step, add_test, argument_read, argument_fewer, ComplexIs}
use Rattle.html_selector_text.proofs.ReadBack.Lists.{alone_complex, beside_complex}
use Rattle.html_selector_text.proofs.ReadBack.Lists.{ItemIs, complex_item, ListIs, one_item, more_items, whole_list}
use Rattle.html_selector_text.proofs.ReadBack.Relatives.{RelativeIs, to_relative, then_relative, has_item}

is_of : IsWord (codes "is")
unfolding identifier
is_of = record { is_name = no_zeros (codes "is") refl; as_it_is = refl }

not_word : IsWord (codes "not")
unfolding identifier
not_word = record { is_name = no_zeros (codes "not") refl; as_it_is = refl }

has_word : IsWord (codes "has")
unfolding identifier
has_word = record { is_name = no_zeros (codes "has") refl; as_it_is = refl }

or_false : (b : Bool) → (b || false) ≡ b
or_false true = refl
or_false false = refl

-- a list in parentheses
record InParentheses (depth : ℕ) (in_has : Bool) (kind : ListKind) (list : ListTree) (text : List ℕ) : Type 0 where
  pub read : (total : ℕ) (rest : List ℕ) → list_at depth in_has kind (tokens_of total (text ++ 41 ∷ rest))
      ≡ Ok (list, tokens_of total (41 ∷ rest))
  pub fewer : (total : ℕ) (rest : List ℕ) → length (tokens_of total (41 ∷ rest)) ≤ length (tokens_of total (text ++ 41 ∷ rest))

no_comma : (total : ℕ) (rest : List ℕ) → is_delim 44 (tokens_of total (41 ∷ rest)) ≡ false
no_comma total rest = rw (close_token total rest) refl

list_in : (depth : ℕ) (in_has : Bool) (kind : ListKind) (of_has : Bool) (list : ListTree) → ListIs depth in_has kind of_has list
    → InParentheses (suc depth) in_has kind list (list_text of_has list)
list_in depth in_has kind of_has list is = record {
  read = λ total rest. whole_list depth in_has kind of_has list total (41 ∷ rest) (tokens_of total (list_text of_has list ++ 41 ∷ rest))
      is refl (no_comma total rest) (is.spaces total (41 ∷ rest) refl);
  fewer = λ total rest.
      let r = is.read total (length (tokens_of total (list_text of_has list ++ 41 ∷ rest))) (41 ∷ rest)
      (tokens_of total (list_text of_has list ++ 41 ∷ rest)) refl (is.spaces total (41 ∷ rest) refl) (omega arith) in
      omega (arith, r.fewer);
}

-- `:is()` without anything
nothing_in : (depth : ℕ) (in_has : Bool) → InParentheses (suc depth) in_has Forgiving NoSelectors []
unfolding list_at item complex compound type_selector prefix turn next_part
nothing_in depth in_has = record {
  read = λ total rest. rw (close_token total rest) (rw (le-ltb (suc (length (tokens_of total rest))) (suc (length
      (tokens_of total rest))) (omega arith)) refl);
  fewer = λ total rest. omega arith;
}

-- a pseudo-class with a list in its parentheses
list_test : (depth : ℕ) (in_has : Bool) (test : Test) (kind : ListKind) (list : ListTree) (word text : List ℕ) → IsWord word
    → is_word word (codes "url") ≡ false → InParentheses depth (in_has || is_relative kind) kind list text
    → ((total : ℕ) (rest : List ℕ) → next_part in_has (tokens_of total (58 ∷ (word ++ 40 ∷ rest)))
    ≡ Ok (Argument test kind, tokens_of total rest))
    → (total : ℕ) (rest : List ℕ) → IsTested depth in_has total test list (58 ∷ (word ++ 40 ∷ (text ++ 41 ∷ rest))) rest
list_test depth in_has test kind list word text is url inside next total rest = record {
  next = λ k so_far. test_step depth in_has total k so_far test kind list (58 ∷ (word ++ 40 ∷ (text ++ 41 ∷ rest))) rest
      (tokens_of total (text ++ 41 ∷ rest)) (next total (text ++ 41 ∷ rest)) (inside.read total rest);
  fewer = omega (arith, argument_fewer total word (text ++ 41 ∷ rest) is url, inside.fewer total rest, ap length (close_token total rest));
}

-- the text of such a class, and what stands behind it
middle_text : (word text rest : List ℕ) → (58 ∷ (word ++ 40 ∷ (text ++ 41 ∷ []))) ++ rest ≡ 58 ∷ (word ++ 40 ∷ (text ++ 41 ∷ rest))
middle_text word text rest =
    ap (λ (x : List ℕ). 58 ∷ x) (append_assoc word (40 ∷ (text ++ 41 ∷ [])) rest
    ∙ ap (λ (x : List ℕ). word ++ 40 ∷ x) (append_assoc text (41 ∷ []) rest))

-- what was written before it
before_text : (before word text : List ℕ) → ((before ++ (58 ∷ (word ++ 40 ∷ []))) ++ text) ++ 41 ∷ []
    ≡ before ++ (58 ∷ (word ++ 40 ∷ (text ++ 41 ∷ [])))
before_text before word text =
    append_assoc (before ++ (58 ∷ (word ++ 40 ∷ []))) text (41 ∷ [])
    ∙ (append_assoc before (58 ∷ (word ++ 40 ∷ [])) (text ++ 41 ∷ [])
    ∙ ap (λ (x : List ℕ). before ++ 58 ∷ x) (append_assoc word (40 ∷ []) (text ++ 41 ∷ [])))

is_tests : (depth : ℕ) (in_has : Bool) (list : ListTree) (others : TestsTree) → is_has list ≡ false → TestsRead (suc depth) in_has others
    → InParentheses (suc depth) in_has Forgiving list (list_text false list) → TestsRead (suc depth) in_has (IsTest list others)
is_tests depth in_has list others no_has reads inside =
    let text : List ℕ = list_text false list in
    add_test (suc depth) in_has Is list others (IsTest list others) (58 ∷ (codes "is" ++ 40 ∷ (text ++ 41 ∷ []))) reads
    (rw no_has (before_text (tests_text false others) (codes "is") text)) refl refl (λ rest. refl)
    (λ total rest. subst (λ (x : List ℕ). IsTested (suc depth) in_has total Is list x rest) (sym (middle_text (codes "is") text rest))
    (list_test (suc depth) in_has Is Forgiving list (codes "is") text is_of refl
    (subst (λ (x : Bool). InParentheses (suc depth) x Forgiving list text) (sym (or_false in_has)) inside)
    (λ total rest. argument_read total in_has (codes "is") Is Forgiving rest is_of refl (λ ts. refl)) total rest))

not_tests : (depth : ℕ) (in_has : Bool) (list : ListTree) (others : TestsTree) → TestsRead (suc depth) in_has others
    → InParentheses (suc depth) in_has Plain list (list_text false list) → TestsRead (suc depth) in_has (NotTest list others)
not_tests depth in_has list others reads inside =
    let text : List ℕ = list_text false list in
    add_test (suc depth) in_has Not list others (NotTest list others) (58 ∷ (codes "not" ++ 40 ∷ (text ++ 41 ∷ []))) reads
    (before_text (tests_text false others) (codes "not") text) refl refl (λ rest. refl)
    (λ total rest. subst (λ (x : List ℕ). IsTested (suc depth) in_has total Not list x rest) (sym (middle_text (codes "not") text rest))
    (list_test (suc depth) in_has Not Plain list (codes "not") text not_word refl
    (subst (λ (x : Bool). InParentheses (suc depth) x Plain list text) (sym (or_false in_has)) inside)
    (λ total rest. argument_read total in_has (codes "not") Not Plain rest not_word refl (λ ts. refl)) total rest))

has_tests : (depth : ℕ) (list : ListTree) (others : TestsTree) → is_has list ≡ true → TestsRead (suc depth) false others
    → InParentheses (suc depth) true Relative list (list_text true list) → TestsRead (suc depth) false (IsTest list others)
has_tests depth list others has reads inside =
    let text : List ℕ = list_text true list in
    add_test (suc depth) false Is list others (IsTest list others) (58 ∷ (codes "has" ++ 40 ∷ (text ++ 41 ∷ []))) reads
    (rw has (before_text (tests_text false others) (codes "has") text)) refl refl (λ rest. refl)
    (λ total rest. subst (λ (x : List ℕ). IsTested (suc depth) false total Is list x rest) (sym (middle_text (codes "has") text rest))
    (list_test (suc depth) false Is Relative list (codes "has") text has_word refl inside
    (λ total rest. argument_read total false (codes "has") Is Relative rest has_word refl (λ ts. refl)) total rest))

-- AN+B WITH SELECTORS

nth_of_next : (total : ℕ) (in_has : Bool) (word : List ℕ) (nth : Nth) (rest : List ℕ) → IsWord word → is_word word (codes "url") ≡ false
    → function_of word ≡ Some (NthClass false nth.from_end) → IsNth nth
    → next_part in_has (tokens_of total (58 ∷ (word ++ 40 ∷ (nth_text nth ++ 32 ∷ 111 ∷ 102 ∷ 32 ∷ rest))))
    ≡ Ok (Argument (NthOf nth) Plain, tokens_of total (32 ∷ rest))
unfolding next_part pseudo function_named nth_class
nth_of_next total in_has word nth rest is url named value =
    let behind : List ℕ = 32 ∷ 111 ∷ 102 ∷ 32 ∷ rest in
    let colon = colon_token total (word ++ 40 ∷ (nth_text nth ++ behind)) in
    let function = function_token total word (nth_text nth ++ behind) is url in
    let n = nth_read total nth behind value (of_token total rest) in
    let space = space_token total (111 ∷ 102 ∷ 32 ∷ rest) refl in
    let of = word_token total (codes "of") (32 ∷ rest) of_word refl in
    rw (colon, function, named, n.spaces, n.read _, space, of) refl

nth_of_fewer : (total : ℕ) (word : List ℕ) (nth : Nth) (rest : List ℕ) → IsWord word → is_word word (codes "url") ≡ false → IsNth nth
    → length (tokens_of total (32 ∷ rest)) < length (tokens_of total (58 ∷ (word ++ 40 ∷ (nth_text nth ++ 32 ∷ 111 ∷ 102 ∷ 32 ∷ rest))))
nth_of_fewer total word nth rest is url value =
    let behind : List ℕ = 32 ∷ 111 ∷ 102 ∷ 32 ∷ rest in
    let n = nth_read total nth behind value (of_token total rest) in
    let space = space_token total (111 ∷ 102 ∷ 32 ∷ rest) refl in
    let of = word_token total (codes "of") (32 ∷ rest) of_word refl in
    omega (arith, argument_fewer total word (nth_text nth ++ behind) is url, n.fewer, ap length space, ap length of)

nth_of_test : (depth : ℕ) (in_has : Bool) (word : List ℕ) (nth : Nth) (list : ListTree) → IsWord word → is_word word (codes "url") ≡ false
    → function_of word ≡ Some (NthClass false nth.from_end) → IsNth nth → ListIs depth in_has Plain false list → (total : ℕ) (rest : List ℕ)
    → IsTested (suc depth) in_has total (NthOf nth) list
    (58 ∷ (word ++ 40 ∷ (nth_text nth ++ 32 ∷ 111 ∷ 102 ∷ 32 ∷ (list_text false list ++ 41 ∷ rest)))) rest
nth_of_test depth in_has word nth list is url named value reads total rest =
    let text : List ℕ = list_text false list in
    let last : List ℕ = text ++ 41 ∷ rest in
    let space = space_token total last (reads.black (41 ∷ rest) refl) in
    let spaced : past_spaces (tokens_of total (32 ∷ last)) ≡ tokens_of total last =
    subst (λ (x : List Token). past_spaces x ≡ tokens_of total last) (sym space) (reads.spaces total (41 ∷ rest) refl) in
    let inside = whole_list depth in_has Plain false list total (41 ∷ rest) (tokens_of total (32 ∷ last)) reads refl
    (no_comma total rest) spaced in
    let r = reads.read total (length (tokens_of total last)) (41 ∷ rest) (tokens_of total last) refl (reads.spaces total
    (41 ∷ rest) refl) (omega arith) in
    record {
      next = λ k so_far. test_step (suc depth) in_has total k so_far (NthOf nth) Plain list _ rest (tokens_of total (32 ∷ last))
          (nth_of_next total in_has word nth last is url named value)
          (subst (λ (x : Bool). list_at (suc depth) x Plain (tokens_of total (32 ∷ last)) ≡ Ok (list, tokens_of total (41 ∷ rest)))
          (sym (or_false in_has)) inside);
      fewer = omega (arith, nth_of_fewer total word nth last is url value, ap length space, r.fewer, ap length (close_token total rest));
    }

-- the text of such a class
nth_middle : (front n text rest : List ℕ) → (front ++ (n ++ 32 ∷ 111 ∷ 102 ∷ 32 ∷ (text ++ 41 ∷ []))) ++ rest
    ≡ front ++ (n ++ 32 ∷ 111 ∷ 102 ∷ 32 ∷ (text ++ 41 ∷ rest))
nth_middle front n text rest =
    append_assoc front (n ++ 32 ∷ 111 ∷ 102 ∷ 32 ∷ (text ++ 41 ∷ [])) rest
    ∙ ap (λ (x : List ℕ). front ++ x) (append_assoc n (32 ∷ 111 ∷ 102 ∷ 32 ∷ (text ++ 41 ∷ [])) rest
    ∙ ap (λ (x : List ℕ). n ++ 32 ∷ 111 ∷ 102 ∷ 32 ∷ x) (append_assoc text (41 ∷ []) rest))

nth_before : (before a b n text : List ℕ) → (((((before ++ a) ++ b) ++ n) ++ codes " of ") ++ text) ++ 41 ∷ []
    ≡ before ++ ((a ++ b) ++ (n ++ 32 ∷ 111 ∷ 102 ∷ 32 ∷ (text ++ 41 ∷ [])))
nth_before before a b n text =
    append_assoc ((((before ++ a) ++ b) ++ n) ++ codes " of ") text (41 ∷ [])
    ∙ (append_assoc (((before ++ a) ++ b) ++ n) (codes " of ") (text ++ 41 ∷ [])
    ∙ (append_assoc ((before ++ a) ++ b) n (codes " of " ++ (text ++ 41 ∷ []))
    ∙ (ap (λ (x : List ℕ). x ++ (n ++ 32 ∷ 111 ∷ 102 ∷ 32 ∷ (text ++ 41 ∷ []))) (append_assoc before a b)
    ∙ append_assoc before (a ++ b) (n ++ 32 ∷ 111 ∷ 102 ∷ 32 ∷ (text ++ 41 ∷ [])))))

nth_of_tests : (depth : ℕ) (in_has : Bool) (f s : ℕ) (d e : Bool) (list : ListTree) (others : TestsTree)
    → IsNth (record { first = f; step = s; descends = d; from_end = e }) → TestsRead (suc depth) in_has others
    → ListIs depth in_has Plain false list
    → TestsRead (suc depth) in_has (NthOfTest (record { first = f; step = s; descends = d; from_end = e }) list others)
nth_of_tests depth in_has f s d false list others value reads inside =
    let nth : Nth = record { first = f; step = s; descends = d; from_end = false } in
    let text : List ℕ = list_text false list in
    add_test (suc depth) in_has (NthOf nth) list others (NthOfTest nth list others)
    (codes ":nth-child(" ++ (nth_text nth ++ 32 ∷ 111 ∷ 102 ∷ 32 ∷ (text ++ 41 ∷ []))) reads
    (nth_before (tests_text false others) (codes ":nth-") (codes "child(") (nth_text nth) text) refl refl (λ rest. refl)
    (λ total rest. subst (λ (x : List ℕ). IsTested (suc depth) in_has total (NthOf nth) list x rest)
    (sym (nth_middle (codes ":nth-child(") (nth_text nth) text rest))
    (nth_of_test depth in_has (codes "nth-child") nth list child_word refl refl value inside total rest))
nth_of_tests depth in_has f s d true list others value reads inside =
    let nth : Nth = record { first = f; step = s; descends = d; from_end = true } in
    let text : List ℕ = list_text false list in
    add_test (suc depth) in_has (NthOf nth) list others (NthOfTest nth list others)
    (codes ":nth-last-child(" ++ (nth_text nth ++ 32 ∷ 111 ∷ 102 ∷ 32 ∷ (text ++ 41 ∷ []))) reads
    (nth_before (tests_text false others) (codes ":nth-last-") (codes "child(") (nth_text nth) text) refl refl (λ rest. refl)
    (λ total rest. subst (λ (x : List ℕ). IsTested (suc depth) in_has total (NthOf nth) list x rest)
    (sym (nth_middle (codes ":nth-last-child(") (nth_text nth) text rest))
    (nth_of_test depth in_has (codes "nth-last-child") nth list last_child_word refl refl value inside total rest))

-- WHICH LISTS ASK `:has()`

asks_no_has : (one : ComplexTree) (depth : ℕ) (in_has : Bool) → IsComplex one depth in_has → asks_has one ≡ false
asks_no_has (AloneTree simples NoTests) depth in_has are = and_right _ false refl
asks_no_has (AloneTree simples (IsTest list others)) depth in_has are = and_right _ false refl
asks_no_has (AloneTree simples (NotTest list others)) depth in_has are = and_right _ false refl
asks_no_has (AloneTree simples (HasTest relative others)) depth in_has are = absurd are.1
asks_no_has (AloneTree simples (NthOfTest nth list others)) depth in_has are = and_right _ false refl
asks_no_has (BesideTree left combinator simples tests) depth in_has are = refl

no_has : (list : ListTree) (depth : ℕ) (in_has : Bool) → IsList list depth in_has → is_has list ≡ false
no_has NoSelectors depth in_has are = refl
no_has (OrSelector one others) depth in_has are = rw (asks_no_has one depth in_has are.0) refl

asks_one : (simples : List Simple) (relative : RelativeTree) (others : TestsTree) → simples ≡ [] → others ≡ NoTests
    → asks_has (AloneTree simples (HasTest relative others)) ≡ true
asks_one simples relative others none last =
    subst (λ (x : List Simple). asks_has (AloneTree x (HasTest relative others)) ≡ true) (sym none)
    (subst (λ (x : TestsTree). asks_has (AloneTree [] (HasTest relative x)) ≡ true) (sym last) refl)

asks_some_has : (one : ComplexTree) (depth : ℕ) → IsHas one depth → asks_has one ≡ true
asks_some_has (AloneTree simples NoTests) depth are = absurd are.1
asks_some_has (AloneTree simples (IsTest list others)) depth are = absurd are.1
asks_some_has (AloneTree simples (NotTest list others)) depth are = absurd are.1
asks_some_has (AloneTree simples (HasTest relative others)) depth are = asks_one simples relative others are.0 are.1.1
asks_some_has (AloneTree simples (NthOfTest nth list others)) depth are = absurd are.1
asks_some_has (BesideTree left combinator simples tests) depth are = absurd are

all_has : (list : ListTree) (depth : ℕ) → IsHasList list depth → all_ask_has list ≡ true
all_has NoSelectors depth are = refl
all_has (OrSelector one others) depth are = rw (asks_some_has one depth are.0, all_has others depth are.1) refl

has_list : (list : ListTree) (depth : ℕ) → is_none list ≡ false → IsHasList list depth → is_has list ≡ true
has_list list depth some are = rw (some, all_has list depth are) refl

-- ALL SELECTORS

add_item : (depth : ℕ) (in_has : Bool) (kind : ListKind) (of_has : Bool) (one : ComplexTree) (others : ListTree)
    → ItemIs depth in_has kind of_has one → (is_none others ≡ false → ListIs depth in_has kind of_has others)
    → ListIs depth in_has kind of_has (OrSelector one others)
add_item depth in_has kind of_has one NoSelectors is before = one_item depth in_has kind of_has one is
add_item depth in_has kind of_has one (OrSelector other others) is before =
    more_items depth in_has kind of_has one other others is (before refl)

forgiving_in : (depth : ℕ) (in_has : Bool) (list : ListTree) → (is_none list ≡ false → ListIs depth in_has Forgiving false list)
    → InParentheses (suc depth) in_has Forgiving list (list_text false list)
forgiving_in depth in_has NoSelectors is = nothing_in depth in_has
forgiving_in depth in_has (OrSelector one others) is = list_in depth in_has Forgiving false (OrSelector one others) (is refl)

deeper : (depth : ℕ) (in_has : Bool) (whole others : TestsTree) → 1 ≤ depth → TestsRead depth in_has others
    → (TestsRead (suc (depth - 1)) in_has others → TestsRead (suc (depth - 1)) in_has whole) → TestsRead depth in_has whole
deeper depth in_has whole others some reads more =
    let is : depth ≡ suc (depth - 1) = omega arith in
    subst (λ (k : ℕ). TestsRead k in_has whole) (sym is) (more (subst (λ (k : ℕ). TestsRead k in_has others) is reads))

-- `:is()` or `:has()`
is_either : (depth : ℕ) (in_has : Bool) (list : ListTree) (others : TestsTree)
    → IsList list depth in_has ⊎ ((in_has ≡ false) × ((is_none list ≡ false) × IsHasList list depth))
    → (IsList list depth in_has → is_none list ≡ false → ListIs depth in_has Forgiving false list)
    → (IsHasList list depth → is_none list ≡ false → ListIs depth true Relative true list)
    → TestsRead (suc depth) in_has others → TestsRead (suc depth) in_has (IsTest list others)
is_either depth in_has list others (inl those) plain has reads =
    is_tests depth in_has list others (no_has list depth in_has those) reads (forgiving_in depth in_has list (plain those))
is_either depth in_has list others (inr those) plain has reads =
    subst (λ (x : Bool). TestsRead (suc depth) x (IsTest list others)) (sym those.0)
    (has_tests depth list others (has_list list depth those.1.0 those.1.1)
    (subst (λ (x : Bool). TestsRead (suc depth) x others) those.0 reads)
    (list_in depth true Relative true list (has those.1.1 those.1.0)))

mutual
  pub lists : (list : ListTree) (depth : ℕ) (in_has : Bool) (kind : ListKind) → is_relative kind ≡ false → IsList list depth in_has
      → is_none list ≡ false → ListIs depth in_has kind false list
  lists NoSelectors depth in_has kind plain are some = absurd (true≢false some)
  lists (OrSelector one others) depth in_has kind plain are some = add_item depth in_has kind false one others
      (complex_item depth in_has kind one plain (complexes one depth in_has are.0)) (lists others depth in_has kind plain are.1)

  complexes : (one : ComplexTree) (depth : ℕ) (in_has : Bool) → IsComplex one depth in_has → ComplexIs depth in_has one
  complexes (AloneTree simples tests) depth in_has are = alone_complex depth in_has simples tests are.0 (tests_of tests depth in_has are.1)
  complexes (BesideTree left combinator simples tests) depth in_has are = beside_complex depth in_has left combinator simples tests
      (complexes left depth in_has are.0) are.1.0 (tests_of tests depth in_has are.1.1)

  has_lists : (list : ListTree) (depth : ℕ) → IsHasList list depth → is_none list ≡ false → ListIs depth true Relative true list
  has_lists NoSelectors depth are some = absurd (true≢false some)
  has_lists (OrSelector one others) depth are some =
      add_item depth true Relative true one others (has_items one depth are.0) (has_lists others depth are.1)

  has_items : (one : ComplexTree) (depth : ℕ) → IsHas one depth → ItemIs depth true Relative true one
  has_items (AloneTree simples tests) depth are = subst (λ (x : List Simple). ItemIs depth true Relative true (AloneTree x tests))
      (sym are.0)
      (has_alones tests depth are.1)
  has_items (BesideTree left combinator simples tests) depth are = absurd are

  has_alones : (tests : TestsTree) (depth : ℕ) → IsHasAlone tests depth → ItemIs depth true Relative true (AloneTree [] tests)
  has_alones NoTests depth are = absurd are
  has_alones (IsTest list others) depth are = absurd are
  has_alones (NotTest list others) depth are = absurd are
  has_alones (HasTest relative others) depth are =
      subst (λ (x : TestsTree). ItemIs depth true Relative true (AloneTree [] (HasTest relative x))) (sym are.1)
      (has_item depth relative (relatives relative depth are.0))
  has_alones (NthOfTest nth list others) depth are = absurd are

  relatives : (one : RelativeTree) (depth : ℕ) → IsRelative one depth → RelativeIs depth one
  relatives (ToTree combinator simples tests) depth are =
      to_relative depth combinator simples tests are.0 (tests_of tests depth true are.1)
  relatives (ThenTree combinator simples tests rest) depth are =
      then_relative depth combinator simples tests rest are.0.0 (tests_of tests depth true are.0.1) (relatives rest depth are.1)

  tests_of : (tests : TestsTree) (depth : ℕ) (in_has : Bool) → IsTests tests depth in_has → TestsRead depth in_has tests
  tests_of NoTests depth in_has are = no_tests depth in_has
  tests_of (IsTest list others) depth in_has are = deeper depth in_has (IsTest list others) others are.0
      (tests_of others depth in_has are.1.1)
      (is_either (depth - 1) in_has list others are.1.0 (λ those. lists list (depth - 1) in_has Forgiving refl those)
      (λ those. has_lists list (depth - 1) those))
  tests_of (NotTest list others) depth in_has are =
      deeper depth in_has (NotTest list others) others are.0 (tests_of others depth in_has are.1.1.1)
      (λ reads. not_tests (depth - 1) in_has list others reads
      (list_in (depth - 1) in_has Plain false list (lists list (depth - 1) in_has Plain refl are.1.1.0 are.1.0)))
  tests_of (HasTest relative others) depth in_has are = absurd are
  tests_of (NthOfTest nth list others) depth in_has are =
      deeper depth in_has (NthOfTest nth list others) others are.0 (tests_of others depth in_has are.1.1.1.1)
      (λ reads. nth_of_tests (depth - 1) in_has nth.first nth.step nth.descends nth.from_end list others are.1.0 reads
      (lists list (depth - 1) in_has Plain refl are.1.1.1.0 are.1.1.0))
