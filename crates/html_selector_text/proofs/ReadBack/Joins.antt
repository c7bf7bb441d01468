-- Compound selectors, complex selectors and lists, from their parts.
use Rattle.std.proofs.Common.{◌≡◌, ◌∙◌, ℕ, suc, ◌+◌, ◌<◌, ◌≤◌, Bool, true, false, ◌&&◌, Ok}
use Rattle.std.proofs.Common.{List, [], ◌∷◌, ◌++◌, length, refl, sym, ap, subst, arith, append_assoc, inl, inr}
use Rattle.std.specs.Prelude.{◌==◌, ◌⊎◌, nat_lt}
use Rattle.std.proofs.lemmas.Bool.{cases_Bool, and_parts, eqb-true, lt-ltb, true≢false, false≢true}
use Rattle.selectors.specs.declared.selector.Simple.{Simple}
use Rattle.html_selector_text.specs.Simples.{prefix, type_selector}
use Rattle.html_selector_text.specs.Grammar.{Inner, no_parts, parts, compound}
use Rattle.html_selector_text.specs.Grammar.{list_at}
use Rattle.html_selector_text.specs.Trees.{CompoundTree}
use Rattle.html_selector_text.specs.Trees.{TestsTree, NoTests, IsTest, NotTest, HasTest, NthOfTest}
use Rattle.html_selector_text.specs.Written.{simples_text, has_no_tests, compound_text, tests_text}
use Rattle.html_selector_text.specs.Readable.{AreSimples}
use Rattle.html_selector_text.proofs.ReadBack.Lexing.{tokens_of}
use Rattle.html_selector_text.proofs.ReadBack.Parts.{follows, star_token}
use Rattle.html_selector_text.proofs.ReadBack.Compounds.{Reaches, typed, parts_more, no_bar}
use Rattle.html_selector_text.proofs.ReadBack.Ends.{stops, stops_follow, parts_end}

-- how lists in parentheses are read
abbrev pub at_depth : ℕ → Inner
at_depth depth = λ in_has kind tokens. list_at depth in_has kind tokens

-- COMPOUND SELECTORS

abbrev pub count_tests : TestsTree → ℕ
count_tests NoTests = 0
count_tests (IsTest list others) = suc (count_tests others)
count_tests (NotTest list others) = suc (count_tests others)
count_tests (HasTest relative others) = suc (count_tests others)
count_tests (NthOfTest nth list others) = suc (count_tests others)

abbrev pub of_both : List Simple → TestsTree → CompoundTree
of_both simples tests = record { simples = simples; tests = tests }

-- tests that are written are read behind simple selectors
pub record TestsRead (depth : ℕ) (in_has : Bool) (tests : TestsTree) : Type 0 where
  pub follow : (rest : List ℕ) → follows rest ≡ true → follows (tests_text false tests ++ rest) ≡ true
  pub read : (simples : List Simple) (total n : ℕ) (rest : List ℕ) → follows rest ≡ true
      → length (tokens_of total (tests_text false tests ++ rest)) ≤ n
      → Reaches (parts (at_depth depth) in_has n (no_parts simples) (tokens_of total (tests_text false tests ++ rest)))
      (λ m. parts (at_depth depth) in_has m (of_both simples tests) (tokens_of total rest))
      (count_tests tests) (length (tokens_of total rest)) (length (tokens_of total (tests_text false tests ++ rest)))

pub no_tests : (depth : ℕ) (in_has : Bool) → TestsRead depth in_has NoTests
no_tests depth in_has = record {
  follow = λ rest h. h;
  read = λ simples total n rest h long. record { fuel = n; enough = long; is = refl; fewer = omega arith };
}

-- a compound selector is read of a text
pub record IsCompound (inner : Inner) (in_has : Bool) (total : ℕ) (simples : List Simple) (tests : TestsTree)
    (chars rest : List ℕ) : Type 0 where
  pub read : compound inner in_has (tokens_of total chars) ≡ Ok (of_both simples tests, tokens_of total rest)
  pub fewer : length (tokens_of total rest) < length (tokens_of total chars)

-- `*`
star_compound : (inner : Inner) (in_has : Bool) (total : ℕ) (rest : List ℕ) → stops rest ≡ true
    → IsCompound inner in_has total [] NoTests (42 ∷ rest) rest
unfolding compound type_selector prefix
star_compound inner in_has total rest stop =
    let star = star_token total rest in
    let bar = no_bar total rest (stops_follow rest stop) in
    let p = parts_end inner in_has (suc (length (tokens_of total rest))) total (no_parts []) rest stop in
    let less : nat_lt (length (tokens_of total rest)) (suc (length (tokens_of total rest))) ≡ true = lt-ltb _ _ (omega arith) in
    record { read = rw (star, bar, p, less) refl; fewer = rw star (omega arith) }

nothing_asked : (simples : List Simple) (tests : TestsTree) → (length simples == 0) && has_no_tests tests ≡ true
    → (simples ≡ []) × (tests ≡ NoTests)
nothing_asked [] NoTests h = (refl, refl)
nothing_asked [] (IsTest list others) h = absurd (false≢true h)
nothing_asked [] (NotTest list others) h = absurd (false≢true h)
nothing_asked [] (HasTest relative others) h = absurd (false≢true h)
nothing_asked [] (NthOfTest nth list others) h = absurd (false≢true h)
nothing_asked (s ∷ simples) tests h =
    absurd (let e : length (s ∷ simples) ≡ 0 = eqb-true _ _ (and_parts _ _ h).0 in omega (arith, e))

something_asked : (simples : List Simple) (tests : TestsTree) → (length simples == 0) && has_no_tests tests ≡ false
    → 1 ≤ length simples + count_tests tests
something_asked [] NoTests h = absurd (true≢false h)
something_asked [] (IsTest list others) h = omega arith
something_asked [] (NotTest list others) h = omega arith
something_asked [] (HasTest relative others) h = omega arith
something_asked [] (NthOfTest nth list others) h = omega arith
something_asked (s ∷ simples) tests h = omega arith

-- what was taken
taken : (types behind simples : List Simple) (count whole middle last : ℕ) → types ++ behind ≡ simples
    → (types ≡ []) ⊎ (middle < whole) → middle ≤ whole → length behind + last ≤ middle
    → 1 ≤ length simples + count → count ≤ last → last < whole + count
taken types behind simples count whole middle last all (inl none) less parts some few =
    let same : behind ≡ simples = subst (λ (x : List Simple). x ++ behind ≡ simples) none all in
    omega (arith, ap length same)
taken types behind simples count whole middle last all (inr strict) less parts some few = omega arith

all_parts : (depth : ℕ) (in_has : Bool) (total : ℕ) (simples : List Simple) (tests : TestsTree) (rest : List ℕ) → AreSimples simples
    → TestsRead depth in_has tests → stops rest ≡ true → (length simples == 0) && has_no_tests tests ≡ false
    → IsCompound (at_depth depth) in_has total simples tests (simples_text simples ++ (tests_text false tests ++ rest)) rest
unfolding compound
all_parts depth in_has total simples tests rest are reads stop some =
    let behind = tests_text false tests ++ rest in
    let after = stops_follow rest stop in
    let whole = simples_text simples ++ behind in
    let t = typed total simples behind are (reads.follow rest after) in
    let p = parts_more (at_depth depth) in_has total (length (tokens_of total whole)) t.types t.behind behind t.are_parts
    (reads.follow rest after) t.fewer in
    let q = reads.read simples total p.fuel rest after p.enough in
    let last = parts_end (at_depth depth) in_has q.fuel total (of_both simples tests) rest stop in
    let all : parts (at_depth depth) in_has (length (tokens_of total whole)) (no_parts t.types)
    (tokens_of total (simples_text t.behind ++ behind)) ≡ Ok (of_both simples tests, tokens_of total rest) =
    p.is ∙ (ap (λ (x : List Simple). parts (at_depth depth) in_has p.fuel (no_parts x) (tokens_of total behind)) t.all ∙ (q.is ∙ last)) in
    let least : length (tokens_of total rest) < length (tokens_of total whole) =
    omega (
      arith,
      taken t.types t.behind simples (count_tests tests) (length (tokens_of total whole))
          (length (tokens_of total (simples_text t.behind ++ behind))) (length (tokens_of total behind)) t.all t.takes t.fewer p.fewer
          (something_asked simples tests some) (omega (arith, q.fewer)),
      q.fewer,
    ) in
    record { read = rw (t.read, all, lt-ltb _ _ least) refl; fewer = least }

pub compound_read : (depth : ℕ) (in_has : Bool) (total : ℕ) (simples : List Simple) (tests : TestsTree) (rest : List ℕ) → AreSimples simples
    → TestsRead depth in_has tests → stops rest ≡ true
    → IsCompound (at_depth depth) in_has total simples tests (compound_text simples tests (tests_text false tests) ++ rest) rest
compound_read depth in_has total simples tests rest are reads stop = elim (cases_Bool ((length simples == 0) && has_no_tests tests)) [
  | inl is ↦
      let none = nothing_asked simples tests is in
      rw is (subst (λ (x : List Simple). IsCompound (at_depth depth) in_has total x tests (42 ∷ rest) rest) (sym none.0)
      (subst (λ (x : TestsTree). IsCompound (at_depth depth) in_has total [] x (42 ∷ rest) rest) (sym none.1)
      (star_compound (at_depth depth) in_has total rest stop)))
  | inr some ↦ rw some (subst (λ (x : List ℕ). IsCompound (at_depth depth) in_has total simples tests x rest)
      (sym (append_assoc (simples_text simples) (tests_text false tests) rest))
      (all_parts depth in_has total simples tests rest are reads stop some))
]
