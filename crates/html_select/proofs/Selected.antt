-- What selectors select is seen in their tree, so the rows are computed from the trees that their texts give.
use Rattle.std.proofs.Common.{◌≡◌, ◌∙◌, ℕ, Bool, true, false, cond, Result, Ok, Err, Option, Some, None}
use Rattle.std.proofs.Common.{List, [], ◌∷◌, length, refl, ap, sym, inl, inr}
use Rattle.std.specs.Prelude.{◌&&◌, ◌||◌, codes, filter, is_ok, map, nat_lt, not}
use Rattle.std.proofs.lemmas.Bool.{cases_Bool, ltb-false}
use Rattle.std.specs.List.{list_any}
use Rattle.markup.specs.Forest.{Forest}
use Rattle.html_nodes.specs.Below.{below}
use Rattle.html_selector_matching.specs.Selects.{has, is_any, is_complex, is_nth_of, is_plain, left_of, passes, right_of, scope_of}
use Rattle.html_selector_matching.specs.Simples.{is_nth, nodes_beside, place_of}
use Rattle.html_selector_text.specs.Characters.{preprocessed}
use Rattle.html_selector_text.specs.Scanning.{tokens}
use Rattle.html_selector_text.specs.Grammar.{selector_list, short, limited, placed_in, parsed}
use Rattle.html_selector_text.specs.Results.{Wrong, ◌>>=◌}
use Rattle.html_selector_text.specs.Written.{written}
use Rattle.html_selector_text.proofs.ReadBack.Lexing.{short_text}
use Rattle.html_selector_text.specs.Trees.{ListTree, NoSelectors, OrSelector, ComplexTree, AloneTree, BesideTree, RelativeTree}
use Rattle.html_selector_text.specs.Trees.{ToTree, ThenTree, TestsTree, NoTests, IsTest, NotTest, HasTest, NthOfTest}
use Rattle.html_selector_text.specs.Trees.{complex_tree, list_tree, relative_tree, tests_tree}
use Rattle.html_select.specs.Rows.{AreSelected, IsSelected, Row, page}
use Rattle.selectors.specs.declared.selector.Complex.{Complex, Alone', Beside'}
use Rattle.selectors.specs.declared.selector.Nth.{Nth}
use Rattle.selectors.specs.declared.selector.Relative.{Relative, To', Then'}
use Rattle.selectors.specs.declared.selector.Selectors as selectors
use Rattle.selectors.specs.declared.selector.Selectors.{Selectors, Or'}
use Rattle.selectors.specs.declared.selector.Tests as tests
use Rattle.selectors.specs.declared.selector.Tests.{Tests, Is', Not', Has', NthOf'}

-- BY TREES

abbrev mutual
  any_by : ListTree → Forest → ℕ → ℕ → Bool
  any_by NoSelectors f scope n = false
  any_by (OrSelector one others) f scope n = complex_by one f scope n || any_by others f scope n

  complex_by : ComplexTree → Forest → ℕ → ℕ → Bool
  complex_by (AloneTree simples tests) f scope n = is_plain simples f scope n && passes_by tests f scope n
  complex_by (BesideTree left combinator simples tests) f scope n =
      (is_plain simples f scope n && passes_by tests f scope n)
      && list_any (λ m. complex_by left f scope m) (left_of combinator f n)

  passes_by : TestsTree → Forest → ℕ → ℕ → Bool
  passes_by NoTests f scope n = true
  passes_by (IsTest those others) f scope n = any_by those f scope n && passes_by others f scope n
  passes_by (NotTest those others) f scope n = not (any_by those f scope n) && passes_by others f scope n
  passes_by (HasTest relative others) f scope n = has_by relative f scope n && passes_by others f scope n
  passes_by (NthOfTest nth those others) f scope n = is_nth_of (λ m. any_by those f scope m) nth f n && passes_by others f scope n

  has_by : RelativeTree → Forest → ℕ → ℕ → Bool
  has_by (ToTree combinator simples tests) f scope n =
      list_any (λ m. is_plain simples f scope m && passes_by tests f scope m) (right_of combinator f n)
  has_by (ThenTree combinator simples tests rest) f scope n =
      list_any (λ m. (is_plain simples f scope m && passes_by tests f scope m) && has_by rest f scope m) (right_of combinator f n)

any-same : (p q : ℕ → Bool) → ((n : ℕ) → p n ≡ q n) → (ns : List ℕ) → list_any p ns ≡ list_any q ns
any-same p q same [] = refl
any-same p q same (n ∷ ns) = rw (same n, any-same p q same ns) refl

filter-same : (p q : ℕ → Bool) → ((n : ℕ) → p n ≡ q n) → (ns : List ℕ) → filter p ns ≡ filter q ns
filter-same p q same [] = refl
filter-same p q same (n ∷ ns) = rw (same n, filter-same p q same ns) refl

nth-same : (p q : ℕ → Bool) → ((n : ℕ) → p n ≡ q n) → (nth : Nth) (f : Forest) (n : ℕ) → is_nth_of p nth f n ≡ is_nth_of q nth f n
unfolding is_nth_of
nth-same p q same nth f n = rw (same n, filter-same p q same (nodes_beside nth.from_end f n)) refl

both : {a b c d : Bool} → a ≡ b → c ≡ d → (a && c) ≡ (b && d)
both h k = cc

mutual
  any-by : (s : Selectors) (f : Forest) (scope n : ℕ) → is_any s f scope n ≡ any_by (list_tree s) f scope n
  any-by selectors.Nothing f scope n = refl
  any-by (Or' p one q others) f scope n = rw (complex-by one f scope n, any-by others f scope n) refl

  complex-by : (c : Complex) (f : Forest) (scope n : ℕ) → is_complex c f scope n ≡ complex_by (complex_tree c) f scope n
  complex-by (Alone' simples tests) f scope n = ap (λ b. is_plain simples.items f scope n && b) (passes-by tests f scope n)
  complex-by (Beside' p left combinator simples tests) f scope n =
      both (ap (λ b. is_plain simples.items f scope n && b) (passes-by tests f scope n))
      (any-same (λ m. is_complex left f scope m) (λ m. complex_by (complex_tree left) f scope m)
      (λ m. complex-by left f scope m) (left_of combinator f n))

  passes-by : (t : Tests) (f : Forest) (scope n : ℕ) → passes t f scope n ≡ passes_by (tests_tree t) f scope n
  passes-by tests.Nothing f scope n = refl
  passes-by (Is' p those q others) f scope n = both (any-by those f scope n) (passes-by others f scope n)
  passes-by (Not' p those q others) f scope n = both (ap not (any-by those f scope n)) (passes-by others f scope n)
  passes-by (Has' p relative q others) f scope n = both (has-by relative f scope n) (passes-by others f scope n)
  passes-by (NthOf' nth p those q others) f scope n =
      both (nth-same (λ m. is_any those f scope m) (λ m. any_by (list_tree those) f scope m) (λ m. any-by those f scope m) nth f n)
      (passes-by others f scope n)

  has-by : (r : Relative) (f : Forest) (scope n : ℕ) → has r f scope n ≡ has_by (relative_tree r) f scope n
  has-by (To' combinator simples tests) f scope n =
      any-same (λ m. is_plain simples.items f scope m && passes tests f scope m)
      (λ m. is_plain simples.items f scope m && passes_by (tests_tree tests) f scope m)
      (λ m. ap (λ b. is_plain simples.items f scope m && b) (passes-by tests f scope m)) (right_of combinator f n)
  has-by (Then' combinator simples tests p rest) f scope n =
      any-same (λ m. (is_plain simples.items f scope m && passes tests f scope m) && has rest f scope m)
      (λ m. (is_plain simples.items f scope m && passes_by (tests_tree tests) f scope m) && has_by (relative_tree rest) f scope m)
      (λ m. both (ap (λ b. is_plain simples.items f scope m && b) (passes-by tests f scope m)) (has-by rest f scope m))
      (right_of combinator f n)

-- ROWS

-- what a tree selects in the page, if a text gives one
abbrev pub selected_by : Result ListTree Wrong → Option (List ℕ)
selected_by (Ok tree) = Some (filter (any_by tree page (scope_of page 0)) (below page 0))
selected_by (Err wrong) = None

selectors-by : (r : Result ListTree Wrong) (found : List ℕ) → selected_by r ≡ Some found → is_ok r ≡ true
selectors-by (Ok tree) found h = refl
selectors-by (Err wrong) found h = absurd (cc)

some-same : {xs ys : List ℕ} → Some xs ≡ Some ys → xs ≡ ys
some-same h = cc

row : (text found : List ℕ) → selected_by (parsed text) ≡ Some found → IsSelected text found
row text found h = record {
  is_selectors = selectors-by (parsed text) found h;
  selected = λ s e. filter-same (is_any s page (scope_of page 0)) (any_by (list_tree s) page (scope_of page 0))
      (λ n. any-by s page (scope_of page 0) n) (below page 0) ∙ some-same (sym (ap selected_by e) ∙ h);
}

-- the same where the text that is written of the selectors is short, so that its parts need not be counted
abbrev pub short_selected : Result ListTree Wrong → Option (List ℕ)
short_selected (Ok tree) = cond (nat_lt 4095 (length (written tree))) None (selected_by (Ok tree))
short_selected (Err wrong) = None

abbrev pub checked : List ℕ → Option (List ℕ)
checked text = cond (nat_lt 4095 (length (preprocessed text))) None (short_selected (selector_list (tokens (preprocessed text))))

none_some : {xs : List ℕ} → None ≡ Some xs → ⊥
none_some h = cc

short_is : (text : List ℕ) (r : Result ListTree Wrong) (found : List ℕ) → short_selected r ≡ Some found
    → selected_by (placed_in text (r >>= short)) ≡ Some found
short_is text (Ok tree) found h = elim (cases_Bool (nat_lt 4095 (length (written tree)))) [
  | inl is ↦ absurd (none_some (rw is at h))
  | inr is ↦ rw (short_text (written tree) (ltb-false 4095 (length (written tree)) is)) (rw is at h)
]
short_is text (Err wrong) found h = absurd (none_some h)

checked_is : (text found : List ℕ) → checked text ≡ Some found → selected_by (parsed text) ≡ Some found
unfolding parsed limited
checked_is text found h = elim (cases_Bool (nat_lt 4095 (length (preprocessed text)))) [
  | inl is ↦ absurd (none_some (rw is at h))
  | inr is ↦ rw (short_text (preprocessed text) (ltb-false 4095 (length (preprocessed text)) is))
      (short_is text (selector_list (tokens (preprocessed text))) found (rw is at h))
]

heads : {a b : Option (List ℕ)} {xs ys : List (Option (List ℕ))} → a ∷ xs ≡ b ∷ ys → a ≡ b
heads h = cc

tails : {a b : Option (List ℕ)} {xs ys : List (Option (List ℕ))} → a ∷ xs ≡ b ∷ ys → xs ≡ ys
tails h = cc

pub rows-by : (rows : List Row) → map (λ row. checked (codes row.0)) rows ≡ map (λ row. Some row.1) rows → AreSelected rows
rows-by [] h = tt
rows-by (one ∷ rows) h = (row (codes one.0) one.1 (checked_is (codes one.0) one.1 (heads h)), rows-by rows (tails h))
