-- Which elements a selector selects (Selectors Level 4); `scope` is the element that `:scope` is.
use Rattle.std.specs.Prelude.{ℕ, ◌&&◌, ◌||◌, Bool, true, false, cond, find, not, unwrap_or, List}
use Rattle.std.specs.List.{list_all, list_any}
use Rattle.markup.specs.Forest.{Forest, children_of, parent_of}
use Rattle.html_nodes.specs.Below.{below}
use Rattle.html_selector_matching.specs.Around.{above, element_after, element_before, is_element, nodes_after, nodes_before, one_of}
use Rattle.html_selector_matching.specs.Simples.{is_nth, is_simple, place_of}
use Rattle.selectors.specs.declared.selector.Combinator.{Combinator}
use Rattle.selectors.specs.declared.selector.Combinator.TheVariants.{Descendant, Child, NextSibling, SubsequentSibling}
use Rattle.selectors.specs.declared.selector.Complex.{Complex, Alone', Beside'}
use Rattle.selectors.specs.declared.selector.Compound.{Compound}
use Rattle.selectors.specs.declared.selector.Nth.{Nth}
use Rattle.selectors.specs.declared.selector.Relative.{Relative, To', Then'}
use Rattle.selectors.specs.declared.selector.Simple.{Simple}
use Rattle.selectors.specs.declared.selector.Selectors as selectors
use Rattle.selectors.specs.declared.selector.Selectors.{Selectors, Or'}
use Rattle.selectors.specs.declared.selector.Tests as tests
use Rattle.selectors.specs.declared.selector.Tests.{Tests, Is', Not', Has', NthOf'}

-- the nodes that stand to a node as the left side of a combinator to its right side
abbrev pub left_of : Combinator → Forest → ℕ → List ℕ
left_of Descendant f n = above f n
left_of Child f n = one_of (parent_of f n)
left_of NextSibling f n = one_of (element_before f n)
left_of SubsequentSibling f n = nodes_before f n

-- the nodes that stand to a node as the right side of a combinator to its left side
abbrev pub right_of : Combinator → Forest → ℕ → List ℕ
right_of Descendant f n = below f n
right_of Child f n = children_of f n
right_of NextSibling f n = one_of (element_after f n)
right_of SubsequentSibling f n = nodes_after f n

-- each selector selects elements only
abbrev pub is_plain : List Simple → Forest → ℕ → ℕ → Bool
is_plain simples f scope n = is_element f n && list_all (is_simple f scope n) simples

-- a node passes a test, and has the wanted place among those under its parent that do
unfoldable pub is_nth_of : (ℕ → Bool) → Nth → Forest → ℕ → Bool
is_nth_of test nth f n = test n && is_nth nth (place_of test nth.from_end f n)

abbrev mutual
  -- one of the selectors selects the element
  pub is_any : Selectors → Forest → ℕ → ℕ → Bool
  is_any selectors.Nothing f scope n = false
  is_any (Or' p one q others) f scope n = is_complex one f scope n || is_any others f scope n

  -- the last compound selector selects it, and what is on its left selects an element that stands so to it
  pub is_complex : Complex → Forest → ℕ → ℕ → Bool
  is_complex (Alone' simples tests) f scope n = is_plain simples.items f scope n && passes tests f scope n
  is_complex (Beside' p left combinator simples tests) f scope n =
      (is_plain simples.items f scope n && passes tests f scope n)
      && list_any (λ m. is_complex left f scope m) (left_of combinator f n)

  -- all tests hold
  pub passes : Tests → Forest → ℕ → ℕ → Bool
  passes tests.Nothing f scope n = true
  passes (Is' p those q others) f scope n = is_any those f scope n && passes others f scope n
  passes (Not' p those q others) f scope n = not (is_any those f scope n) && passes others f scope n
  passes (Has' p relative q others) f scope n = has relative f scope n && passes others f scope n
  passes (NthOf' nth p those q others) f scope n = is_nth_of (λ m. is_any those f scope m) nth f n && passes others f scope n

  -- an element that stands so to this one is selected, and so on from that one
  pub has : Relative → Forest → ℕ → ℕ → Bool
  has (To' combinator simples tests) f scope n =
      list_any (λ m. is_plain simples.items f scope m && passes tests f scope m) (right_of combinator f n)
  has (Then' combinator simples tests p rest) f scope n =
      list_any (λ m. (is_plain simples.items f scope m && passes tests f scope m) && has rest f scope m) (right_of combinator f n)

abbrev pub is_compound : Compound → Forest → ℕ → ℕ → Bool
is_compound compound f scope n = is_plain compound.simples.items f scope n && passes compound.tests f scope n

-- an element is as the first compound selector of a relative one asks, and has what follows
abbrev pub goes_on : Relative → Forest → ℕ → ℕ → Bool
goes_on (To' combinator simples tests) f scope m = is_plain simples.items f scope m && passes tests f scope m
goes_on (Then' combinator simples tests p rest) f scope m =
    (is_plain simples.items f scope m && passes tests f scope m) && has rest f scope m

-- `:scope` in a search below a node: that node, or where it is no element the first element right in it (section 8.3)
abbrev pub scope_of : Forest → ℕ → ℕ
scope_of f top = cond (is_element f top) top (unwrap_or (find (is_element f) (children_of f top)) top)
