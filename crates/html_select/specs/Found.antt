-- What a text of selectors selects.
use Rattle.std.specs.Prelude.{◌≡◌, ℕ, List, Ok, filter}
use Rattle.markup.specs.Forest.{Forest}
use Rattle.html_nodes.specs.Below.{below}
use Rattle.html_selector_matching.specs.Selects.{is_any, scope_of}
use Rattle.html_selector_text.specs.Grammar.{parsed}
use Rattle.html_selector_text.specs.Trees.{list_tree}
use Rattle.selectors.specs.declared.selector.Selectors.{Selectors}

-- the text is selectors, and these are the nodes below `top` that they select
pub record IsFound (text : List ℕ) (f : Forest) (top : ℕ) (found : List ℕ) : Type 0 where
  pub selectors : Selectors
  pub text_is : parsed text ≡ Ok (list_tree selectors)
  pub selected : found ≡ filter (is_any selectors f (scope_of f top)) (below f top)
