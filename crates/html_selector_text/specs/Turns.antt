-- A turn of the loop over the parts of a compound selector, as the definitions see it.
use Rattle.std.specs.Prelude.{Bool, List}
use Rattle.std.specs.Borrow.{Bor}
use Rattle.selectors.specs.declared.selector.Compound.{Compound}
use Rattle.html_selector_text.specs.declared.tokens.Token.{Token}
use Rattle.html_selector_text.specs.Grammar.{Turn}
use Rattle.html_selector_text.specs.Trees.{compound_tree}

abbrev pub turn_seen : Bool × Compound × Bor (List Token) → Turn
turn_seen x = record { goes_on = x.0; compound = compound_tree x.1; rest = x.2.now }
