-- What a relative selector begins with.
use Rattle.selectors.specs.declared.selector.Combinator.{Combinator}
use Rattle.selectors.specs.declared.selector.Relative.{Relative, To', Then'}

abbrev pub first_of : Relative → Combinator
first_of (To' combinator simples tests) = combinator
first_of (Then' combinator simples tests p rest) = combinator
