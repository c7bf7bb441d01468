-- How many turns a token takes.
use Rattle.std.specs.Prelude.{ℕ, ◌+◌, ◌*◌, List, length}
use Rattle.html_tokens.specs.declared.token.Token.{Token}
use Rattle.html_tokens.specs.declared.token.Token.TheVariants.{CharacterTokens}
use Rattle.html_rules_laws.specs.Coming.{came_of}
use Rattle.html_rules.specs.State.{Open, State}

-- the turns of a token that is no text, as the rules take them; those of texts are not counted
abbrev pub turns_of : Token → State → ℕ
turns_of (CharacterTokens text) s = 0
turns_of t s = (came_of t s).turns

-- sixteen, and four for each of these elements
abbrev pub most_turns : List Open → ℕ
most_turns open_elems = 16 + 4 * length open_elems
