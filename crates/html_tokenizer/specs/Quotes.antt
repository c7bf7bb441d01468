-- The quotes of attributes' values.
use Rattle.std.specs.Prelude.{ℕ, Option, Some, None}
use Rattle.html_tokens.specs.declared.states.AttrValueKind.{AttrValueKind}
use Rattle.html_tokens.specs.declared.states.AttrValueKind.TheVariants.{Unquoted, SingleQuoted, DoubleQuoted}

-- the character in which a value is written
abbrev pub quote_of : AttrValueKind → Option ℕ
quote_of Unquoted = None
quote_of SingleQuoted = Some 39
quote_of DoubleQuoted = Some 34
