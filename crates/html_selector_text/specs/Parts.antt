-- The parts of a selector, as its tokens show them: each type selector or `*`, id, class, attribute selector and pseudo-class is one.
use Rattle.std.specs.Prelude.{ℕ, Bool, true, false, cond, not, ◌&&◌, ◌||◌, ◌==◌, ◌-◌, Option, Some, None, List, [], ◌∷◌}
use Rattle.html_selector_text.specs.declared.parts.Zone.{Zone}
use Rattle.html_selector_text.specs.declared.parts.Zone.TheVariants.{Compounds, Brackets, Nth}
use Rattle.html_selector_text.specs.declared.simples.FunctionName.{FunctionName}
use Rattle.html_selector_text.specs.declared.simples.FunctionName.TheVariants.{NthClass}
use Rattle.html_selector_text.specs.declared.tokens.Token.{Token}
use Rattle.html_selector_text.specs.declared.tokens.TokenKind.{TokenKind}
use Rattle.html_selector_text.specs.declared.tokens.TokenKind.TheVariants.{Ident, Function, Hash, Delim}
use Rattle.html_selector_text.specs.Reading.{ident_of, is_delim}
use Rattle.html_selector_text.specs.Simples.{function_of, is_of}

abbrev pub is_nth_class : Option FunctionName → Bool
is_nth_class (Some (NthClass of_type from_end)) = true
is_nth_class _ = false

-- a function with An+B in its parentheses
abbrev pub opens_nth_kind : TokenKind → Bool
opens_nth_kind (Function name) = is_nth_class (function_of name)
opens_nth_kind _ = false

abbrev pub opens_nth : List Token → Bool
opens_nth [] = false
opens_nth (t ∷ ts) = opens_nth_kind t.kind

-- behind the first of these tokens: in compound selectors, in the brackets of an attribute selector, or in An+B
abbrev pub zone_after : Zone → List Token → Zone
zone_after Compounds tokens = cond (is_delim 91 tokens) Brackets (cond (opens_nth tokens) Nth Compounds)
zone_after Brackets tokens = cond (is_delim 93 tokens) Compounds Brackets
zone_after Nth tokens = cond (is_delim 41 tokens || is_of (ident_of tokens)) Compounds Nth

-- a name or `*` before a bar is the namespace of a part
abbrev pub begins_part : TokenKind → List Token → Bool
begins_part (Ident name) rest = not (is_delim 124 rest)
begins_part (Function name) rest = true
begins_part (Hash name is_id) rest = true
begins_part (Delim c) rest = (c == 91) || ((c == 42) && not (is_delim 124 rest))
begins_part _ rest = false

abbrev pub is_part : Zone → TokenKind → List Token → Bool
is_part Compounds kind rest = begins_part kind rest
is_part _ kind rest = false

-- tokens from the part on that has so many parts before it
abbrev pub from_part : ℕ → Zone → List Token → List Token
from_part n zone [] = []
from_part n zone (t ∷ ts) =
    cond (is_part zone t.kind ts) (cond (n == 0) (t ∷ ts) (from_part (n - 1) (zone_after zone (t ∷ ts)) ts))
    (from_part n (zone_after zone (t ∷ ts)) ts)

-- what is too much: all from the 4,097th part on
unfoldable pub beyond_limit : List Token → List Token
beyond_limit tokens = from_part 4096 Compounds tokens
