-- What is left of the tokens of a text.
use Rattle.std.specs.Prelude.{ℕ, Bool, true, false, cond, ◌||◌, ◌==◌, Option, Some, None, List}
use Rattle.std.specs.Prelude.{[], ◌∷◌, drop}
use Rattle.html_selector_text.specs.declared.fault.SyntaxFault.{SyntaxFault}
use Rattle.html_selector_text.specs.declared.tokens.Token.{Token}
use Rattle.html_selector_text.specs.declared.tokens.TokenKind.{TokenKind}
use Rattle.html_selector_text.specs.declared.tokens.TokenKind.TheVariants.{Ident, Space, Delim, End}
use Rattle.html_selector_text.specs.Results.{Wrong}

-- how many characters stand before what is left
abbrev pub place : List Token → ℕ
place [] = 0
place (t ∷ ts) = t.at

abbrev pub wrong : SyntaxFault → List Token → Wrong
wrong fault tokens = record { fault = fault; at = place tokens }

abbrev pub is_space : TokenKind → Bool
is_space Space = true
is_space _ = false

abbrev pub past_spaces : List Token → List Token
past_spaces [] = []
past_spaces (t ∷ ts) = cond (is_space t.kind) (past_spaces ts) (t ∷ ts)

abbrev pub is_end_kind : TokenKind → Bool
is_end_kind End = true
is_end_kind _ = false

abbrev pub is_end : List Token → Bool
is_end [] = true
is_end (t ∷ ts) = is_end_kind t.kind

abbrev pub is_delim_kind : ℕ → TokenKind → Bool
is_delim_kind c (Delim d) = d == c
is_delim_kind c _ = false

-- whether a delim token of this code point stands first
abbrev pub is_delim : ℕ → List Token → Bool
is_delim c [] = false
is_delim c (t ∷ ts) = is_delim_kind c t.kind

abbrev pub ident_kind : TokenKind → Option (List ℕ)
ident_kind (Ident name) = Some name
ident_kind _ = None

-- the name that stands first
abbrev pub ident_of : List Token → Option (List ℕ)
ident_of [] = None
ident_of (t ∷ ts) = ident_kind t.kind

-- a bracket that is open at the end of the text counts as closed (section 5.4.8 of CSS Syntax)
abbrev pub closes : ℕ → List Token → Bool
closes c tokens = is_end tokens || is_delim c tokens

abbrev pub past_close : List Token → List Token
past_close tokens = cond (is_end tokens) tokens (drop 1 tokens)

-- where a selector of a list ends
abbrev pub ends : List Token → Bool
ends tokens = (is_end tokens || is_delim 44 tokens) || is_delim 41 tokens
