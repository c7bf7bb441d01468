-- A sink that lists what it is told, with neighbouring texts joined, over which worked rows are read.
use Rattle.std.specs.Prelude.{ℕ, Bool, true, false, List, [], ◌∷◌, ◌++◌, map, reverse, Option, Some, None, is_some, Result, Ok, Err}
use Rattle.markup.specs.declared.fault.ParseFault.{ParseFault}
use Rattle.html_tokens.specs.declared.replies.TokenSinkResult.{TokenSinkResult}
use Rattle.html_tokens.specs.declared.replies.TokenSinkResult.TheVariants.{Continue}
use Rattle.html_tokens.specs.declared.tags.Tag.{Tag}
use Rattle.html_tokens.specs.declared.token.Token.{Token}
use Rattle.html_tokens.specs.declared.token.Token.TheVariants.{TagToken, CharacterTokens, EOFToken, ParseError}
use Rattle.html_tokens.specs.Item.{Stand}
use Rattle.html_tokens.specs.NormalText.{normal_text}
use Rattle.html_tokens.specs.Reading.{reading}
use Rattle.html_tokens.specs.Table.{Row}

-- the tokens with their lines, the newest first; whether the CDATA question is answered yes;
-- the line on which the end of input was told, and whether the sink was ended after that
pub record Listing : Type 0 where
  pub told : List (Token × ℕ)
  pub cdata : Bool
  pub ended_at : Option ℕ
  pub ended : Bool

abbrev pub joined : List ℕ → ℕ → List (Token × ℕ) → List (Token × ℕ)
joined cs line ((CharacterTokens front, _) ∷ told) = (CharacterTokens (front ++ cs), 0) ∷ told
joined cs line told = (CharacterTokens cs, 0) ∷ told

-- the tokens with one more; of text no line is listed, and errors and the end not at all
abbrev pub listed : Token → ℕ → List (Token × ℕ) → List (Token × ℕ)
listed (CharacterTokens cs) line told = joined cs line told
listed EOFToken line told = told
listed (ParseError message) line told = told
listed token line told = (token, line) ∷ told

abbrev pub reply_to : {H : Type 0} → (Tag → TokenSinkResult H) → Token → TokenSinkResult H
reply_to replies (TagToken tag) = replies tag
reply_to replies _ = Continue

abbrev pub end_line : Token → ℕ → Option ℕ → Option ℕ
end_line EOFToken line before = Some line
end_line _ line before = before

-- a step of the listing, whose replies to tags are given
abbrev pub step : {H : Type 0} → (Tag → TokenSinkResult H) → Listing → Token → ℕ → Result (Listing × TokenSinkResult H) ParseFault
step replies s token line =
    Ok (record s { told = listed token line s.told; ended_at = end_line token line s.ended_at }, reply_to replies token)

abbrev pub end : Listing → Listing
end s = record s { ended = is_some s.ended_at }

-- nothing was told
abbrev pub empty : Bool → Listing
empty cdata = record { told = []; cdata = cdata; ended_at = None; ended = false }

abbrev pub told_by : Result Listing ParseFault → List (Token × ℕ)
told_by (Ok s) = reverse s.told
told_by (Err fault) = []

-- the tokens of a whole stream with their lines
abbrev pub lined : {H : Type 0} → List Row → (Tag → TokenSinkResult H) → Bool → Stand → List ℕ → List (Token × ℕ)
lined rows replies cdata st t = told_by (reading (step replies) (λ fault s. s) (λ s. s.cdata) end rows st 0
    (empty cdata) (normal_text true t))

-- the tokens of a whole stream
abbrev pub tokens : {H : Type 0} → List Row → (Tag → TokenSinkResult H) → Bool → Stand → List ℕ → List Token
tokens rows replies cdata st t = map (λ p. p.0) (lined rows replies cdata st t)
