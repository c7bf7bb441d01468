-- Worked rows: the lines of tokens, the end of input and pauses.
use Rattle.std.specs.Prelude.{◌≡◌, ℕ, true, false, List, [], ◌∷◌, ◌++◌, codes, map, if◌then◌else◌, Some, Result, Ok}
use Rattle.std.specs.Str.{bytes_eq}
use Rattle.markup.specs.declared.fault.ParseFault.{ParseFault}
use Rattle.html_tokens.specs.declared.replies.TokenSinkResult.{TokenSinkResult}
use Rattle.html_tokens.specs.declared.replies.TokenSinkResult.TheVariants.{Continue, Script, EncodingIndicator}
use Rattle.html_tokens.specs.declared.tags.Tag.{Tag}
use Rattle.html_tokens.specs.declared.token.Token.{Token}
use Rattle.html_tokens.specs.Listing.{step, end as finished, empty, lined}
use Rattle.html_tokens.specs.Notes.{pauses}
use Rattle.html_tokens.specs.Reading.{reading}
use Rattle.html_tokens.specs.RowForms.{text, text_of, null, comment, comment_of, doctype, no, yes, at_of, start, start_of, end}
use Rattle.html_tokens.specs.RowForms.{goes_on, data_stand, five, AreRead, row}

-- tokens with their lines, where a text has none
abbrev pub lines_of : List ℕ → List (Token × ℕ)
lines_of t = lined five goes_on false data_stand t

abbrev pub broken : Token × ℕ
broken = (text_of (10 ∷ []), 0)

-- four tags on four lines
abbrev pub four_lines : List (Token × ℕ)
four_lines = (start "a" [], 1) ∷ broken ∷ (start "b" [], 2) ∷ broken ∷ (end "b" [], 3) ∷ broken ∷ (end "a" [], 4) ∷ broken ∷ []

abbrev pub line_rows : List (List ℕ × List (Token × ℕ))
line_rows =
    (codes "<a>" ++ 13 ∷ 10 ∷ codes "<b>" ++ 13 ∷ 10 ∷ codes "</b>" ++ 13 ∷ 10 ∷ codes "</a>" ++ 13 ∷ 10 ∷ [], four_lines)
    ∷ (codes "<a>" ++ 10 ∷ codes "<b>" ++ 10 ∷ codes "</b>" ++ 10 ∷ codes "</a>" ++ 10 ∷ [], four_lines)
    ∷ (codes "<a>" ++ 13 ∷ codes "<b>" ++ 13 ∷ codes "</b>" ++ 13 ∷ codes "</a>" ++ 13 ∷ [], four_lines)
    -- the line of a token is that of its slice's end
    ∷ (
      codes "<a" ++ 10 ∷ codes "b='" ++ 13 ∷ 10 ∷ codes "'" ++ 10 ∷ codes "><c>",
      (start_of (codes "a") (at_of (codes "b") (10 ∷ []) ∷ []), 4) ∷ (start "c" [], 4) ∷ [],
    )
    ∷ (codes "<!--" ++ 10 ∷ codes "-->" ++ 10 ∷ codes "<!---->", (comment_of (10 ∷ []), 2) ∷ broken ∷ (comment "", 3) ∷ [])
    ∷ (
      codes "<!DOCTYPE" ++ 10 ∷ codes "html" ++ 10 ∷ codes "><?a" ++ 10 ∷ codes ">",
      (doctype (yes "html") no no, 3) ∷ (comment_of (codes "?a" ++ 10 ∷ []), 4) ∷ [],
    )
    ∷ (10 ∷ 0 ∷ 10 ∷ 0 ∷ [], broken ∷ (null, 2) ∷ broken ∷ (null, 3) ∷ [])
    -- a line feed that a reference writes is no line break
    ∷ (codes "&#10;<a>", broken ∷ (start "a" [], 1) ∷ [])
    ∷ []

abbrev pub AreLineRowsRead : Type 0
AreLineRowsRead = map (λ r. lines_of r.0) line_rows ≡ map (λ r. r.1) line_rows

-- a sink that pauses after the start tags a and m
abbrev pub pausing : Tag → TokenSinkResult ℕ
pausing tag = if bytes_eq tag.name (codes "a") then Script 7 else if bytes_eq tag.name (codes "m") then
    EncodingIndicator (codes "utf8") else Continue

abbrev pub pauses_of : List ℕ → Result (List (TokenSinkResult ℕ)) (ParseFault × ℕ)
pauses_of t = pauses (step pausing) (λ s token. true) (λ s. s.cdata) finished five data_stand 0 (empty false) t

-- a pause comes after its tag, and the reading goes on after it as it would with no pause
abbrev pub ArePauseRowsRead : Type 0
ArePauseRowsRead =
    AreRead five pausing false data_stand (row "<a>b" (start "a" [] ∷ text "b" ∷ []) ∷
    row "x<m>&lt;<a>" (text "x" ∷ start "m" [] ∷ text "<" ∷ start "a" [] ∷ []) ∷ [])
    × (pauses_of (codes "<a>b") ≡ Ok (Script 7 ∷ []))
    × (pauses_of (codes "x<m>y<b><a><m") ≡ Ok (EncodingIndicator (codes "utf8") ∷ Script 7 ∷ []))
    × (pauses_of (codes "<b>") ≡ Ok [])

-- at the end of input the sink is told the end once, and `end` is called after it
abbrev pub IsEndRowRead : Type 0
IsEndRowRead =
    reading (step goes_on) (λ fault s. s) (λ s. s.cdata) finished five data_stand 0 (empty false)
    (codes "a" ++ 10 ∷ codes "<b") ≡ Ok (record {
      told = (text_of (codes "a" ++ 10 ∷ []), 0) ∷ [];
      cdata = false;
      ended_at = Some 2;
      ended = true;
    })
