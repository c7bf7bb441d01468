-- Which rows a page meets: for each token that the rules are told, and each of its turns, the mode and the place of its row in the list of
-- that mode (HTML Standard, section 13.2.6). Whoever looks for the row by which a page goes wrong writes a text here.
use Prim.Native.String.{String}
use Rattle.std.specs.Prelude.{◌≡◌, ℕ, zero, suc, true, false, List, [], ◌∷◌, ◌++◌, codes, Result, Ok, Err}
use Rattle.markup.specs.Forest.{empty_forest}
use Rattle.html_tokens.specs.NormalText.{normal_text}
use Rattle.html_tokens.specs.Reading.{reading}
use Rattle.html_tokens.specs.RowForms.{five}
use Rattle.html_tokens.specs.Sink.{◌>>=◌, Refusal, Reply}
use Rattle.html_tokens.specs.declared.token.Token.{Token}
use Rattle.html_tokens.specs.declared.token.Token.TheVariants.{CharacterTokens, CommentToken, DoctypeToken, EOFToken, ParseError, TagToken}
use Rattle.html_rules.specs.Actions.{set_ignore_lf}
use Rattle.html_rules.specs.Choice.{choose}
use Rattle.html_rules.specs.Documents.{before_document, stand_of}
use Rattle.html_rules.specs.ForeignContent.{asks_cdata, is_foreign}
use Rattle.html_rules.specs.Modes.Foreign.{in_foreign_content}
use Rattle.html_rules.specs.Rules.{Ending, Again, fits, rows, turn}
use Rattle.html_rules.specs.State.{State, hushed}
use Rattle.html_rules.specs.Step.{ended, step}
use Rattle.html_rules.specs.Table.{Row}
use Rattle.html_rules.specs.declared.insertion_mode.InsertionMode.{InsertionMode}
use Rattle.html_rules.specs.declared.insertion_mode.InsertionMode.TheVariants as mode
use Rattle.html_rules_rows.specs.RowForms.{default_options, default_setting}

-- one turn of a token: the mode, or "foreign content", and the row, counted from 0
abbrev pub Met : Type 0
Met = String × ℕ

abbrev pub name_of_mode : InsertionMode → String
name_of_mode mode.Initial = "initial"
name_of_mode mode.BeforeHtml = "before html"
name_of_mode mode.BeforeHead = "before head"
name_of_mode mode.InHead = "in head"
name_of_mode mode.InHeadNoscript = "in head noscript"
name_of_mode mode.AfterHead = "after head"
name_of_mode mode.InBody = "in body"
name_of_mode mode.Text = "text"
name_of_mode mode.InTable = "in table"
name_of_mode mode.InTableText = "in table text"
name_of_mode mode.InCaption = "in caption"
name_of_mode mode.InColumnGroup = "in column group"
name_of_mode mode.InTableBody = "in table body"
name_of_mode mode.InRow = "in row"
name_of_mode mode.InCell = "in cell"
name_of_mode mode.InTemplate = "in template"
name_of_mode mode.AfterBody = "after body"
name_of_mode mode.InFrameset = "in frameset"
name_of_mode mode.AfterFrameset = "after frameset"
name_of_mode mode.AfterAfterBody = "after after body"
name_of_mode mode.AfterAfterFrameset = "after after frameset"

-- a token by its first character, or by its name
pub record TokenMet : Type 0 where
  pub token : List ℕ
  pub turns : List Met

abbrev pub place_of : List Row → Token → State → ℕ
place_of [] t s = 0
place_of (r ∷ rs) t s = choose (fits r t s) (λ _. 0) (λ _. suc (place_of rs t s))

abbrev pub met : Token → State → Met
met t s = choose (is_foreign s t) (λ _. ("foreign content", place_of in_foreign_content t s))
    (λ _. (name_of_mode s.mode, place_of (rows s.mode) t s))

abbrev again : Ending → (Unit {0} → List Met) → List Met
again Again more = more tt
again ends more = []

-- at most so many turns of a token
abbrev pub turns_met : ℕ → Token → State → List Met
turns_met zero t s = []
turns_met (suc n) t s = let r = turn t s in met t s ∷ again r.ends (λ _. turns_met n t r.state)

-- of a text the first character alone
abbrev first_of : Token → Token
first_of (CharacterTokens (c ∷ cs)) = CharacterTokens (c ∷ [])
first_of t = t

abbrev short : Token → List ℕ
short (CharacterTokens text) = text
short (TagToken tag) = tag.name
short (CommentToken text) = codes "--"
short (DoctypeToken doctype) = codes "!"
short EOFToken = codes "end"
short t = []

-- errors and doctypes take no turns
abbrev told_of : Token → State → List TokenMet
told_of (ParseError message) s = []
told_of (DoctypeToken doctype) s = []
told_of t s = record { token = short (first_of t); turns = turns_met 16 (first_of t) (set_ignore_lf false s) } ∷ []

-- a sink that notes what tokens meet
abbrev noting : State × List TokenMet → Token → ℕ → Result ((State × List TokenMet) × Reply) Refusal
noting (s, told) t line = step s t line >>= λ p. Ok ((p.0, told ++ told_of t s), p.1)

abbrev trace_by : Result (State × List TokenMet) Refusal → List TokenMet
trace_by (Ok (s, told)) = told
trace_by (Err refusal) = []

-- what the tokens of a page meet, in their order
abbrev pub trace : String → List TokenMet
trace text = trace_by (reading noting (λ fault p. p) (λ p. asks_cdata p.0) (λ p. (ended p.0, p.1)) five
    (stand_of default_options) 0 (hushed (before_document default_setting empty_forest), []) (normal_text true (codes text)))

abbrev told : String → List Met → TokenMet
told token turns = record { token = codes token; turns = turns }

-- a start tag of a paragraph where nothing is open yet, its text, a table, text in it, and the end
abbrev pub IsTraced : Type 0
IsTraced = trace "<!DOCTYPE html><p>a<table>b" ≡
    told "p" (("before html", 5) ∷ ("before head", 6) ∷ ("in head", 16) ∷ ("after head", 10) ∷ ("in body", 17) ∷ [])
    ∷ told "a" (("in body", 1) ∷ [])
    ∷ told "table" (("in body", 46) ∷ [])
    ∷ told "b" (("in table", 0) ∷ ("in table text", 1) ∷ [])
    ∷ told "end" (("in table text", 2) ∷ ("in table", 20) ∷ [])
    ∷ []
