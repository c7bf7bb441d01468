-- The tree construction dispatcher: what a token makes of the state (HTML Standard, section 13.2.6).
use Rattle.std.specs.Prelude.{ℕ, zero, suc, Bool, true, false, ◌&&◌, List, [], ◌∷◌, Option, Some, None}
use Rattle.html_tokens.specs.Sink.{Reply}
use Rattle.html_tokens.specs.declared.replies.TokenSinkResult.TheVariants as reply
use Rattle.html_tokens.specs.declared.token.Token.{Token}
use Rattle.html_tokens.specs.declared.token.Token.TheVariants.{TagToken}
use Rattle.html_rules.specs.Actions.{act, restore_mode, set_mode}
use Rattle.html_rules.specs.Choice.{choose}
use Rattle.html_rules.specs.Conditions.{holds}
use Rattle.html_rules.specs.Encodings.{encoding_hint}
use Rattle.html_rules.specs.ForeignContent.{is_foreign, is_start_tag}
use Rattle.html_rules.specs.Modes.AfterAfterBody.{after_after_body}
use Rattle.html_rules.specs.Modes.AfterAfterFrameset.{after_after_frameset}
use Rattle.html_rules.specs.Modes.AfterBody.{after_body}
use Rattle.html_rules.specs.Modes.AfterFrameset.{after_frameset}
use Rattle.html_rules.specs.Modes.AfterHead.{after_head}
use Rattle.html_rules.specs.Modes.BeforeHead.{before_head}
use Rattle.html_rules.specs.Modes.BeforeHtml.{before_html}
use Rattle.html_rules.specs.Modes.Foreign.{in_foreign_content}
use Rattle.html_rules.specs.Modes.InBody.{in_body}
use Rattle.html_rules.specs.Modes.InCaption.{in_caption}
use Rattle.html_rules.specs.Modes.InCell.{in_cell}
use Rattle.html_rules.specs.Modes.InColumnGroup.{in_column_group}
use Rattle.html_rules.specs.Modes.InFrameset.{in_frameset}
use Rattle.html_rules.specs.Modes.InHead.{in_head}
use Rattle.html_rules.specs.Modes.InHeadNoscript.{in_head_noscript}
use Rattle.html_rules.specs.Modes.InRow.{in_row}
use Rattle.html_rules.specs.Modes.InTable.{in_table}
use Rattle.html_rules.specs.Modes.InTableBody.{in_table_body}
use Rattle.html_rules.specs.Modes.InTableText.{in_table_text}
use Rattle.html_rules.specs.Modes.InTemplate.{in_template}
use Rattle.html_rules.specs.Modes.Initial.{initial}
use Rattle.html_rules.specs.Modes.Text.{text}
use Rattle.html_rules.specs.Stack.{parse_error}
use Rattle.html_rules.specs.State.{Open, State, current_number}
use Rattle.html_rules.specs.Table.{Row, Action, AnythingElse, Nothing, Conclusion, Done, Acknowledged, Reprocess}
use Rattle.html_rules.specs.Table.{ReprocessInOriginal, ReprocessInMode, Using, UsingThen, UsingCurrentMode, RawText, PlainText}
use Rattle.html_rules.specs.Table.{RunScript, ReportEncoding, row}
use Rattle.html_rules.specs.Tokens.{attributes_of, class_fits}
use Rattle.html_rules.specs.declared.insertion_mode.InsertionMode.{InsertionMode}
use Rattle.html_rules.specs.declared.insertion_mode.InsertionMode.TheVariants as mode

-- the rows of a mode
unfoldable pub rows : InsertionMode → List Row
rows mode.Initial = initial
rows mode.BeforeHtml = before_html
rows mode.BeforeHead = before_head
rows mode.InHead = in_head
rows mode.InHeadNoscript = in_head_noscript
rows mode.AfterHead = after_head
rows mode.InBody = in_body
rows mode.Text = text
rows mode.InTable = in_table
rows mode.InTableText = in_table_text
rows mode.InCaption = in_caption
rows mode.InColumnGroup = in_column_group
rows mode.InTableBody = in_table_body
rows mode.InRow = in_row
rows mode.InCell = in_cell
rows mode.InTemplate = in_template
rows mode.AfterBody = after_body
rows mode.InFrameset = in_frameset
rows mode.AfterFrameset = after_frameset
rows mode.AfterAfterBody = after_after_body
rows mode.AfterAfterFrameset = after_after_frameset

-- whether a row is for a token
abbrev pub fits : Row → Token → State → Bool
fits r t s = choose (class_fits r.on t) (λ _. holds r.when t s) (λ _. false)

-- the first row that fits
abbrev pub first_fit : List Row → Token → State → Row
first_fit [] t s = row AnythingElse Nothing Done
first_fit (r ∷ rs) t s = choose (fits r t s) (λ _. r) (λ _. first_fit rs t s)

-- how a turn ends: the token is done with, and a self-closing flag was acknowledged or was not; the token is taken again, in
-- the mode that the state has; or there is a reply
pub data Ending : Type 0 where
  Finished : (acknowledged : Bool) → Ending
  Again : Ending
  Replied : Reply → Ending

pub record Turn : Type 0 where
  pub state : State
  pub ends : Ending

abbrev pub turn_of : State → Ending → Turn
turn_of s ends = record { state = s; ends = ends }

abbrev pub encoding_reply : Option (List ℕ) → Ending
encoding_reply None = Finished true
encoding_reply (Some label) = Replied (reply.EncodingIndicator label)

-- a turn with one more action at its end
abbrev pub turn_then : Action → Token → Turn → Turn
turn_then after t made = record made { state = act after t made.state }

-- how a row ends once its actions are done, where `script` was the current node before, and `using` is what the rules of another
-- mode make of a token
abbrev pub concluded : (InsertionMode → Token → State → Turn) → Conclusion → Token → ℕ → State → Turn
concluded using Done t script s = turn_of s (Finished false)
concluded using Acknowledged t script s = turn_of s (Finished true)
concluded using (Reprocess m) t script s = turn_of (set_mode m s) Again
concluded using ReprocessInOriginal t script s = turn_of (restore_mode s) Again
concluded using ReprocessInMode t script s = turn_of s Again
concluded using (Using m) t script s = using m t s
concluded using (UsingThen m after) t script s = turn_then after t (using m t s)
concluded using UsingCurrentMode t script s = using s.mode t s
concluded using (RawText kind) t script s = turn_of s (Replied (reply.RawData kind))
concluded using PlainText t script s = turn_of s (Replied reply.Plaintext)
concluded using RunScript t script s = turn_of s (Replied (reply.Script script))
concluded using ReportEncoding t script s = turn_of s (encoding_reply (encoding_hint (attributes_of t)))

abbrev pub turn_by_row : (InsertionMode → Token → State → Turn) → Row → Token → State → Turn
turn_by_row using r t s = concluded using r.ends t (current_number s.open_elems) (act r.does t s)

-- what the rules of a mode make of a token, where at most so many modes use one another's rules
unfoldable pub using_rules_for : ℕ → InsertionMode → Token → State → Turn
using_rules_for zero m t s = turn_of s (Finished false)
using_rules_for (suc n) m t s = turn_by_row (using_rules_for n) (first_fit (rows m) t s) t s

-- no mode uses the rules of a mode that uses the rules of a mode that uses the rules of a mode that uses others
abbrev pub most_modes : ℕ
most_modes = 4

-- one turn: the rules of foreign content hold, or those of the mode
unfoldable pub turn : Token → State → Turn
turn t s =
    choose (is_foreign s t)
    (λ _. turn_by_row (using_rules_for most_modes) (first_fit in_foreign_content t s) t s)
    (λ _. using_rules_for most_modes s.mode t s)

-- what a token comes to: the state, the reply, how many turns it took, and whether they were enough
pub record Settled : Type 0 where
  pub state : State
  pub reply : Reply
  pub turns : ℕ
  pub is_settled : Bool

abbrev pub settled_with : State → Reply → Settled
settled_with s reply = record { state = s; reply = reply; turns = 1; is_settled = true }

abbrev pub one_more_turn : Settled → Settled
one_more_turn settled = record settled { turns = suc settled.turns }

-- whether a start tag closes itself
abbrev pub is_self_closing : Token → Bool
is_self_closing (TagToken tag) = is_start_tag tag.kind && tag.self_closing
is_self_closing _ = false

-- a self-closing flag that was not acknowledged is an error
abbrev pub check_acknowledged : Bool → Token → State → State
check_acknowledged acknowledged t s = choose acknowledged (λ _. s) (λ _. choose (is_self_closing t) (λ _. parse_error s) (λ _. s))

abbrev pub settled_by : (State → Settled) → Ending → Token → State → Settled
settled_by again (Finished acknowledged) t s = settled_with (check_acknowledged acknowledged t s) reply.Continue
settled_by again Again t s = one_more_turn (again s)
settled_by again (Replied reply) t s = settled_with s reply

-- what a token comes to in so many turns; `beyond` has what it comes to where they are not enough
unfoldable pub within : ℕ → (State → Settled) → Token → State → Settled
within zero beyond t s = beyond s
within (suc n) beyond t s = let made = turn t s in settled_by (within n beyond t) made.ends t made.state

-- in four turns for each of these elements
unfoldable pub four_for_each : List Open → Token → State → Settled
four_for_each [] t s = record { state = s; reply = reply.Continue; turns = 0; is_settled = false }
four_for_each (x ∷ xs) t s = within 4 (four_for_each xs t) t s

-- sixteen turns, and four for each open element, are enough for every token
unfoldable pub settle : Token → State → Settled
settle t s = within 16 (four_for_each s.open_elems t) t s
