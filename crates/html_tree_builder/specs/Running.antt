-- Runs of text that are taken at once.
use Rattle.std.specs.Prelude.{◌≡◌, ◌<◌, ℕ, Bool, true, false, ◌||◌, ◌&&◌, List, length, Option, Some, None}
use Rattle.std.specs.Str.{IsUtf8, chars}
use Rattle.html_rules_laws.specs.Usable.{Usable}
use Rattle.html_rules.specs.Choice.{choose}
use Rattle.html_rules.specs.ForeignContent.{is_html_element}
use Rattle.html_rules.specs.State.{Open, State, adjusted_current_node, is_in}
use Rattle.html_rules.specs.Step.{text_taken, untouched}
use Rattle.html_rules.specs.Table.{Action, Nothing, AppendText, FramesetNotOkUnlessWhite, KeepText, Reconstruct, ◌▸◌}
use Rattle.html_rules.specs.declared.insertion_mode.InsertionMode as modes
use Rattle.html_rules.specs.declared.insertion_mode.InsertionMode.TheVariants as mode
use Rattle.html_rules.specs.declared.tag_set.TagSet.TheVariants as set
use Rattle.html_tree_builder.specs.declared.runs.Run.{Run}
use Rattle.html_tree_builder.specs.declared.runs.Run.TheVariants.{InBody, Raw, Waiting, Foreign, Dropped}

-- what is done with the characters of a run
abbrev pub run_action : Run → Action
run_action InBody = Reconstruct ▸ FramesetNotOkUnlessWhite ▸ AppendText
run_action Raw = AppendText
run_action Waiting = KeepText
run_action Foreign = FramesetNotOkUnlessWhite ▸ AppendText
run_action Dropped = Nothing

-- whether text in an element is taken by the rules of the mode, whatever the sink answers
abbrev pub takes_text : Open → Bool
takes_text x = is_html_element x || is_in set.MathmlTextIntegrationPoint x || is_in set.SvgHtmlIntegrationPoint x

-- in which modes text is taken as in a body, as the text of an element, or kept
abbrev pub run_in : modes.InsertionMode → Option Run
run_in mode.InBody = Some InBody
run_in mode.InCaption = Some InBody
run_in mode.InCell = Some InBody
run_in mode.InTemplate = Some InBody
run_in mode.Text = Some Raw
run_in mode.InTableText = Some Waiting
run_in m = None

-- by the adjusted current node; in MathML's `annotation-xml` the sink would be asked at each character
abbrev pub run_at : Option Open → modes.InsertionMode → Option Run
run_at None m = None
run_at (Some x) m = choose (takes_text x) (λ _. run_in m) (λ _. choose (is_in set.AnnotationXml x) (λ _. None) (λ _. Some Foreign))

-- the run that a text is, if it is one, up to its end
abbrev pub run_of : State → Option Run
run_of s = choose s.foster_parenting (λ _. None) (λ _. run_at (adjusted_current_node s) s.mode)

-- in which modes white space is dropped, put, or taken as in a body
abbrev pub white_in : modes.InsertionMode → Option Run
white_in mode.Initial = Some Dropped
white_in mode.BeforeHtml = Some Dropped
white_in mode.BeforeHead = Some Dropped
white_in mode.InHead = Some Raw
white_in mode.InHeadNoscript = Some Raw
white_in mode.AfterHead = Some Raw
white_in mode.InColumnGroup = Some Raw
white_in mode.InFrameset = Some Raw
white_in mode.AfterFrameset = Some Raw
white_in mode.AfterBody = Some InBody
white_in mode.AfterAfterBody = Some InBody
white_in mode.AfterAfterFrameset = Some InBody
white_in m = None

-- the same where no element is open
abbrev pub white_before : modes.InsertionMode → Option Run
white_before mode.Initial = Some Dropped
white_before mode.BeforeHtml = Some Dropped
white_before m = None

-- by the adjusted current node
abbrev pub white_at : Option Open → modes.InsertionMode → Option Run
white_at None m = white_before m
white_at (Some x) m = choose (takes_text x) (λ _. white_in m) (λ _. None)

-- the run that white space is where other text is none, if it is one
abbrev pub white_run_of : State → Option Run
white_run_of s = choose s.foster_parenting (λ _. None) (λ _. white_at (adjusted_current_node s) s.mode)

-- in which modes characters other than white space are errors, and dropped
abbrev pub is_of_framesets : modes.InsertionMode → Bool
is_of_framesets mode.InFrameset = true
is_of_framesets mode.AfterFrameset = true
is_of_framesets mode.AfterAfterFrameset = true
is_of_framesets m = false

abbrev pub takes_text_if : Option Open → Bool
takes_text_if None = true
takes_text_if (Some x) = takes_text x

-- whether they are
abbrev pub refuses_text : State → Bool
refuses_text s = is_of_framesets s.mode && takes_text_if (adjusted_current_node s)

-- Of a text this is left to be taken, in this state: it comes to what the whole comes to in the state before.
pub record LeavesText (whole rest : List ℕ) (s r : State) : Type 0 where
  pub text : IsUtf8 rest
  pub shorter : length rest < length whole
  pub usable : Usable r
  pub going : r.has_ended ≡ false
  pub same : (text_taken (chars rest) (untouched r)).state ≡ (text_taken (chars whole) (untouched s)).state
