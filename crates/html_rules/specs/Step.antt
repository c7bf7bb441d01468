-- What a token that is told makes of the state (HTML Standard, section 13.2.6).
use Rattle.std.specs.Prelude.{ℕ, ◌+◌, ◌&&◌, Bool, true, false, nat_eq, List, [], ◌∷◌, Option, Some, None, Result, Ok, Err}
use Rattle.html_tokens.specs.Sink.{Step, Reply, Refusal, InText, AfterEnd, Unfit}
use Rattle.html_tokens.specs.declared.replies.TokenSinkResult.TheVariants as reply
use Rattle.html_tokens.specs.declared.token.Doctype.{Doctype}
use Rattle.html_tokens.specs.declared.token.Token.{Token}
use Rattle.html_tokens.specs.declared.token.Token.TheVariants.{DoctypeToken, TagToken, CommentToken, CharacterTokens}
use Rattle.html_tokens.specs.declared.token.Token.TheVariants.{NullCharacterToken, ParseError}
use Rattle.html_rules.specs.Actions.{set_ignore_lf, set_mode, set_quirks_mode}
use Rattle.html_rules.specs.Choice.{choose}
use Rattle.html_rules.specs.Doctypes.{doctype_error, quirks_of}
use Rattle.html_rules.specs.ForeignContent.{is_start_tag}
use Rattle.html_rules.specs.Places.{append_doctype_to_document}
use Rattle.html_rules.specs.Rules.{Settled, settle}
use Rattle.html_rules.specs.Shape.{is_fit}
use Rattle.html_rules.specs.Stack.{parse_error}
use Rattle.html_rules.specs.State.{State, hushed}
use Rattle.html_rules.specs.declared.insertion_mode.InsertionMode.{InsertionMode}
use Rattle.html_rules.specs.declared.insertion_mode.InsertionMode.TheVariants.{Initial, BeforeHtml, InTableText, Text}
use Rattle.html_rules.specs.declared.rules.Rules.{Rules}
use Rattle.html_rules.specs.declared.rules.Rules.TheVariants.{Standard}

-- a state that no token changed yet
abbrev pub untouched : State → Settled
untouched s = record { state = s; reply = reply.Continue; turns = 0; is_settled = true }

-- what came of a token, with the turns that were taken before it
abbrev pub followed_by : Settled → Settled → Settled
followed_by before settled = record settled { turns = before.turns + settled.turns; is_settled = before.is_settled && settled.is_settled }

-- a text, where this came of what stands before it: each character is a token
abbrev pub text_taken : List ℕ → Settled → Settled
text_taken [] before = before
text_taken (c ∷ cs) before = let settled = settle (CharacterTokens (c ∷ [])) before.state in text_taken cs (followed_by before settled)

-- a text after the line feed at its front, if that is to be dropped
abbrev pub after_line_feed : Bool → List ℕ → List ℕ
after_line_feed false text = text
after_line_feed true [] = []
after_line_feed true (c ∷ cs) = choose (nat_eq c 10) (λ _. cs) (λ _. c ∷ cs)

abbrev pub if_kept : Bool → Doctype → State → State
if_kept drop_doctype d s = choose drop_doctype (λ _. s) (λ _. append_doctype_to_document d s)

-- a doctype where one belongs (section 13.2.6.4.1)
abbrev pub first_doctype_taken : Doctype → State → State
first_doctype_taken d s =
    let told = choose (doctype_error d) (λ _. parse_error s) (λ _. s) in
    set_mode BeforeHtml (set_quirks_mode (quirks_of s.opts.rules s.opts.iframe_srcdoc d) (if_kept s.opts.drop_doctype d told))

-- any other doctype is an error
abbrev pub doctype_taken : InsertionMode → Doctype → State → State
doctype_taken Initial d s = first_doctype_taken d s
doctype_taken mode d s = parse_error s

-- by the Standard, a doctype puts the pending table character tokens into the tree, as any other token does (section 13.2.6.4.10)
abbrev pub ends_table_text : Rules → InsertionMode → Bool
ends_table_text Standard InTableText = true
ends_table_text rules mode = false

abbrev pub doctype_settled : Bool → Doctype → State → Settled
doctype_settled false d s = untouched (doctype_taken s.mode d s)
doctype_settled true d s = settle (DoctypeToken d) s

-- what a token makes of a state in which nothing stands against it
abbrev pub taken_by : Bool → Token → State → Settled
taken_by ignore_lf (CharacterTokens text) s = text_taken (after_line_feed ignore_lf text) (untouched s)
taken_by ignore_lf (DoctypeToken d) s = doctype_settled (ends_table_text s.opts.rules s.mode) d s
taken_by ignore_lf t s = settle t s

unfoldable pub taken : Token → State → Settled
taken t s = taken_by s.ignore_lf t (set_ignore_lf false s)

-- empty text and errors
abbrev pub is_idle : Token → Bool
is_idle (CharacterTokens []) = true
is_idle (ParseError message) = true
is_idle t = false

-- what can't come while the text of an element is read
abbrev pub is_barred_in_text : Token → Bool
is_barred_in_text (TagToken tag) = is_start_tag tag.kind
is_barred_in_text (CommentToken text) = true
is_barred_in_text NullCharacterToken = true
is_barred_in_text t = false

abbrev pub is_barred : InsertionMode → Token → Bool
is_barred Text t = is_barred_in_text t
is_barred mode t = false

-- why a token is refused, if it is
abbrev pub refusal_of : Token → State → Option Refusal
refusal_of t s =
    choose s.has_ended (λ _. Some AfterEnd)
    (λ _. choose (is_idle t) (λ _. None)
    (λ _. choose (is_fit s) (λ _. choose (is_barred s.mode t) (λ _. Some InText) (λ _. None))
    (λ _. Some Unfit)))

-- the state and the reply; the number of errors is put aside
abbrev pub answered : Settled → State × Reply
answered settled = (hushed settled.state, settled.reply)

abbrev pub taken_unless_idle : Token → State → State × Reply
taken_unless_idle t s = choose (is_idle t) (λ _. (s, reply.Continue)) (λ _. answered (taken t (hushed s)))

abbrev pub step_by : Option Refusal → Token → State → Result (State × Reply) Refusal
step_by (Some refusal) t s = Err refusal
step_by None t s = Ok (taken_unless_idle t s)

-- a token, told with its line, which counts for nothing here
unfoldable pub step : Step State
step s t line = step_by (refusal_of t s) t s

-- whether a token makes the rules tell no error
unfoldable pub is_quiet : State → Token → Bool
is_quiet s t = nat_eq (taken t (hushed s)).state.forest.errors 0

-- the end, at which all elements leave the stack
unfoldable pub ended : State → State
ended s = record s { open_elems = []; has_ended = true }
