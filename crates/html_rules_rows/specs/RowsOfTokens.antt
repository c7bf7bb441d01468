-- Worked rows: tokens that are told one by one, refusals, and arms of the rules that no text leads to.
use Rattle.std.specs.Prelude.{◌≡◌, ℕ, true, false, List, [], ◌∷◌, map, codes, Result, Ok, Err}
use Rattle.markup.specs.Forest.{Last, empty_forest}
use Rattle.html_tokens.specs.RowForms.{at, comment, end, null, start, text}
use Rattle.html_tokens.specs.Sink.{Reply, Refusal, InText, AfterEnd, Unfit}
use Rattle.html_tokens.specs.declared.replies.TokenSinkResult.TheVariants.{Continue, Script, Plaintext, RawData, EncodingIndicator}
use Rattle.html_tokens.specs.declared.states.RawKind.TheVariants.{Rcdata, Rawtext, ScriptData}
use Rattle.html_tokens.specs.declared.token.Token.{Token}
use Rattle.html_tokens.specs.declared.token.Token.TheVariants.{EOFToken}
use Rattle.html_rules.specs.Actions.{set_mode}
use Rattle.html_rules.specs.Documents.{before_document}
use Rattle.html_rules.specs.Names.{Html}
use Rattle.html_rules.specs.Places.{create_root, foster_place, insert_phantom, open_element}
use Rattle.html_rules.specs.Rules.{settle}
use Rattle.html_rules.specs.Stack.{process_end_tag_in_body}
use Rattle.html_rules.specs.State.{State}
use Rattle.html_rules.specs.Step.{ended, step, taken}
use Rattle.html_rules.specs.declared.insertion_mode.InsertionMode.{InsertionMode}
use Rattle.html_rules.specs.declared.insertion_mode.InsertionMode.TheVariants.{InBody, InHead, AfterHead, InRow, InCell}
use Rattle.html_rules.specs.declared.insertion_mode.InsertionMode.TheVariants.{InTable, InTemplate, Text as TextMode}
use Rattle.html_rules.specs.declared.rules.Rules.TheVariants.{Html5ever}
use Rattle.html_rules_rows.specs.RowForms.{default_setting}

abbrev fresh : State
fresh = before_document default_setting empty_forest

-- what tokens come to, one after the other; a refused one changes nothing
abbrev answer : Result (State × Reply) Refusal → Result Reply Refusal
answer (Ok p) = Ok p.1
answer (Err refusal) = Err refusal

abbrev state_after : State → Result (State × Reply) Refusal → State
state_after s (Ok p) = p.0
state_after s (Err refusal) = s

abbrev answers : State → List Token → List (Result Reply Refusal)
answers s [] = []
answers s (t ∷ ts) = answer (step s t 1) ∷ answers (state_after s (step s t 1)) ts

abbrev go_on : Result Reply Refusal
go_on = Ok Continue

abbrev told : State → List Token → State
told s [] = s
told s (t ∷ ts) = told (state_after s (step s t 1)) ts

-- replies, and what can't come while text of an element is read
abbrev pub AreRepliesGiven : Type 0
AreRepliesGiven =
    (answers fresh (start "title" [] ∷ comment "c" ∷ null ∷ start "p" [] ∷ text "a" ∷ end "title" [] ∷ comment "c" ∷ [])
    ≡ Ok (RawData Rcdata) ∷ Err InText ∷ Err InText ∷ Err InText ∷ go_on ∷ go_on ∷ go_on ∷ [])
    × (answers fresh (start "script" [] ∷ text "a" ∷ end "script" [] ∷ start "style" [] ∷ end "style" [] ∷ start "plaintext" [] ∷ [])
    ≡ Ok (RawData ScriptData) ∷ go_on ∷ Ok (Script 3) ∷ Ok (RawData Rawtext) ∷ go_on ∷ Ok Plaintext ∷ [])
    × (answers fresh (start "meta" (at "charset" "x" ∷ []) ∷ start "meta" [] ∷ EOFToken ∷ []) ≡ Ok
    (EncodingIndicator (codes "x")) ∷ go_on ∷ go_on ∷ [])

-- after the end every token is refused, an error and an empty text too
abbrev pub AreRefusedAtEnd : Type 0
AreRefusedAtEnd = answers (ended (told fresh (EOFToken ∷ []))) (text "" ∷ text "a" ∷ start "p" [] ∷ EOFToken ∷
    []) ≡ Err AfterEnd ∷ Err AfterEnd ∷ Err AfterEnd ∷ Err AfterEnd ∷ []

-- a state whose parts do not fit takes nothing but empty texts and errors
abbrev refuses : State → Type 0
refuses s = answers s (text "" ∷ text "a" ∷ start "p" [] ∷ comment "c" ∷ EOFToken ∷ []) ≡ go_on ∷ Err Unfit ∷
    Err Unfit ∷ Err Unfit ∷ Err Unfit ∷ []

-- html, and in it elements of these names, opened one after the other
abbrev pub opened : List (List ℕ) → State → State
opened [] s = s
opened (name ∷ names) s = opened names (insert_phantom name s)

abbrev standing : InsertionMode → List (List ℕ) → State
standing mode names = set_mode mode (opened names (create_root [] fresh))

abbrev pub AreUnfitRefused : Type 0
AreUnfitRefused =
    refuses (set_mode InBody fresh)
    × refuses (create_root [] fresh)
    × refuses (standing InBody (codes "html" ∷ []))
    × refuses (standing InHead (codes "head" ∷ []))
    × refuses (standing AfterHead [])
    × refuses (standing TextMode (codes "title" ∷ []))
    × refuses (standing InTemplate (codes "template" ∷ []))
    × refuses (standing InCell (codes "table" ∷ codes "tr" ∷ []))

abbrev names_of : State → List (List ℕ)
names_of s = map (λ x. x.name) s.open_elems

-- an end tag of which nothing is open and nothing special either is an error; a table that stands nowhere has its fosterlings at the end
-- of the element below it; `</tbody>` in a row is dropped where no `tr` is in table scope; a cell is closed by a start tag only where one
-- is in table scope
abbrev pub AreUnmetArmsMeant : Type 0
AreUnmetArmsMeant =
    ((process_end_tag_in_body (codes "b")
    (record fresh { open_elems = record { number = 0; namespace = Html; name = codes "x"; rules = Html5ever } ∷ [] })).forest.errors ≡ 1)
    × (foster_place (open_element Html (codes "table") [] false (standing InTable (codes "div" ∷ []))).forest 1
    (open_element Html (codes "table") [] false (standing InTable (codes "div" ∷ []))).open_elems ≡ Last 2)
    × (names_of (settle (end "tbody" []) (standing InRow (codes "table" ∷ codes "tbody" ∷ []))).state ≡
    codes "tbody" ∷ codes "table" ∷ codes "html" ∷ [])
    × ((settle (end "tbody" []) (standing InRow (codes "table" ∷ codes "tbody" ∷ []))).state.forest.errors ≡ 0)
    × ((settle (start "caption" []) (standing InCell (codes "table" ∷ []))).state.forest.errors ≡ 1)

-- how many turns a token takes, and that they are enough
abbrev takes : ℕ → Token → State → Type 0
takes n t s = ((taken t s).turns ≡ n) × ((taken t s).is_settled ≡ true)

abbrev pub AreTurnsCounted : Type 0
AreTurnsCounted =
    takes 6 (start "p" []) fresh
    × takes 1 (start "p" []) (standing InBody (codes "body" ∷ []))
    × takes 3 (start "td" []) (standing InTable (codes "table" ∷ []))
    × takes 6 (text "a") fresh
    × takes 7 (text "ab") fresh

abbrev pub AreTokenRowsRead : Type 0
AreTokenRowsRead = AreRepliesGiven × AreRefusedAtEnd × AreUnfitRefused × AreUnmetArmsMeant × AreTurnsCounted
