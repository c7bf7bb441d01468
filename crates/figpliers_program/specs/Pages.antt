-- What each command writes of a page, and the verdict.
use Rattle.std.specs.Prelude.{◌≡◌, ◌++◌, ◌∷◌, ◌==◌, false, true, ℕ, Bool, List, [], Ok, codes, length, map, if◌then◌else◌}
use Rattle.std.specs.Cow.{cow_str_bytes}
use Rattle.std.specs.Fmt.{decimal}
use Rattle.std.specs.List.{ends_with}
use Rattle.std.specs.Str.{chars}
use Rattle.std.specs.String.{string_bytes}
use Rattle.selectors.specs.declared.selector.Selectors.{Selectors}
use Rattle.html_selector_text.specs.Grammar.{parsed}
use Rattle.html_selector_text.specs.Trees.{list_tree}
use Rattle.html_places.specs.declared.noted.Noted.{Noted}
use Rattle.html_places.specs.declared.noted.NotedForest.{NotedForest}
use Rattle.html_places.specs.declared.place.Place.{Place}
use Rattle.html_listings.specs.Listings.{links_text}
use Rattle.html_listings.specs.Selected.{selected_in, selected_text}
use Rattle.html_listings.specs.declared.selected.Show.{Show}
use Rattle.figpliers.specs.Document.{document_bytes}
use Rattle.figpliers.specs.Forest.{Forest, children_of}
use Rattle.figpliers.specs.InnerText.{IsInnerText}
use Rattle.figpliers.specs.Lines.{tree_lines}
use Rattle.figpliers.specs.Pages.{IsFragment, IsPage, html_name}
use Rattle.figpliers.specs.Table.{Row}
use Rattle.figpliers_program.specs.declared.command.DocumentJob.{DocumentJob}
use Rattle.figpliers_program.specs.declared.command.DocumentJob.TheVariants.{Check, Links, Markdown, Normal, Select, Text, Tree}
use Rattle.figpliers_program.specs.Checking.{CheckText}
use Rattle.figpliers_program.specs.declared.faults.Verdict.{Verdict}
use Rattle.figpliers_program.specs.declared.faults.Verdict.TheVariants.{Errors, Fine, Nothing}

-- OF A DOCUMENT

-- a text, and a line feed after it unless it ends with one
abbrev pub ended : List ℕ → List ℕ
ended text = if ends_with (λ a b. a == b) text (10 ∷ []) then text else text ++ 10 ∷ []

-- `text`: the rendered text
pub record RenderedText (document : Forest) (text : List ℕ) (verdict : Verdict) : Type 0 where
  pub rendered : List ℕ
  pub is_rendered : IsInnerText document 0 (chars rendered)
  pub written : text ≡ ended rendered
  pub done : verdict ≡ Fine

-- the verdict of a page in which so many elements were selected
abbrev pub verdict_on : ℕ → Verdict
verdict_on count = if count == 0 then Nothing else Fine

-- `select`: what is asked for of the elements that the selectors of a text select
pub record SelectedText (selector : List ℕ) (show : Show) (name : List ℕ) (several : Bool) (document : Forest) (text : List ℕ)
    (verdict : Verdict) : Type 0 where
  pub selectors : Selectors
  pub is_parsed : parsed (chars selector) ≡ Ok (list_tree selectors)
  pub written : text ≡ selected_text show selectors document name several
  pub done : verdict ≡ verdict_on (length (selected_in selectors document))

-- What a command writes of the document of a page that has a name; `several` is whether there are several pages. Of Markdown only that it
-- is some text.
abbrev pub DocumentText : DocumentJob → (several : Bool) → (name : List ℕ) → Forest → (text : List ℕ) → Verdict → Type 0
DocumentText Tree several name document text verdict = (text ≡ tree_lines document 0) × (verdict ≡ Fine)
DocumentText Text several name document text verdict = RenderedText document text verdict
DocumentText Markdown several name document text verdict = verdict ≡ Fine
DocumentText Check several name document text verdict = CheckText name document text verdict
DocumentText Normal several name document text verdict = (text ≡ document_bytes document) × (verdict ≡ Fine)
DocumentText (Links listing) several name document text verdict = (text ≡ links_text listing document name several) × (verdict ≡ Fine)
DocumentText (Select selector show) several name document text verdict =
    SelectedText (string_bytes selector) show name several document text verdict

-- of the page of a text
abbrev pub PageText : List Row → DocumentJob → (several : Bool) → (name page : List ℕ) → (text : List ℕ) → Verdict → Type 0
PageText table asked several name page text verdict =
    (document : Forest) × IsPage table false page document × DocumentText asked several name document text verdict

-- OF A TEXT

-- the node in which the nodes of a fragment stand: the first one in the document
abbrev pub top_of : List ℕ → ℕ
top_of [] = 0
top_of (node ∷ nodes) = node

-- `tree --fragment`: the lines of what the page makes in an element of that name
pub record FragmentText (table : List Row) (element page text : List ℕ) (verdict : Verdict) : Type 0 where
  pub document : Forest
  pub is_fragment : IsFragment table (html_name (chars element)) (chars page) document
  pub written : text ≡ tree_lines document (top_of (children_of document 0))
  pub done : verdict ≡ Fine

-- a parse error as its place and its words
abbrev pub note_of : Noted → Place × List ℕ
note_of error = (error.place, cow_str_bytes error.message)

-- the line and the column of a place
abbrev pub place_words : Place → List ℕ
place_words place = decimal place.line ++ (codes ":" ++ decimal place.column)

-- the lines of parse errors
abbrev pub error_line : List ℕ → Place × List ℕ → List ℕ
error_line name error = name ++ codes ":" ++ place_words error.0 ++ codes ": " ++ error.1 ++ 10 ∷ []

abbrev pub error_lines : List ℕ → List (Place × List ℕ) → List ℕ
error_lines name [] = []
error_lines name (error ∷ errors) = error_line name error ++ error_lines name errors

-- `errors`: a line for each parse error that is counted
pub record ErrorsText (table : List Row) (name page text : List ℕ) (verdict : Verdict) : Type 0 where
  pub document : Forest
  pub is_page : IsPage table true page document
  pub errors : List (Place × List ℕ)
  pub each : length errors ≡ document.errors
  pub written : text ≡ error_lines name errors
  pub done : verdict ≡ (if document.errors == 0 then Fine else Errors)

-- the lines of the errors that a forest has kept
abbrev pub NotedText : (name : List ℕ) → NotedForest → (text : List ℕ) → Verdict → Type 0
NotedText name noted text verdict = (text ≡ error_lines name (map note_of noted.errors.items))
    × (verdict ≡ (if noted.forest.errors == 0 then Fine else Errors))
