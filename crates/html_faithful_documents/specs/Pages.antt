-- Page templates: what is written of a page with a value in a hole, and that it is read back.
use Rattle.std.specs.Prelude.{◌≡◌, ℕ, Bool, true, List, [], ◌++◌, Some, None}
use Rattle.markup.specs.Escape.{written_comment, written_doctype}
use Rattle.markup.specs.Trees.{Trees, Entry, default_entry, end_of, entry_under, start_under, text_under, written}
use Rattle.html_rules.specs.State.{Answers}
use Rattle.html_rules.specs.declared.rules.Rules.{Rules}
use Rattle.html_tokens.specs.Laws.{ReadsEscapes}
use Rattle.html_tokens.specs.Table.{Row}
use Rattle.html_tokens.specs.declared.options.TokenizerOpts.{TokenizerOpts}
use Rattle.html_faithful.specs.Holes.{AfterComment, AfterDoctype, AfterElement, AfterText, AreAlike, Here, Hole, Holed, Within, filled}
use Rattle.html_faithful.specs.Holes.{hole_of}
use Rattle.html_faithful.specs.Walk.{is_faithful_by}
use Rattle.html_faithful_documents.specs.Documents.{IsReadBack, text_of}

-- A page template is judged once, with a sample in its hole. Then, with any value that is like the sample, what is written of the page
-- is read as just that page.
abbrev pub AreFilledPagesReadBack : Type 0
AreFilledPagesReadBack = (rows : List Row) → ReadsEscapes rows → (opts : TokenizerOpts) → opts.initial_state ≡ None
    → (rules : Rules) (answers : Answers) (scripting : Bool) (page : Holed) (hole : Hole) (sample value : Trees)
    → hole_of rules scripting page ≡ Some hole → is_faithful_by rules scripting (filled page sample) ≡ true → AreAlike scripting hole sample value
    → IsReadBack rows opts rules answers scripting (filled page value)

-- THE TEXT OF A PAGE

-- what is written before the hole, where the trees stand under an element with that entry
abbrev pub text_before : Bool → Entry → Holed → List ℕ
text_before scripting under (Here behind) = []
text_before scripting under (Within name attributes template hole behind) =
    start_under under name attributes ++ text_before scripting (entry_under scripting under name) hole
text_before scripting under (AfterText text hole) = text_under under text ++ text_before scripting under hole
text_before scripting under (AfterComment text hole) = written_comment text ++ text_before scripting under hole
text_before scripting under (AfterDoctype name public_id system_id hole) = written_doctype name ++ text_before scripting under hole
text_before scripting under (AfterElement name attributes template kids hole) =
    start_under under name attributes ++ (written scripting (entry_under scripting under name) kids
    ++ (end_of (entry_under scripting under name) name ++ text_before scripting under hole))

-- and behind it
abbrev pub text_behind : Bool → Entry → Holed → List ℕ
text_behind scripting under (Here behind) = written scripting under behind
text_behind scripting under (Within name attributes template hole behind) =
    text_behind scripting (entry_under scripting under name) hole
    ++ (end_of (entry_under scripting under name) name ++ written scripting under behind)
text_behind scripting under (AfterText text hole) = text_behind scripting under hole
text_behind scripting under (AfterComment text hole) = text_behind scripting under hole
text_behind scripting under (AfterDoctype name public_id system_id hole) = text_behind scripting under hole
text_behind scripting under (AfterElement name attributes template kids hole) = text_behind scripting under hole

-- the entry of the element that the hole is in: whether text is written as it is, or escaped
abbrev pub entry_of : Bool → Entry → Holed → Entry
entry_of scripting under (Here behind) = under
entry_of scripting under (Within name attributes template hole behind) = entry_of scripting (entry_under scripting under name) hole
entry_of scripting under (AfterText text hole) = entry_of scripting under hole
entry_of scripting under (AfterComment text hole) = entry_of scripting under hole
entry_of scripting under (AfterDoctype name public_id system_id hole) = entry_of scripting under hole
entry_of scripting under (AfterElement name attributes template kids hole) = entry_of scripting under hole

-- So a template engine writes what stands before the hole, then what is written of the value, then what stands behind it.
abbrev pub AreFilledPagesWritten : Type 0
AreFilledPagesWritten = (scripting : Bool) (page : Holed) (value : Trees)
    → text_of scripting (filled page value)
    ≡ text_before scripting default_entry page ++ (written scripting (entry_of scripting default_entry page) value
    ++ text_behind scripting default_entry page)
