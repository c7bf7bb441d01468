-- Page templates with a value in a hole.
use Rattle.std.proofs.Common.{◌≡◌, ◌∙◌, ℕ, Bool, true, List, ◌++◌, Some, refl, sym, ap, append_assoc, None}
use Rattle.markup.specs.Escape.{written_comment, written_doctype, written_instruction}
use Rattle.markup.specs.Trees.{Trees, Nothing, Text, Comment, ProcessingInstruction, Doctype, Element, Entry, end_of, entry_under}
use Rattle.markup.specs.Trees.{start_under, text_under, written}
use Rattle.html_rules.specs.State.{Answers}
use Rattle.html_rules.specs.declared.rules.Rules.{Rules}
use Rattle.html_tokens.specs.Laws.{ReadsEscapes}
use Rattle.html_tokens.specs.Table.{Row}
use Rattle.html_tokens.specs.declared.options.TokenizerOpts.{TokenizerOpts}
use Rattle.html_faithful.specs.Holes.{AfterComment, AfterDoctype, AfterElement, AfterText, AreAlike, Here, Hole, Holed, Within, filled}
use Rattle.html_faithful.specs.Holes.{hole_of}
use Rattle.html_faithful.specs.Holes.{joined}
use Rattle.html_faithful.specs.Walk.{is_faithful_by}
use Rattle.html_faithful.proofs.Holes.{documents-filled}
use Rattle.html_faithful_documents.specs.Documents.{IsReadBack}
use Rattle.html_faithful_documents.specs.Pages.{entry_of, text_before, text_behind}
use Rattle.html_faithful_documents.proofs.Documents.{trees-read_back}

pub pages-read_back : (rows : List Row) → ReadsEscapes rows → (opts : TokenizerOpts) → opts.initial_state ≡ None
    → (rules : Rules) (answers : Answers) (scripting : Bool) (page : Holed) (hole : Hole) (sample value : Trees)
    → hole_of rules scripting page ≡ Some hole → is_faithful_by rules scripting (filled page sample) ≡ true → AreAlike scripting hole sample value
    → IsReadBack rows opts rules answers scripting (filled page value)
pages-read_back rows reads opts initial rules answers scripting page hole sample value at judged alike =
    trees-read_back rows reads opts initial rules answers scripting (filled page value)
    (sym (documents-filled scripting hole sample value alike rules page at) ∙ judged)

-- THE TEXT

-- what is written before other text
prefixed : (a b c : List ℕ) {d : List ℕ} → d ≡ b ++ c → a ++ d ≡ (a ++ b) ++ c
prefixed a b c e = ap (λ (x : List ℕ). a ++ x) e ∙ sym (append_assoc a b c)

written-joined : (scripting : Bool) (under : Entry) (value behind : Trees)
    → written scripting under (joined value behind) ≡ written scripting under value ++ written scripting under behind
unfolding written
written-joined scripting under Nothing behind = refl
written-joined scripting under (Text text rest) behind =
    prefixed (text_under under text) (written scripting under rest) (written scripting under behind)
    (written-joined scripting under rest behind)
written-joined scripting under (Comment text rest) behind =
    prefixed (written_comment text) (written scripting under rest) (written scripting under behind)
    (written-joined scripting under rest behind)
written-joined scripting under (ProcessingInstruction target text rest) behind =
    prefixed (written_instruction target text) (written scripting under rest) (written scripting under behind)
    (written-joined scripting under rest behind)
written-joined scripting under (Doctype name public_id system_id rest) behind =
    prefixed (written_doctype name) (written scripting under rest) (written scripting under behind)
    (written-joined scripting under rest behind)
written-joined scripting under (Element name attributes template kids rest) behind =
    let own = entry_under scripting under name in
    let start = start_under under name attributes in
    let inner = written scripting own kids in
    let end = end_of own name in
    let after = written scripting under rest in
    let last = written scripting under behind in
    prefixed start (inner ++ (end ++ after)) last
    (prefixed inner (end ++ after) last (prefixed end after last (written-joined scripting under rest behind)))

-- a part behind the hole
between : (a b c d : List ℕ) → (a ++ (b ++ c)) ++ d ≡ a ++ (b ++ (c ++ d))
between a b c d = append_assoc a (b ++ c) d ∙ ap (λ (x : List ℕ). a ++ x) (append_assoc b c d)

pub pages-written : (scripting : Bool) (under : Entry) (page : Holed) (value : Trees)
    → written scripting under (filled page value)
    ≡ text_before scripting under page ++ (written scripting (entry_of scripting under page) value ++ text_behind scripting under page)
unfolding written
pages-written scripting under (Here behind) value = written-joined scripting under value behind
pages-written scripting under (Within name attributes template hole behind) value =
    let own = entry_under scripting under name in
    let start = start_under under name attributes in
    let front = text_before scripting own hole in
    let inner = written scripting (entry_of scripting own hole) value in
    let back = text_behind scripting own hole in
    let last = end_of own name ++ written scripting under behind in
    prefixed start front (inner ++ (back ++ last))
    (ap (λ (x : List ℕ). x ++ last) (pages-written scripting own hole value) ∙ between front inner back last)
pages-written scripting under (AfterText text hole) value =
    prefixed (text_under under text) (text_before scripting under hole)
    (written scripting (entry_of scripting under hole) value ++ text_behind scripting under hole) (pages-written scripting under hole value)
pages-written scripting under (AfterComment text hole) value =
    prefixed (written_comment text) (text_before scripting under hole)
    (written scripting (entry_of scripting under hole) value ++ text_behind scripting under hole) (pages-written scripting under hole value)
pages-written scripting under (AfterDoctype name public_id system_id hole) value =
    prefixed (written_doctype name) (text_before scripting under hole)
    (written scripting (entry_of scripting under hole) value ++ text_behind scripting under hole) (pages-written scripting under hole value)
pages-written scripting under (AfterElement name attributes template kids hole) value =
    let own = entry_under scripting under name in
    let start = start_under under name attributes in
    let inner = written scripting own kids in
    let end = end_of own name in
    let front = text_before scripting under hole in
    let last = written scripting (entry_of scripting under hole) value ++ text_behind scripting under hole in
    prefixed start (inner ++ (end ++ front)) last
    (prefixed inner (end ++ front) last (prefixed end front last (pages-written scripting under hole value)))
