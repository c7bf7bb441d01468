-- What is made of a page, from what was made of its text or of its document.
use Rattle.std.proofs.Common.{◌≡◌, ◌∙◌, Bool, List, inr, map, subst, sym, ℕ}
use Rattle.std.proofs.lemmas.List.{length-map}
use Rattle.std.specs.Prelude.{Ok, Result}
use Rattle.std.specs.Str.{chars}
use Rattle.html_listings.specs.Selected.{selected_in, selected_text}
use Rattle.html_listings.specs.declared.selected.Show.{Show}
use Rattle.html_selector_text.specs.Grammar.{parsed}
use Rattle.html_selector_text.specs.Trees.{list_tree}
use Rattle.selectors.specs.declared.selector.Selectors.{Selectors}
use Rattle.std.proofs.Common.{length}
use Rattle.figpliers.specs.Forest.{Forest}
use Rattle.html_places.specs.declared.noted.NotedForest.{NotedForest}
use Rattle.figpliers.specs.Puts.{WriterView}
use Rattle.figpliers.specs.Table.{Row}
use Rattle.figpliers_program.specs.Jobs.{IsMadeOf, IsWritten, has_several}
use Rattle.figpliers_program.specs.Pages.{DocumentText, ErrorsText, NotedText, PageText, SelectedText, note_of, verdict_on}
use Rattle.figpliers_program.specs.Printing.{PrintsSome}
use Rattle.figpliers_program.specs.Reading.{IsDocumentOf, IsNotedOf, IsTextOf}
use Rattle.figpliers_program.specs.declared.command.Asked.{Asked}
use Rattle.figpliers_program.specs.declared.command.DocumentJob.{DocumentJob}
use Rattle.figpliers_program.specs.declared.command.Job.{Job}
use Rattle.figpliers_program.specs.declared.command.Job.TheVariants.{OfDocument, OfErrors}
use Rattle.figpliers_program.specs.declared.faults.PageFault.{PageFault}
use Rattle.figpliers_program.specs.declared.faults.Verdict.{Verdict}
use Rattle.figpliers_program.proofs.Printing.{prints-as}

-- with a copy of the table
pub made-of-document : (table copied : List Row) (asked : Asked) (job : DocumentJob) (several : Bool) (name bytes : List ℕ)
    (document : Forest) (old new : WriterView) (result : Result Verdict PageFault) → copied ≡ table → asked.job ≡ OfDocument job
    → several ≡ has_several asked → IsDocumentOf copied asked.reading bytes document
    → PrintsSome (DocumentText job several name document) old result new
    → IsMadeOf table asked name bytes old result new
made-of-document table copied asked job several name bytes document old new result table_is job_is several_is (page, text, is) prints =
    let of_page : PrintsSome (PageText copied job several name page) old result new =
    prints-as (DocumentText job several name document) (PageText copied job several name page) old new result
    (λ out verdict made. (document, is, made)) prints in
    inr (
      page,
      subst (λ (t : List Row). IsTextOf t asked.reading bytes page) table_is text,
      subst (λ (j : Job). IsWritten table j (has_several asked) name page old result new) (sym job_is)
          (subst (λ (s : Bool). PrintsSome (PageText table job s name page) old result new) several_is
          (subst (λ (t : List Row). PrintsSome (PageText t job several name page) old result new) table_is of_page)),
    )

-- of a document with its errors
pub made-of-errors : (table copied : List Row) (asked : Asked) (name bytes : List ℕ) (noted : NotedForest) (old new : WriterView)
    (result : Result Verdict PageFault) → copied ≡ table → asked.job ≡ OfErrors → IsNotedOf copied asked.reading bytes noted
    → length noted.errors.items ≡ noted.forest.errors → PrintsSome (NotedText name noted) old result new
    → IsMadeOf table asked name bytes old result new
made-of-errors table copied asked name bytes noted old new result table_is job_is (page, text, is) all prints =
    let of_page : PrintsSome (ErrorsText copied name page) old result new =
    prints-as (NotedText name noted) (ErrorsText copied name page) old new result
    (λ out verdict made. record {
      document = noted.forest;
      is_page = is;
      errors = map note_of noted.errors.items;
      each = length-map noted.errors.items note_of ∙ all;
      written = made.0;
      done = made.1;
    }) prints in
    inr (
      page,
      subst (λ (t : List Row). IsTextOf t asked.reading bytes page) table_is text,
      subst (λ (j : Job). IsWritten table j (has_several asked) name page old result new) (sym job_is)
          (subst (λ (t : List Row). PrintsSome (ErrorsText t name page) old result new) table_is of_page),
    )

-- the elements that the selectors of a text select
pub selected : (selector : List ℕ) (show : Show) (name : List ℕ) (several : Bool) (document : Forest) (selectors : Selectors)
    (old new : WriterView) (result : Result Verdict PageFault) → parsed (chars selector) ≡ Ok (list_tree selectors)
    → PrintsSome (λ text verdict. (text ≡ selected_text show selectors document name several)
    × (verdict ≡ verdict_on (length (selected_in selectors document)))) old result new
    → PrintsSome (SelectedText selector show name several document) old result new
selected selector show name several document selectors old new result is prints =
    prints-as _ (SelectedText selector show name several document) old new result
    (λ text verdict made. record { selectors = selectors; is_parsed = is; written = made.0; done = made.1 }) prints
