-- What the program does: what it reads of standard input, what it writes to standard output and to standard error, and its verdict.
use Rattle.std.specs.Prelude.{◌≡◌, ◌⊎◌, ◌∷◌, ℕ, List, [], Option, Result, Ok, Err}
use Rattle.figpliers.specs.Puts.{WriterView}
use Rattle.html_normal_program.specs.Program.{Files}
use Rattle.figpliers_program.specs.Reading.{IsNotRead, IsRead}
use Rattle.figpliers_program.specs.Verdicts.{IsReported, graver, verdict_of}
use Rattle.figpliers_program.specs.declared.faults.PageFault.{PageFault}
use Rattle.figpliers_program.specs.declared.faults.Verdict.{Verdict}
use Rattle.figpliers_program.specs.declared.faults.Verdict.TheVariants.{Unwritten}

abbrev pub Stream : Type 0
Stream = Option (List ℕ)

-- how a page ends: its verdict, and for an error its line on standard error
abbrev pub Ends : (name : List ℕ) → Result Verdict PageFault → (errors errors' : Stream) → Verdict → Type 0
Ends name (Ok done) errors errors' verdict = (verdict ≡ done) × (errors' ≡ errors)
Ends name (Err fault) errors errors' verdict = (verdict ≡ verdict_of fault) × IsReported name fault errors errors'

-- where not all was written, P, and else Q
abbrev pub IfUnwritten : Verdict → Type 0 → Type 0 → Type 0
IfUnwritten Unwritten P Q = P
IfUnwritten verdict P Q = Q

-- By the files, and by what is made of a page with a name and bytes.
module _ (files : Files) (IsMadeOf : (name bytes : List ℕ) → WriterView → Result Verdict PageFault → WriterView → Type 0) where
  -- the page of that name was not read, or it was, and this is what is made of it
  abbrev pub IsMade : (name : List ℕ) → (left left' : Stream) (out out' : WriterView) → Result Verdict PageFault → Type 0
  IsMade name left left' out out' result =
      ((fault : PageFault) × (result ≡ Err fault) × IsNotRead files name left left' fault × (out' ≡ out))
      ⊎ ((bytes : List ℕ) × IsRead files name left left' bytes × IsMadeOf name bytes out result out')

  -- the outcome of the page of that name
  abbrev pub IsPageDone : (name : List ℕ) → (left left' : Stream) (out out' : WriterView) (errors errors' : Stream) → Verdict → Type 0
  IsPageDone name left left' out out' errors errors' verdict = (result : Result Verdict PageFault)
      × IsMade name left left' out out' result × Ends name result errors errors' verdict

  -- The outcome of the pages of these names one after another, after those before them went so: no more is read after one that was not
  -- all written.
  abbrev pub AreDone : (names : List (List ℕ)) → Verdict
      → (left left' : Stream) (out out' : WriterView) (errors errors' : Stream) → Verdict → Type 0
  AreDone [] before left left' out out' errors errors' verdict = (verdict ≡ before) × (left' ≡ left) × (out' ≡ out) × (errors' ≡ errors)
  AreDone (name ∷ names) before left left' out out' errors errors' verdict =
      (next : Stream) × (mid : WriterView) × (between : Stream) × (one : Verdict)
      × IsPageDone name left next out mid errors between one
      × IfUnwritten (graver before one) ((verdict ≡ Unwritten) × (left' ≡ next) × (out' ≡ mid) × (errors' ≡ between))
      (AreDone names (graver before one) next left' mid out' between errors' verdict)
