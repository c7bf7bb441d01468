-- Pages one after another.
use Rattle.std.proofs.Common.{◌≡◌, ◌∙◌, ◌+◌, ◌<◌, ℕ, List, drop, get_or, inl, length, map, refl, subst, sym}
use Rattle.std.proofs.lemmas.List.{drop_more}
use Rattle.std.specs.Prelude.{Result}
use Rattle.figpliers.specs.Puts.{WriterView}
use Rattle.html_normal_program.specs.Program.{Files}
use Rattle.figpliers_program.specs.Jobs.{IsRefused, ReportsNoMemory}
use Rattle.figpliers_program.specs.Outcome.{AreDone, IfUnwritten, IsPageDone, Stream}
use Rattle.figpliers_program.specs.Verdicts.{graver}
use Rattle.figpliers_program.specs.declared.command.DocumentJob.TheVariants.{Check, Links, Markdown, Normal, Select, Text, Tree}
use Rattle.figpliers_program.specs.declared.command.Job.{Job}
use Rattle.figpliers_program.specs.declared.command.Job.TheVariants.{OfDocument, OfErrors, OfFragment}
use Rattle.figpliers_program.specs.declared.faults.PageFault.{PageFault}
use Rattle.figpliers_program.specs.declared.faults.Verdict.{Verdict}
use Rattle.figpliers_program.specs.declared.faults.Verdict.TheVariants.{Errors, Fault, Fine, Nothing, Unwritten}

pub if-other : (verdict : Verdict) (P Q : Type 0) → (verdict ≡ Unwritten → ⊥) → Q → IfUnwritten verdict P Q
if-other Unwritten P Q other q = absurd (other refl)
if-other Nothing P Q other q = q
if-other Fine P Q other q = q
if-other Errors P Q other q = q
if-other Fault P Q other q = q

pub if-so : (verdict : Verdict) (P Q : Type 0) → verdict ≡ Unwritten → P → IfUnwritten verdict P Q
if-so verdict P Q is p = subst (λ v. IfUnwritten v P Q) (sym is) p

-- one page more, and those after it
pub goes-on : {X : Type 0} (files : Files)
    (IsMadeOf : (name page : List ℕ) → WriterView → Result Verdict PageFault → WriterView → Type 0)
    (f : X → List ℕ) (items : List X) (i : ℕ) (d : X) (name : List ℕ) (before one after : Verdict) (left next left' : Stream)
    (out mid out' : WriterView) (errors between errors' : Stream) (verdict : Verdict) → i < length items → name ≡ f (get_or items i d)
    → IsPageDone files IsMadeOf name left next out mid errors between one → after ≡ graver before one → (after ≡ Unwritten → ⊥)
    → AreDone files IsMadeOf (map f (drop (i + 1) items)) after next left' mid out' between errors' verdict
    → AreDone files IsMadeOf (map f (drop i items)) before left left' out out' errors errors' verdict
goes-on files IsMadeOf f items i d name before one after left next left' out mid out' errors between errors' verdict
    inside is page gives other rest =
    rw (drop_more items i d inside) (
      next,
      mid,
      between,
      one,
      rw is at page,
      if-other (graver before one) _ _ (λ e. other (gives ∙ e)) (rw gives at rest),
    )

-- one page more that was not all written
pub stops : {X : Type 0} (files : Files)
    (IsMadeOf : (name page : List ℕ) → WriterView → Result Verdict PageFault → WriterView → Type 0)
    (f : X → List ℕ) (items : List X) (i : ℕ) (d : X) (name : List ℕ) (before one after : Verdict) (left next : Stream)
    (out mid : WriterView) (errors between : Stream) → i < length items → name ≡ f (get_or items i d)
    → IsPageDone files IsMadeOf name left next out mid errors between one → after ≡ graver before one → after ≡ Unwritten
    → AreDone files IsMadeOf (map f (drop i items)) before left next out mid errors between Unwritten
stops files IsMadeOf f items i d name before one after left next out mid errors between inside is page gives unwritten =
    rw (drop_more items i d inside) (
      next,
      mid,
      between,
      one,
      rw is at page,
      if-so (graver before one) _ _ (sym gives ∙ unwritten) (refl, refl, refl, refl),
    )

-- out of memory is a refusal of every command
pub refused : (job : Job) (errors errors' : Stream) → ReportsNoMemory errors errors' → IsRefused job errors errors'
refused OfErrors errors errors' line = line
refused (OfFragment element) errors errors' line = line
refused (OfDocument (Select selector show)) errors errors' line = inl line
refused (OfDocument Tree) errors errors' line = line
refused (OfDocument Text) errors errors' line = line
refused (OfDocument Check) errors errors' line = line
refused (OfDocument Normal) errors errors' line = line
refused (OfDocument Markdown) errors errors' line = line
refused (OfDocument (Links listing)) errors errors' line = line
