-- What is answered to words that are rejected.
use Rattle.std.proofs.Common.{◌≡◌, ◌⊎◌, ℕ, Bool, List, false, inl, inr, refl, subst, sym, true}
use Rattle.std.specs.Prelude.{◌↔◌, ◌≢◌, IsTrue}
use Rattle.std.specs.Bool.{MatchBool}
use Rattle.clap.specs.declared.error.kind.ErrorKind.{ErrorKind}
use Rattle.clap.specs.declared.error.kind.ErrorKind.TheVariants.{DisplayHelp, DisplayVersion, OutOfMemory}
use Rattle.figpliers.specs.Puts.{WriterView}
use Rattle.figpliers_program.specs.Jobs.{IsAnswered, IsHelped, IsOutOfMemory, IsPagesOutcome}
use Rattle.figpliers_program.specs.Outcome.{Stream}
use Rattle.figpliers_program.specs.Rejected.{IsRejected, IsRejectedBy, is_help}
use Rattle.figpliers_program.specs.declared.faults.Verdict.{Verdict}
use Rattle.figpliers_program.specs.declared.faults.Verdict.TheVariants.{Fault}
use Rattle.html_normal_program.specs.Program.{Files}

-- what goes to standard output is help
help-is : (kind : ErrorKind) (stderr : Bool) → IsTrue stderr ↔ ((kind ≢ DisplayHelp) × (kind ≢ DisplayVersion)) → stderr ≡ false
    → is_help kind ≡ true
help-is DisplayHelp stderr iff out = refl
help-is DisplayVersion stderr iff out = refl
help-is kind stderr iff out = let yes : stderr ≡ true = iff.1 ((λ e. cc), (λ e. cc)) in absurd cc

help-is-not : (kind : ErrorKind) (stderr : Bool) → IsTrue stderr ↔ ((kind ≢ DisplayHelp) × (kind ≢ DisplayVersion)) → stderr ≡ true
    → is_help kind ≡ false
help-is-not DisplayHelp stderr iff out = absurd ((iff.0 out).0 refl)
help-is-not DisplayVersion stderr iff out = absurd ((iff.0 out).1 refl)
help-is-not kind stderr iff out = refl

pub helped : (kind : ErrorKind) (stderr : Bool) (out out' : WriterView) (errors errors' : Stream) (verdict : Verdict)
    → IsTrue stderr ↔ ((kind ≢ DisplayHelp) × (kind ≢ DisplayVersion)) → stderr ≡ false → IsHelped out out' errors errors' verdict
    → IsAnswered kind out out' errors errors' verdict
helped kind stderr out out' errors errors' verdict iff is help =
    subst (λ b. MatchBool b (IsHelped out out' errors errors' verdict) ((verdict ≡ Fault) × (out' ≡ out)))
    (sym (help-is kind stderr iff is)) help

pub refused : (kind : ErrorKind) (stderr : Bool) (out : WriterView) (errors errors' : Stream)
    → IsTrue stderr ↔ ((kind ≢ DisplayHelp) × (kind ≢ DisplayVersion)) → stderr ≡ true → IsAnswered kind out out errors errors' Fault
refused kind stderr out errors errors' iff is =
    subst (λ b. MatchBool b (IsHelped out out errors errors' Fault) ((Fault ≡ Fault) × (out ≡ out)))
    (sym (help-is-not kind stderr iff is)) (refl, refl)

-- words that are rejected, where the program is not out of memory
pub rejected : (words : List (List ℕ)) (kind : ErrorKind) → (kind ≡ OutOfMemory → ⊥) → (kind ≡ OutOfMemory) ⊎ IsRejectedBy words kind
    → IsRejected words
rejected words kind other (inl is) = absurd (other is)
rejected words kind other (inr why) = (kind, why)

-- words that are rejected, and their answer
pub nothing-done : (words : List (List ℕ)) (kind : ErrorKind) (left : Stream) (out out' : WriterView) (errors errors' : Stream)
    (verdict : Verdict) (files : Files) → ((kind ≡ OutOfMemory) ⊎ IsRejectedBy words kind)
    → (IsOutOfMemory out out' errors errors' verdict ⊎ ((kind ≡ OutOfMemory → ⊥) × IsAnswered kind out out' errors errors' verdict))
    → IsPagesOutcome files words left left out out' errors errors' verdict
nothing-done words kind left out out' errors errors' verdict files why (inl none) = inl (refl, none)
nothing-done words kind left out out' errors errors' verdict files (inl is) (inr answer) = absurd (answer.0 is)
nothing-done words kind left out out' errors errors' verdict files (inr rejected) (inr answer) =
    inr (inl (refl, (kind, rejected, answer.1)))
