-- How errors are reported, and how verdicts are combined.
use Rattle.std.proofs.Common.{◌≡◌, ℕ, Bool, List, Option, refl}
use Rattle.html_normal_program.specs.Streams.{IsPut}
use Rattle.figpliers_program.specs.Verdicts.{IsReported, fault_line, verdict_of}
use Rattle.figpliers_program.specs.declared.faults.PageFault.{PageFault}
use Rattle.figpliers_program.specs.declared.faults.PageFault.TheVariants.{Memory, NotUtf8, Open, Read, Write}
use Rattle.figpliers_program.specs.declared.faults.Verdict.TheVariants.{Fault}

-- an error other than a failed write to standard output is reported by its line
pub reported-other : (name : List ℕ) (fault : PageFault) (errors errors' : Option (List ℕ)) (failed : Bool) → (fault ≡ Write → ⊥)
    → IsPut (fault_line name fault) errors errors' failed → IsReported name fault errors errors'
reported-other name Write errors errors' failed other put = absurd (other refl)
reported-other name (NotUtf8 at) errors errors' failed other put = (failed, put)
reported-other name (Open why) errors errors' failed other put = (failed, put)
reported-other name Read errors errors' failed other put = (failed, put)
reported-other name Memory errors errors' failed other put = (failed, put)

pub verdict-other : (fault : PageFault) → (fault ≡ Write → ⊥) → Fault ≡ verdict_of fault
verdict-other Write other = absurd (other refl)
verdict-other (NotUtf8 at) other = refl
verdict-other (Open why) other = refl
verdict-other Read other = refl
verdict-other Memory other = refl
