-- The policy and the bounds of a file that was read to its end.
use Rattle.std.proofs.Common.{◌≡◌, ◌∙◌, ℕ, List, IsUtf8, Option, Some, ap, subst, sym}
use Rattle.std.specs.Io.KnownBytes.{IsAtEnd, prepend_known}
use Rattle.std.specs.Prelude.{Ok}
use Rattle.std.specs.Str.{chars}
use Rattle.html_input.proofs.Whole.{all-read}
use Rattle.html_policy_text.specs.Bounded.{AreRefused, BoundedRules, IsBoundedFile, IsBoundedFileFault, bounded_rules}
use Rattle.html_policy_text.specs.PolicyFile.{line_fault_of}
use Rattle.html_policy_text.specs.declared.reading.PolicyFault.{PolicyFault}
use Rattle.html_policy_text.specs.declared.reading.PolicyFault.TheVariants as policy

-- a file whose text says rules and bounds
pub bounded-file : (b : BoundedRules) (old new : Option (List ℕ)) (bytes : List ℕ) → old ≡ prepend_known bytes new → IsAtEnd new
    → IsUtf8 bytes → bounded_rules (chars bytes) ≡ Ok b → (whole : List ℕ) → old ≡ Some whole → IsBoundedFile whole new b
bounded-file b old new bytes moved end text says whole known =
    let all = all-read old new bytes whole moved end known in
    record {
      text = subst IsUtf8 all.same text;
      taken = all.taken;
      says = ap (λ bs. bounded_rules (chars bs)) (sym all.same) ∙ says;
    }

-- a file with a line that is refused
pub bound-refused : (fault : PolicyFault) (old new : Option (List ℕ)) (bytes : List ℕ) → old ≡ prepend_known bytes new → IsAtEnd new
    → IsUtf8 bytes → AreRefused (bounded_rules (chars bytes)) fault → IsBoundedFileFault old new (line_fault_of fault)
bound-refused policy.Memory old new bytes moved end text refused = tt
bound-refused (policy.Line number problem) old new bytes moved end text refused = λ whole known.
    let all = all-read old new bytes whole moved end known in
    record { text = subst IsUtf8 all.same text; refused = ap (λ bs. bounded_rules (chars bs)) (sym all.same) ∙ refused }
