-- The policy of a file that was read to its end.
use Rattle.std.proofs.Common.{◌≡◌, ◌∙◌, ℕ, List, IsUtf8, Option, Some, ap, subst, sym}
use Rattle.std.specs.Io.KnownBytes.{IsAtEnd, prepend_known}
use Rattle.std.specs.Prelude.{Ok}
use Rattle.std.specs.Str.{chars}
use Rattle.html_input.proofs.Whole.{all-read}
use Rattle.html_policy_text.specs.PolicyFile.{IsPolicyFile, IsPolicyFileFault, line_fault_of}
use Rattle.html_policy_text.specs.PolicyText.{AreLinesRefused, policy_rules}
use Rattle.html_policy_text.specs.Rules.{Rules}
use Rattle.html_policy_text.specs.declared.reading.PolicyFault.{PolicyFault}
use Rattle.html_policy_text.specs.declared.reading.PolicyFault.TheVariants as policy

-- a file whose text says rules
pub policy-file : (rules : Rules) (old new : Option (List ℕ)) (bytes : List ℕ) → old ≡ prepend_known bytes new → IsAtEnd new
    → IsUtf8 bytes → policy_rules (chars bytes) ≡ Ok rules → (whole : List ℕ) → old ≡ Some whole → IsPolicyFile whole new rules
policy-file rules old new bytes moved end text says whole known =
    let all = all-read old new bytes whole moved end known in
    record {
      text = subst IsUtf8 all.same text;
      taken = all.taken;
      says = ap (λ bs. policy_rules (chars bs)) (sym all.same) ∙ says;
    }

-- a file with a line that is refused
pub refused-line : (fault : PolicyFault) (old new : Option (List ℕ)) (bytes : List ℕ) → old ≡ prepend_known bytes new → IsAtEnd new
    → IsUtf8 bytes → AreLinesRefused (policy_rules (chars bytes)) fault → IsPolicyFileFault old new (line_fault_of fault)
refused-line policy.Memory old new bytes moved end text refused = tt
refused-line (policy.Line number problem) old new bytes moved end text refused = λ whole known.
    let all = all-read old new bytes whole moved end known in
    record { text = subst IsUtf8 all.same text; refused = ap (λ bs. policy_rules (chars bs)) (sym all.same) ∙ refused }
