-- A policy in a file.
use Rattle.std.specs.Prelude.{◌≡◌, ℕ, List, [], IsUtf8, Option, Some, Ok, Err}
use Rattle.std.specs.Str.{chars}
use Rattle.html_input.specs.Reading.{HasBegun, ShowsNotUtf8}
use Rattle.html_input.specs.declared.fault.TextFault.{TextFault}
use Rattle.html_input.specs.declared.fault.TextFault.TheVariants as text
use Rattle.html_policy_text.specs.PolicyText.{policy_rules}
use Rattle.html_policy_text.specs.Rules.{Rules}
use Rattle.html_policy_text.specs.declared.file.PolicyFileFault.{PolicyFileFault}
use Rattle.html_policy_text.specs.declared.file.PolicyFileFault.TheVariants.{NotUtf8, Read, Line, Memory}
use Rattle.html_policy_text.specs.declared.reading.PolicyFault.{PolicyFault}
use Rattle.html_policy_text.specs.declared.reading.PolicyFault.TheVariants as policy
use Rattle.html_policy_text.specs.declared.rules.Problem.{Problem}

-- A file is UTF-8 and was read to its end, and its text says these rules.
pub record IsPolicyFile (whole : List ℕ) (left : Option (List ℕ)) (rules : Rules) : Type 0 where
  pub text : IsUtf8 whole
  pub taken : left ≡ Some []
  pub says : policy_rules (chars whole) ≡ Ok rules

-- A file is UTF-8, and this is the number of the first of its lines that is refused, and why it is.
pub record HasRefusedLine (whole : List ℕ) (number : ℕ) (problem : Problem) : Type 0 where
  pub text : IsUtf8 whole
  pub refused : policy_rules (chars whole) ≡ Err (number, problem)

-- What a fault says of the bytes of a file that were left before and are left after its reading.
abbrev pub IsPolicyFileFault : (old new : Option (List ℕ)) → PolicyFileFault → Type 0
IsPolicyFileFault old new (NotUtf8 at) = (whole left : List ℕ) → old ≡ Some whole → new ≡ Some left → ShowsNotUtf8 whole left at
IsPolicyFileFault old new Read = (whole left : List ℕ) → old ≡ Some whole → new ≡ Some left → HasBegun whole left
IsPolicyFileFault old new (Line number problem) = (whole : List ℕ) → old ≡ Some whole → HasRefusedLine whole number problem
IsPolicyFileFault old new Memory = Unit {0}

abbrev pub text_fault_of : TextFault → PolicyFileFault
text_fault_of (text.NotUtf8 at) = NotUtf8 at
text_fault_of text.Read = Read
text_fault_of text.Memory = Memory

abbrev pub line_fault_of : PolicyFault → PolicyFileFault
line_fault_of policy.Memory = Memory
line_fault_of (policy.Line number problem) = Line number problem
