-- The lines on standard error.
use Rattle.std.specs.Prelude.{◌≡◌, ℕ, Bool, true, false, List, [], ◌∷◌, ◌++◌, Option, codes, encode_utf8_all}
use Rattle.std.specs.Bool.{MatchBool}
use Rattle.std.specs.Fmt.{decimal}
use Rattle.html_clean.specs.declared.counts.Cleaned.{Cleaned}
use Rattle.html_normal.specs.Lines.{fault_line, table_line}
use Rattle.html_normal.specs.declared.fault.NormalFault.{NormalFault}
use Rattle.html_normal.specs.declared.fault.NormalFault.TheVariants.{Memory, NotUtf8, Read, Refused, Write}
use Rattle.html_normal_program.specs.Streams.{IsPut}
use Rattle.html_policy_text.specs.declared.file.PolicyFileFault.{PolicyFileFault}
use Rattle.html_policy_text.specs.declared.file.PolicyFileFault.TheVariants as file
use Rattle.html_policy_text.specs.declared.rules.Problem.{Problem}
use Rattle.html_policy_text.specs.declared.rules.Problem.TheVariants.{UnknownRule, WrongNumber, WrongWords}
use Rattle.html_clean_program.specs.declared.fault.CleanFault.{CleanFault}
use Rattle.html_clean_program.specs.declared.fault.CleanFault.TheVariants.{NeverKept, Normal, Page, Policy, Table, Usage}

-- how many elements were taken away of a page, and how many attributes and comments
abbrev pub elements_words : Cleaned → List ℕ
elements_words counts = (codes "unwrapped=" ++ decimal counts.unwrapped) ++ (codes " dropped=" ++ decimal counts.dropped)

abbrev pub others_words : Cleaned → List ℕ
others_words counts = (codes " attributes=" ++ decimal counts.attributes) ++ (codes " comments=" ++ decimal counts.comments)

abbrev pub counts_words : Cleaned → List ℕ
counts_words counts = elements_words counts ++ others_words counts

-- the name of a page, or - of the one on standard input, and what stands after it
abbrev pub front : List ℕ → List ℕ
front name = name ++ codes ": "

abbrev pub counts_line : List ℕ → Cleaned → List ℕ
counts_line name counts = front name ++ counts_words counts

-- why a page was not cleaned
abbrev pub page_fault_words : NormalFault → List ℕ
page_fault_words (NotUtf8 at) = codes "not UTF-8 at byte " ++ decimal at
page_fault_words Read = codes "cannot be read"
page_fault_words Write = codes "standard output cannot be written"
page_fault_words Memory = codes "no memory was left"
page_fault_words Refused = codes "refused"

abbrev pub page_line : List ℕ → NormalFault → List ℕ
page_line name fault = front name ++ page_fault_words fault

abbrev pub problem_words : Problem → List ℕ
problem_words UnknownRule = codes ": no rule begins with this word"
problem_words WrongWords = codes ": the rule takes fewer words, or more"
problem_words WrongNumber = codes ": a word is not a number in digits"

-- a line of a file, as `policy:3`
abbrev pub place_words : List ℕ → ℕ → List ℕ
place_words name line = encode_utf8_all name ++ (codes ":" ++ decimal line)

-- why the file of that name has no policy
abbrev pub policy_words : List ℕ → PolicyFileFault → List ℕ
policy_words name (file.NotUtf8 at) = encode_utf8_all name ++ (codes ": not UTF-8 at byte " ++ decimal at)
policy_words name file.Read = encode_utf8_all name ++ codes ": cannot be read"
policy_words name (file.Line line problem) = place_words name line ++ problem_words problem
policy_words name file.Memory = codes "fault: memory"

-- why nothing was cleaned, or not all
abbrev pub fault_words : CleanFault → List ℕ
fault_words Usage = codes "fault: usage: figpliers clean [--policy FILE] [--document] [--element NAME[:ATTRIBUTE,..]] [--attribute NAME] [--beginning TEXT] [--add ELEMENT:NAME=VALUE] [--scheme NAME] [--table FILE] [-o FILE] [FILE].. | --print-policy NAME"
fault_words (NeverKept word) = codes "fault: never kept: " ++ encode_utf8_all word
fault_words (Policy name fault) = policy_words name fault
fault_words (Table fault) = table_line fault
fault_words (Normal fault) = fault_line fault
fault_words (Page fault) = fault_line fault

-- a fault is another than a failed write to standard output
abbrev pub is_other : NormalFault → Bool
is_other Write = false
is_other fault = true

-- a fault is reported by its line: that of a page was reported with the page, and a failed write to standard output is not
abbrev pub has_line : CleanFault → Bool
has_line (Page fault) = false
has_line (Normal fault) = is_other fault
has_line fault = true

-- How the fault of a page is reported on standard error: by its line, or a beginning of the line where a write failed. A failed write to
-- standard output is not reported.
abbrev pub IsPageReported : List ℕ → NormalFault → (errors errors' : Option (List ℕ)) → Type 0
IsPageReported name fault errors errors' =
    MatchBool (is_other fault) ((failed : Bool) × IsPut (page_line name fault ++ 10 ∷ []) errors errors' failed) (errors' ≡ errors)

-- how a fault is reported
abbrev pub IsReported : CleanFault → (errors errors' : Option (List ℕ)) → Type 0
IsReported fault errors errors' =
    MatchBool (has_line fault) ((failed : Bool) × IsPut (fault_words fault ++ 10 ∷ []) errors errors' failed) (errors' ≡ errors)
