-- A policy as text, with bounds on what may be left of a page: one rule a line, and a line for each bound.
use Rattle.std.specs.Prelude.{◌≡◌, ℕ, ◌+◌, ◌-◌, ◌*◌, ◌^◌, ◌≤◌, ◌==◌, min, true, cond, List, [], ◌∷◌, ◌++◌, Option, Some, None}
use Rattle.std.specs.Prelude.{IsUtf8, Result, Ok, Err, codes}
use Rattle.std.specs.Char.{is_ascii_digit}
use Rattle.std.specs.Fmt.{decimal}
use Rattle.std.specs.List.{fold, list_all}
use Rattle.std.specs.Str.{bytes_eq, chars}
use Rattle.html_clean.specs.Values.{words_of}
use Rattle.html_clean.specs.declared.bounding.Bound.{Bound}
use Rattle.html_clean.specs.declared.bounding.Bound.TheVariants.{Depth, Elements, Bytes}
use Rattle.html_clean.specs.declared.bounding.Bounds.{Bounds}
use Rattle.html_input.specs.Reading.{HasBegun, ShowsNotUtf8}
use Rattle.html_policy_text.specs.PolicyText.{IsRefused, lines_of, with_line}
use Rattle.html_policy_text.specs.Rules.{Rules, no_rules, rules_of}
use Rattle.html_policy_text.specs.Written.{is_writable, line_of, policy_text}
use Rattle.html_policy_text.specs.declared.bounded.BoundedPolicy.{BoundedPolicy}
use Rattle.html_policy_text.specs.declared.file.PolicyFileFault.{PolicyFileFault}
use Rattle.html_policy_text.specs.declared.file.PolicyFileFault.TheVariants.{NotUtf8, Read, Line, Memory}
use Rattle.html_policy_text.specs.declared.reading.PolicyFault.{PolicyFault}
use Rattle.html_policy_text.specs.declared.reading.PolicyFault.TheVariants as policy
use Rattle.html_policy_text.specs.declared.rules.Problem.{Problem}
use Rattle.html_policy_text.specs.declared.rules.Problem.TheVariants.{WrongNumber, WrongWords}
use Rattle.html_policy_text.specs.declared.rules.RuleFault.{RuleFault}

-- a policy, as lists, and how much may be left of a page
pub record BoundedRules : Type 0 where
  pub rules : Rules
  pub bounds : Bounds

abbrev pub bounded_of : BoundedPolicy → BoundedRules
bounded_of bounded = record { rules = rules_of bounded.policy; bounds = bounded.bounds }

-- the greatest number of 64 bits is no bound
abbrev pub no_bound : ℕ
no_bound = 2 ^ 64 - 1

abbrev pub no_bounds : Bounds
no_bounds = record { depth = no_bound; elements = no_bound; bytes = no_bound }

-- nothing is kept, and there is no bound
abbrev pub nothing_said : BoundedRules
nothing_said = record { rules = no_rules; bounds = no_bounds }

-- LINES

-- the bound that a word is the name of
abbrev pub bound_named : List ℕ → Option Bound
bound_named word = cond (bytes_eq word (codes "max-depth")) (Some Depth)
    (cond (bytes_eq word (codes "max-elements")) (Some Elements) (cond (bytes_eq word (codes "max-bytes")) (Some Bytes) None))

-- a number and a digit after it, as far as 64 bits go
abbrev pub with_digit : ℕ → ℕ → ℕ
with_digit n c = min (min (n * 10) no_bound + (c - 48)) no_bound

-- the number that a word is in ASCII digits; one of more than 64 bits is no bound
abbrev pub number_of : List ℕ → Option ℕ
number_of word = cond (list_all is_ascii_digit word) (Some (fold with_digit 0 word)) None

abbrev pub with_bound : Bound → ℕ → Bounds → Bounds
with_bound Depth n bounds = record bounds { depth = n }
with_bound Elements n bounds = record bounds { elements = n }
with_bound Bytes n bounds = record bounds { bytes = n }

abbrev pub bounds_if : Bound → Bounds → Option ℕ → Result Bounds Problem
bounds_if bound bounds None = Err WrongNumber
bounds_if bound bounds (Some n) = Ok (with_bound bound n bounds)

-- `max-depth` or another such word, and a number; of several lines for a bound the last counts
abbrev pub bounds_by : Bound → Bounds → List (List ℕ) → Result Bounds Problem
bounds_by bound bounds [] = Err WrongWords
bounds_by bound bounds (word ∷ []) = bounds_if bound bounds (number_of word)
bounds_by bound bounds (word ∷ (other ∷ words)) = Err WrongWords

abbrev pub in_rules : BoundedRules → Result Rules Problem → Result BoundedRules Problem
in_rules b (Ok rules) = Ok (record b { rules = rules })
in_rules b (Err problem) = Err problem

abbrev pub in_bounds : BoundedRules → Result Bounds Problem → Result BoundedRules Problem
in_bounds b (Ok bounds) = Ok (record b { bounds = bounds })
in_bounds b (Err problem) = Err problem

abbrev pub by_name : Option Bound → BoundedRules → List (List ℕ) → List (List ℕ) → Result BoundedRules Problem
by_name None b line words = in_rules b (with_line b.rules line)
by_name (Some bound) b line words = in_bounds b (bounds_by bound b.bounds words)

-- a line, as words: a bound, or a rule of the policy
abbrev pub with_bounded_line : BoundedRules → List (List ℕ) → Result BoundedRules Problem
with_bounded_line b [] = Ok b
with_bounded_line b (word ∷ words) = by_name (bound_named word) b (word ∷ words) words

-- where a line was refused, and why
abbrev pub then_bounded : ℕ → Result BoundedRules Problem → (BoundedRules → Result BoundedRules (ℕ × Problem))
    → Result BoundedRules (ℕ × Problem)
then_bounded number (Ok b) next = next b
then_bounded number (Err problem) next = Err (number, problem)

-- what lines say, the first of which has this number, after others
abbrev pub read_bounded : ℕ → BoundedRules → List (List ℕ) → Result BoundedRules (ℕ × Problem)
read_bounded number b [] = Ok b
read_bounded number b (line ∷ lines) =
    then_bounded number (with_bounded_line b (words_of line)) (λ next. read_bounded (number + 1) next lines)

-- what the characters of a text say: the rules and the bounds, or the number of the first line that is refused, from 1 on, and why
abbrev pub bounded_rules : List ℕ → Result BoundedRules (ℕ × Problem)
bounded_rules text = read_bounded 1 nothing_said (lines_of text)

-- ANSWERS

-- what a line more comes to
abbrev pub IsTaken : {T X : Type 0} → Result T RuleFault → X → Result X Problem → Type 0
IsTaken (Ok _) next expected = expected ≡ Ok next
IsTaken (Err fault) next expected = IsRefused fault expected

-- why lines are refused
abbrev pub AreRefused : Result BoundedRules (ℕ × Problem) → PolicyFault → Type 0
AreRefused read policy.Memory = Unit {0}
AreRefused read (policy.Line number problem) = read ≡ Err (number, problem)

-- A file is UTF-8 and was read to its end, and its text says these rules and bounds.
pub record IsBoundedFile (whole : List ℕ) (left : Option (List ℕ)) (b : BoundedRules) : Type 0 where
  pub text : IsUtf8 whole
  pub taken : left ≡ Some []
  pub says : bounded_rules (chars whole) ≡ Ok b

-- A file is UTF-8, and this is the number of the first of its lines that is refused, and why it is.
pub record HasRefusedBound (whole : List ℕ) (number : ℕ) (problem : Problem) : Type 0 where
  pub text : IsUtf8 whole
  pub refused : bounded_rules (chars whole) ≡ Err (number, problem)

-- What a fault says of the bytes of a file that were left before and are left after its reading.
abbrev pub IsBoundedFileFault : (old new : Option (List ℕ)) → PolicyFileFault → Type 0
IsBoundedFileFault old new (NotUtf8 at) = (whole left : List ℕ) → old ≡ Some whole → new ≡ Some left → ShowsNotUtf8 whole left at
IsBoundedFileFault old new Read = (whole left : List ℕ) → old ≡ Some whole → new ≡ Some left → HasBegun whole left
IsBoundedFileFault old new (Line number problem) = (whole : List ℕ) → old ≡ Some whole → HasRefusedBound whole number problem
IsBoundedFileFault old new Memory = Unit {0}

-- AS TEXT

-- a line for a bound, if there is one
abbrev pub bound_text : List ℕ → ℕ → List ℕ
bound_text keyword n = cond (n == no_bound) [] (line_of keyword (decimal n ∷ []))

-- the lines of bounds stand before those of the policy
abbrev pub bounds_text : Bounds → List ℕ
bounds_text bounds = (bound_text (codes "max-depth") bounds.depth ++ bound_text (codes "max-elements") bounds.elements)
    ++ bound_text (codes "max-bytes") bounds.bytes

abbrev pub bounded_text : BoundedRules → List ℕ
bounded_text b = bounds_text b.bounds ++ policy_text b.rules

-- THE LAW

-- each bound is a number of 64 bits
pub record AreInRange (bounds : Bounds) : Type 0 where
  pub depth : bounds.depth ≤ no_bound
  pub elements : bounds.elements ≤ no_bound
  pub bytes : bounds.bytes ≤ no_bound

-- a policy that can be written is read back from its text, with its bounds
abbrev pub AreBoundedRead : Type 0
AreBoundedRead = (b : BoundedRules) → is_writable b.rules ≡ true → AreInRange b.bounds → bounded_rules (bounded_text b) ≡ Ok b
