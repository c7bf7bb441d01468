-- A policy as text, one rule a line.
use Rattle.std.specs.Prelude.{◌≡◌, ℕ, ◌+◌, ◌==◌, Bool, cond, nat_eq, false, List, [], ◌∷◌, Result, Ok, Err}
use Rattle.std.specs.List.{slice_split}
use Rattle.html_clean.specs.Values.{words_of}
use Rattle.html_policy_text.specs.Rules.{Rules, keyword_of, no_rules, with_rule}
use Rattle.html_policy_text.specs.declared.reading.PolicyFault.{PolicyFault}
use Rattle.html_policy_text.specs.declared.reading.PolicyFault.TheVariants.{Memory, Line}
use Rattle.html_policy_text.specs.declared.rules.Problem.{Problem}
use Rattle.html_policy_text.specs.declared.rules.RuleFault.{RuleFault}
use Rattle.html_policy_text.specs.declared.rules.RuleFault.TheVariants as rule

abbrev pub is_feed : ℕ → Bool
is_feed c = c == 10

-- a comment begins with "#"
abbrev pub is_comment : List ℕ → Bool
is_comment [] = false
is_comment (c ∷ cs) = nat_eq c 35

-- a line, as words; one without words says nothing, as a comment does
abbrev pub with_line : Rules → List (List ℕ) → Result Rules Problem
with_line rules [] = Ok rules
with_line rules (word ∷ words) = cond (is_comment word) (Ok rules) (with_rule (keyword_of word) rules words)

-- the lines of a text
abbrev pub lines_of : List ℕ → List (List ℕ)
lines_of text = slice_split is_feed text

-- where a line was refused, and why
abbrev pub then_lines : ℕ → Result Rules Problem → (Rules → Result Rules (ℕ × Problem)) → Result Rules (ℕ × Problem)
then_lines number (Ok rules) next = next rules
then_lines number (Err problem) next = Err (number, problem)

-- what lines say, the first of which has this number, after others
abbrev pub read_lines : ℕ → Rules → List (List ℕ) → Result Rules (ℕ × Problem)
read_lines number rules [] = Ok rules
read_lines number rules (line ∷ lines) =
    then_lines number (with_line rules (words_of line)) (λ next. read_lines (number + 1) next lines)

-- what the characters of a text say: the rules, or the number of the first line that is refused, from 1 on, and why
abbrev pub policy_rules : List ℕ → Result Rules (ℕ × Problem)
policy_rules text = read_lines 1 no_rules (lines_of text)

-- ANSWERS

-- what a rule more comes to, by what is left where it is answered
abbrev pub IsRefused : {E : Type 0} → RuleFault → Result E Problem → Type 0
IsRefused rule.Memory expected = Unit {0}
IsRefused (rule.Problem problem) expected = expected ≡ Err problem

-- a rule is not taken where memory is short
abbrev pub or_memory : {T F : Type 0} → Result T F → Result T RuleFault
or_memory (Ok made) = Ok made
or_memory (Err fault) = Err rule.Memory

abbrev pub IsApplied : {T : Type 0} → Result T RuleFault → Rules → Result Rules Problem → Type 0
IsApplied (Ok _) rules expected = expected ≡ Ok rules
IsApplied (Err fault) rules expected = IsRefused fault expected

-- why lines are refused
abbrev pub AreLinesRefused : Result Rules (ℕ × Problem) → PolicyFault → Type 0
AreLinesRefused read Memory = Unit {0}
AreLinesRefused read (Line number problem) = read ≡ Err (number, problem)

abbrev pub fault_at : ℕ → RuleFault → PolicyFault
fault_at number rule.Memory = Memory
fault_at number (rule.Problem problem) = Line number problem
