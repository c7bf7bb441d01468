-- What a policy's text says of cleaning, and why it says nothing.
use Rattle.std.proofs.Common.{◌≡◌, ℕ, true, false, List, Option, None, Some, Result, Ok, Err, refl, subst, sym, true≢false}
use Rattle.std.proofs.lemmas.Bool.{false≢true}
use Rattle.std.specs.Prelude.{IfErr, IfOk, is_err}
use Rattle.std.specs.Str.{IsUtf8, IsValidUpTo, chars}
use Rattle.html_clean.specs.declared.policy.Policy.{Policy}
use Rattle.html_policy_text.specs.PolicyText.{AreLinesRefused, policy_rules}
use Rattle.html_policy_text.specs.declared.reading.PolicyFault.{PolicyFault}
use Rattle.html_policy_text.specs.declared.reading.PolicyFault.TheVariants as policy
use Rattle.html_ffi.specs.Answers.{Fails, policy_failure_of}
use Rattle.html_ffi.specs.Policies.{FailsToClean, FailsToName}
use Rattle.html_ffi.specs.declared.answer.Answer.{Answer}
use Rattle.html_ffi.specs.declared.answer.Answer.TheVariants.{Done, NotUtf8, TooShort, Memory, TooLarge, TableNotUtf8}
use Rattle.html_ffi.specs.declared.answer.Answer.TheVariants.{TableLine, TableName, TableDuplicate, TableValue}
use Rattle.html_ffi.specs.declared.answer.Answer.TheVariants.{SelectorNotUtf8, Selector, NotAnImage, NoNode}
use Rattle.html_ffi.specs.declared.answer.Answer.TheVariants.{PolicyNotUtf8, PolicyLine, NeverKept, NoPolicy, ContextNotUtf8}
use Rattle.html_ffi.specs.declared.answer.Failure.{Failure}

module _ (first : Policy → Option (List ℕ)) (file text page : List ℕ) where
  -- a policy's text is not UTF-8
  pub text-fails : (answer : Answer) (at : ℕ) → answer ≡ PolicyNotUtf8 → IsValidUpTo text at
      → FailsToClean first file text page answer at
  text-fails answer at is valid = subst (λ (a : Answer). FailsToClean first file text page a at) (sym is) valid

  -- it has a line that is no rule
  pub line-fails : (fault : PolicyFault) (made : Failure) → made ≡ policy_failure_of fault → IsUtf8 text
      → AreLinesRefused (policy_rules (chars text)) fault → FailsToClean first file text page made.answer made.at
  line-fails policy.Memory made is utf8 why = subst (λ (f : Failure). FailsToClean first file text page f.answer f.at) (sym is) refl
  line-fails (policy.Line number problem) made is utf8 why =
      subst (λ (f : Failure). FailsToClean first file text page f.answer f.at) (sym is) (record { utf8 = utf8; problem = problem; is = why })

  -- what is wrong with the table or the page is so for a call that takes a policy too
  pub fails-to-clean : (answer : Answer) (at : ℕ) → Fails file page answer at → FailsToClean first file text page answer at
  fails-to-clean Done at why = absurd why
  fails-to-clean NotUtf8 at why = why
  fails-to-clean TooShort at why = absurd why
  fails-to-clean Memory at why = why
  fails-to-clean TooLarge at why = absurd why
  fails-to-clean TableNotUtf8 at why = why
  fails-to-clean TableLine at why = why
  fails-to-clean TableName at why = why
  fails-to-clean TableDuplicate at why = why
  fails-to-clean TableValue at why = why
  fails-to-clean SelectorNotUtf8 at why = absurd why
  fails-to-clean Selector at why = absurd why
  fails-to-clean NotAnImage at why = absurd why
  fails-to-clean NoNode at why = absurd why
  fails-to-clean PolicyNotUtf8 at why = absurd why
  fails-to-clean PolicyLine at why = absurd why
  fails-to-clean NeverKept at why = absurd why
  fails-to-clean NoPolicy at why = absurd why
  fails-to-clean ContextNotUtf8 at why = absurd why

-- the name of a ready policy is not UTF-8
pub name-fails : (name : List ℕ) (answer : Answer) (at : ℕ) → answer ≡ PolicyNotUtf8 → IsValidUpTo name at → FailsToName name answer at
name-fails name answer at is valid = subst (λ (a : Answer). FailsToName name a at) (sym is) valid

-- by the answer of a look at the words of a policy: the first that is never kept, if there is one
module _ {E : Type 0} (first : Option (List ℕ)) (spell : E → List ℕ) where
  pub some-refused : (r : Result (Unit {0}) E) → is_err r ≡ true → IfErr r (λ word. first ≡ Some (spell word))
      → (word : List ℕ) × (first ≡ Some word)
  some-refused (Ok done) is h = absurd (false≢true is)
  some-refused (Err word) is h = (spell word, h)

  pub none-refused : (r : Result (Unit {0}) E) → is_err r ≡ false → IfOk r (λ _. first ≡ None) → first ≡ None
  none-refused (Ok done) is h = h
  none-refused (Err word) is h = absurd (true≢false is)
