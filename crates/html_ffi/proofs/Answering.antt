-- What an answer says, by what came of a text or of a failure.
use Rattle.std.proofs.Common.{◌≡◌, ◌∙◌, ℕ, List, Result, Ok, Err, ap, refl, subst, sym}
use Rattle.std.specs.Prelude.{IfErr, IfOk, length}
use Rattle.html_clean.specs.declared.counts.Cleaned.{Cleaned}
use Rattle.html_normal.specs.declared.report.Report.{Report}
use Rattle.html_ffi.specs.Answers.{IsPut, Means}
use Rattle.html_ffi.specs.Calls.{IsReported, IsReportedClean}
use Rattle.html_ffi.specs.Reports.{cleaned_of, nothing_at, nothing_cleaned_at, report_of}
use Rattle.html_ffi.specs.declared.answer.Failure.{Failure}
use Rattle.html_ffi.specs.declared.report.FigCleaned.{FigCleaned}
use Rattle.html_ffi.specs.declared.report.FigReport.{FigReport}
use Rattle.html_ffi.specs.declared.answer.Answer.{Answer}
use Rattle.html_ffi.specs.declared.answer.Answer.TheVariants.{Done, NotUtf8, TooShort, Memory, TooLarge, TableNotUtf8}
use Rattle.html_ffi.specs.declared.answer.Answer.TheVariants.{TableLine, TableName, TableDuplicate, TableValue}
use Rattle.html_ffi.specs.declared.answer.Answer.TheVariants.{SelectorNotUtf8, Selector, NotAnImage, NoNode}
use Rattle.html_ffi.specs.declared.answer.Answer.TheVariants.{PolicyNotUtf8, PolicyLine, NeverKept, NoPolicy, ContextNotUtf8}

module _ (Makes : List ℕ → Type 0) (None : Type 0) (Why : Answer → Type 0) (old new : List ℕ) where
  -- a text that was made was put in front of the room, or is too long for it
  pub put-means : (text : List ℕ) (answer : Answer) → Makes text → IsPut text old new answer → Means Makes None Why old new answer
  put-means text Done made is = record { text = text; made = made; front = is }
  put-means text NotUtf8 made is = absurd is
  put-means text TooShort made is = record { text = text; made = made; short = is.0; same = is.1 }
  put-means text Memory made is = absurd is
  put-means text TooLarge made is = absurd is
  put-means text TableNotUtf8 made is = absurd is
  put-means text TableLine made is = absurd is
  put-means text TableName made is = absurd is
  put-means text TableDuplicate made is = absurd is
  put-means text TableValue made is = absurd is
  put-means text SelectorNotUtf8 made is = absurd is
  put-means text Selector made is = absurd is
  put-means text NotAnImage made is = absurd is
  put-means text NoNode made is = absurd is
  put-means text PolicyNotUtf8 made is = absurd is
  put-means text PolicyLine made is = absurd is
  put-means text NeverKept made is = absurd is
  put-means text NoPolicy made is = absurd is
  put-means text ContextNotUtf8 made is = absurd is

  -- there is no text
  pub none-means : (Why Done → ⊥) → (Why TooShort → ⊥) → (answer : Answer) → Why answer → None → new ≡ old
      → Means Makes None Why old new answer
  none-means done short Done why none same = absurd (done why)
  none-means done short NotUtf8 why none same = record { why = why; none = none; same = same }
  none-means done short TooShort why none same = absurd (short why)
  none-means done short Memory why none same = record { why = why; none = none; same = same }
  none-means done short TooLarge why none same = record { why = why; none = none; same = same }
  none-means done short TableNotUtf8 why none same = record { why = why; none = none; same = same }
  none-means done short TableLine why none same = record { why = why; none = none; same = same }
  none-means done short TableName why none same = record { why = why; none = none; same = same }
  none-means done short TableDuplicate why none same = record { why = why; none = none; same = same }
  none-means done short TableValue why none same = record { why = why; none = none; same = same }
  none-means done short SelectorNotUtf8 why none same = record { why = why; none = none; same = same }
  none-means done short Selector why none same = record { why = why; none = none; same = same }
  none-means done short NotAnImage why none same = record { why = why; none = none; same = same }
  none-means done short NoNode why none same = record { why = why; none = none; same = same }
  none-means done short PolicyNotUtf8 why none same = record { why = why; none = none; same = same }
  none-means done short PolicyLine why none same = record { why = why; none = none; same = same }
  none-means done short NeverKept why none same = record { why = why; none = none; same = same }
  none-means done short NoPolicy why none same = record { why = why; none = none; same = same }
  none-means done short ContextNotUtf8 why none same = record { why = why; none = none; same = same }

-- of a page's text
module _ (Is : (file page text : List ℕ) → Report → Type 0) (Why : ℕ → Answer → Type 0) (file page old new : List ℕ)
    (report : FigReport) (answer : Answer) where
  pub text-put : (text lent : List ℕ) (count : ℕ) (of_page : Report) → Is file page text of_page → lent ≡ text
      → count ≡ length lent → report ≡ report_of count of_page → IsPut lent old new answer
      → Means (IsReported Is file page report) (report ≡ nothing_at report.at) (Why report.at) old new answer
  text-put text lent count of_page is same counted report_is put =
      put-means (IsReported Is file page report) (report ≡ nothing_at report.at) (Why report.at) old new text answer
      (record { of_page = of_page; is = is; report_is = report_is ∙ ap (λ n. report_of n of_page) (counted ∙ ap length same) })
      (subst (λ (t : List ℕ). IsPut t old new answer) same put)

  pub text-none : ((n : ℕ) → Why n Done → ⊥) → ((n : ℕ) → Why n TooShort → ⊥) → (at : ℕ) → Why at answer → report ≡ nothing_at at
      → new ≡ old → Means (IsReported Is file page report) (report ≡ nothing_at report.at) (Why report.at) old new answer
  text-none done short at fails none same =
      let there : report.at ≡ at = ap (λ (r : FigReport). r.at) none in
      none-means (IsReported Is file page report) (report ≡ nothing_at report.at) (Why report.at) old new (done report.at)
      (short report.at) answer (subst (λ (n : ℕ). Why n answer) (sym there) fails) (none ∙ ap nothing_at (sym there)) same

-- of a page's text, by what came of a result
module _ (Is : (file page text : List ℕ) → Report → Type 0) (Why : ℕ → Answer → Type 0) (file page old new : List ℕ)
    (report : FigReport) (answer : Answer) (done : (n : ℕ) → Why n Done → ⊥) (short : (n : ℕ) → Why n TooShort → ⊥) where
  pub text-answered : {A : Type 0} (made : Result A Failure) (bytes : A → List ℕ) (of_page : A → Report)
      → IfOk made (λ it. Is file page (bytes it) (of_page it)) → IfErr made (λ failure. Why failure.at failure.answer)
      → IfOk made (λ it. report ≡ report_of (length (bytes it)) (of_page it)) → IfOk made (λ it. IsPut (bytes it) old new answer)
      → IfErr made (λ failure. report ≡ nothing_at failure.at) → IfErr made (λ failure. answer ≡ failure.answer)
      → IfErr made (λ _. new ≡ old)
      → Means (IsReported Is file page report) (report ≡ nothing_at report.at) (Why report.at) old new answer
  text-answered (Ok it) bytes of_page is why report_is put none answer_is same =
      text-put Is Why file page old new report answer (bytes it) (bytes it) (length (bytes it)) (of_page it) is refl refl report_is put
  text-answered (Err failure) bytes of_page is why report_is put none answer_is same =
      text-none Is Why file page old new report answer done short failure.at
      (subst (λ (a : Answer). Why failure.at a) (sym answer_is) why) none same

-- of what was kept of a page
module _ (Is : (file page text : List ℕ) → Cleaned → Type 0) (Why : ℕ → Answer → Type 0) (file page old new : List ℕ)
    (report : FigCleaned) (answer : Answer) where
  pub kept-put : (text lent : List ℕ) (count : ℕ) (counts : Cleaned) → Is file page text counts → lent ≡ text
      → count ≡ length lent → report ≡ cleaned_of count counts → IsPut lent old new answer
      → Means (IsReportedClean Is file page report) (report ≡ nothing_cleaned_at report.at) (Why report.at) old new answer
  kept-put text lent count counts is same counted report_is put =
      put-means (IsReportedClean Is file page report) (report ≡ nothing_cleaned_at report.at) (Why report.at) old new text answer
      (record { counts = counts; is = is; report_is = report_is ∙ ap (λ n. cleaned_of n counts) (counted ∙ ap length same) })
      (subst (λ (t : List ℕ). IsPut t old new answer) same put)

  pub kept-none : ((n : ℕ) → Why n Done → ⊥) → ((n : ℕ) → Why n TooShort → ⊥) → (at : ℕ) → Why at answer
      → report ≡ nothing_cleaned_at at → new ≡ old
      → Means (IsReportedClean Is file page report) (report ≡ nothing_cleaned_at report.at) (Why report.at) old new answer
  kept-none done short at fails none same =
      let there : report.at ≡ at = ap (λ (r : FigCleaned). r.at) none in
      none-means (IsReportedClean Is file page report) (report ≡ nothing_cleaned_at report.at) (Why report.at) old new (done report.at)
      (short report.at) answer (subst (λ (n : ℕ). Why n answer) (sym there) fails) (none ∙ ap nothing_cleaned_at (sym there)) same

-- of what was kept of a page, by what came of a result
module _ (Is : (file page text : List ℕ) → Cleaned → Type 0) (Why : ℕ → Answer → Type 0) (file page old new : List ℕ)
    (report : FigCleaned) (answer : Answer) (done : (n : ℕ) → Why n Done → ⊥) (short : (n : ℕ) → Why n TooShort → ⊥) where
  pub kept-answered : {A : Type 0} (made : Result A Failure) (bytes : A → List ℕ) (counts : A → Cleaned)
      → IfOk made (λ it. Is file page (bytes it) (counts it)) → IfErr made (λ failure. Why failure.at failure.answer)
      → IfOk made (λ it. report ≡ cleaned_of (length (bytes it)) (counts it)) → IfOk made (λ it. IsPut (bytes it) old new answer)
      → IfErr made (λ failure. report ≡ nothing_cleaned_at failure.at) → IfErr made (λ failure. answer ≡ failure.answer)
      → IfErr made (λ _. new ≡ old)
      → Means (IsReportedClean Is file page report) (report ≡ nothing_cleaned_at report.at) (Why report.at) old new answer
  kept-answered (Ok it) bytes counts is why report_is put none answer_is same =
      kept-put Is Why file page old new report answer (bytes it) (bytes it) (length (bytes it)) (counts it) is refl refl report_is put
  kept-answered (Err failure) bytes counts is why report_is put none answer_is same =
      kept-none Is Why file page old new report answer done short failure.at
      (subst (λ (a : Answer). Why failure.at a) (sym answer_is) why) none same
