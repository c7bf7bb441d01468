-- Worked examples: the lines that are printed, and the verdicts.
use Rattle.std.specs.Prelude.{◌≡◌, ℕ, List, [], ◌∷◌, map, codes}
use Rattle.html_faithful_walk.specs.declared.reasons.Unfaithful.TheVariants as why
use Rattle.figpliers_program.specs.Checking.{faithful_line, reason, unfaithful_line}
use Rattle.figpliers_program.specs.Pages.{ended, error_lines, verdict_on}
use Rattle.figpliers_program.specs.Verdicts.{fault_line, graver, status_of, unwritten_line}
use Rattle.figpliers_program.specs.declared.faults.PageFault.TheVariants.{Memory, NotUtf8, Open}
use Rattle.figpliers_program.specs.declared.faults.Verdict.{Verdict}
use Rattle.figpliers_program.specs.declared.faults.Verdict.TheVariants.{Errors, Fault, Fine, Nothing, Unwritten}
use Rattle.figpliers_program.specs.declared.faults.Why.TheVariants.{Missing}

-- texts that are written, beside how they look
abbrev pub line_rows : List (List ℕ × List ℕ)
line_rows = (
  error_lines (codes "a.html") ((record { line = 1; column = 7 }, codes "eof-in-tag")
      ∷ (record { line = 12; column = 1 }, codes "duplicate-attribute") ∷ []),
  codes "a.html:1:7: eof-in-tag\na.html:12:1: duplicate-attribute\n",
)
    ∷ (fault_line (codes "a.html") (NotUtf8 21), codes "a.html: not UTF-8 at byte 21\n")
    ∷ (fault_line (codes "a.html") (Open Missing), codes "a.html: cannot be opened: no such file\n")
    ∷ (fault_line (codes "figpliers") Memory, codes "figpliers: no memory was left\n")
    ∷ (unwritten_line (codes "out.txt"), codes "figpliers: out.txt cannot be written\n")
    ∷ (faithful_line (codes "a.html"), codes "a.html: faithful\n")
    ∷ (unfaithful_line (codes "-") (codes "html/body/pre") (reason why.LineFeed), codes "-: html/body/pre: a line feed comes first\n")
    ∷ (ended (codes "a"), codes "a\n")
    ∷ (ended (codes "a\n"), codes "a\n")
    ∷ (ended [], codes "\n")
    ∷ []

abbrev pub AreLinesWritten : Type 0
AreLinesWritten = map (λ (row : List ℕ × List ℕ). row.0) line_rows ≡ map (λ row. row.1) line_rows

-- the verdicts of two pages, that of both, and its status
abbrev pub verdict_rows : List ((Verdict × Verdict) × (Verdict × ℕ))
verdict_rows = ((Fine, Nothing), (Fine, 0))
    ∷ ((Nothing, Nothing), (Nothing, 1))
    ∷ ((Errors, Fine), (Errors, 1))
    ∷ ((Errors, Fault), (Fault, 2))
    ∷ ((Unwritten, Fault), (Unwritten, 2))
    ∷ ((verdict_on 0, verdict_on 3), (Fine, 0))
    ∷ []

abbrev pub AreVerdictsGraver : Type 0
AreVerdictsGraver = map (λ (row : (Verdict × Verdict) × (Verdict × ℕ)). (graver row.0.0 row.0.1, status_of (graver row.0.0 row.0.1)))
    verdict_rows ≡ map (λ row. row.1) verdict_rows
