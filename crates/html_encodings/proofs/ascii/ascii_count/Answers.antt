use Rattle.std.proofs.Common.{arith}
use Rattle.html_encodings.proofs.AsciiBytes.{all_ascii, ascii_before, first_within}
use Rattle.html_encodings.proofs.ascii.ascii_count.Goals as goal

pub returns-then-marks-eq0-clause-all : goal.returns-then-marks-eq0-clause-all
returns-then-marks-eq0-clause-all c none = all_ascii _ _ _ c.requires c.marks-marks.ensures c.if-marks-eq0.true

pub returns-clause-within : goal.returns-clause-within
returns-clause-within c = first_within _ _ _ c.requires c.marks-marks.ensures (omega (arith, c.if-marks-eq0.false))

pub returns-clause-before : goal.returns-clause-before
returns-clause-before c = ascii_before _ _ _ c.requires c.marks-marks.ensures (omega (arith, c.if-marks-eq0.false))
