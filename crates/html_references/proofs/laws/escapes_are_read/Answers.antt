use Rattle.std.proofs.Common.{refl}
use Rattle.html_references.proofs.WholeNames.{whole-read}
use Rattle.html_references.proofs.laws.escapes_are_read.Goals as goal

pub returns : goal.returns
returns c rows checked has = record {
  amp = whole-read rows checked _ has.amp refl;
  lt = whole-read rows checked _ has.lt refl;
  gt = whole-read rows checked _ has.gt refl;
  quot = whole-read rows checked _ has.quot refl;
  nbsp = whole-read rows checked _ has.nbsp refl;
}
