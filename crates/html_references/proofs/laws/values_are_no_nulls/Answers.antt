use Rattle.html_references.proofs.TableValues.{checked-values}
use Rattle.html_references.proofs.laws.values_are_no_nulls.Goals as goal

pub returns : goal.returns
returns c = checked-values
