use Rattle.std.proofs.Common.{refl}
use Rattle.html_stack.proofs.Points.{html-back}
use Rattle.html_stack.proofs.inserting.new_element.NewElement.html.Goals as goal

pub returns-clause-of : goal.returns-clause-of
returns-clause-of c = record {
  in_namespace = rw c.from_known.ensures html-back;
  named = refl;
  with_attributes = refl;
  had_duplicate_attributes = refl;
}

pub returns-clause-is : goal.returns-clause-is
returns-clause-is c = rw (c.from_known.ensures, html-back) c.html-class.ensures
