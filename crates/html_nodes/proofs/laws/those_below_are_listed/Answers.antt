use Rattle.html_nodes.proofs.Levels.{below-children}
use Rattle.html_nodes.proofs.Distinct.{among-below, below-distinct, listed}
use Rattle.html_nodes.proofs.laws.those_below_are_listed.Goals as goal

pub returns : goal.returns
returns c f is top = record {
  found = λ n h. among-below f is top n h;
  all = λ n b. listed f is top n b;
  once = below-distinct f is top;
  ordered = below-children f is top;
}
