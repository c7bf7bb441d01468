use Rattle.html_nodes.proofs.Keeping.{all-kept}
use Rattle.html_nodes.proofs.alike.told_below.Goals as goal

pub returns-clause-ok : goal.returns-clause-ok
returns-clause-ok c = all-kept _ _ _ c.new.ensures.items c.in_ok-serialize.ensures.walks
