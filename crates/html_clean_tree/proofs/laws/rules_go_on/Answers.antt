use Rattle.html_rules.specs.State.{State}
use Rattle.html_clean_tree.proofs.GoOn.{go-on}
use Rattle.html_clean_tree.proofs.laws.rules_go_on.Goals as goal

pub returns : goal.returns
returns c policy = go-on policy (λ (s : State). Unit {0})
