use Rattle.html_rules_laws.proofs.TreePreserved.AdoptionAgency.{adoptions-Standing}
use Rattle.html_rules_laws.proofs.laws.adoptions_keep_elements_standing.Goals as goal

pub returns : goal.returns
returns c = adoptions-Standing
