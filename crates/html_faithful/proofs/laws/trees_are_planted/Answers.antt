use Rattle.html_faithful.proofs.Around.{trees-planted}
use Rattle.html_faithful.proofs.laws.trees_are_planted.Goals as goal

pub returns : goal.returns
returns c = λ scripting parent trees n after_text drops before p here e done tree at is.
    trees-planted scripting parent trees n after_text drops before p here e done tree at is
