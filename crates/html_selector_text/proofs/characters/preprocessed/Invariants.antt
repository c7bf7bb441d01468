use Rattle.std.proofs.Common.{◌≡◌, ◌++◌, length}
use Rattle.html_selector_text.specs.Characters.{preprocessed, preprocessed_after}
use Rattle.html_selector_text.proofs.characters.preprocessed.Given as goal

abbrev pub invariant-loop-rest : goal.invariant-loop-rest
invariant-loop-rest l = l.made.items ++ preprocessed_after l.cr l.rest ≡ preprocessed l.text

abbrev pub decreases-loop-rest : goal.decreases-loop-rest
decreases-loop-rest l = length l.rest
