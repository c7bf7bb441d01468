-- Each row is reached, by computing.
use Rattle.std.proofs.Common.{◌≡◌, true, [], refl}
use Rattle.html_rules.specs.Modes.Foreign.{in_foreign_content}
use Rattle.html_rules.specs.Rules.{rows}
use Rattle.html_rules.specs.Sets.{names_of}
use Rattle.html_rules.specs.declared.insertion_mode.InsertionMode.{InsertionMode}
use Rattle.html_rules_laws.specs.WholeTable.{IsEachRowReached, are_reached}
use Rattle.html_rules_laws.proofs.EachMode.{each-mode}

modes_are_reached : (m : InsertionMode) → are_reached [] (rows m) ≡ true
unfolding rows names_of
modes_are_reached = each-mode (λ m. are_reached [] (rows m)) refl

foreign_is_reached : are_reached [] in_foreign_content ≡ true
unfolding names_of
foreign_is_reached = refl

pub each_row_is_reached : IsEachRowReached
each_row_is_reached = (modes_are_reached, foreign_is_reached)
