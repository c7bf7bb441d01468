use Rattle.std.proofs.Common.{arith, rules}
use Rattle.html_input.proofs.WideBytes.{IsUtf8-two, IsUtf8-three, IsUtf8-four}
use Rattle.html_input.proofs.characters.width_of.Goals as goal

pub returns-then-is_continuation-clause-text : goal.returns-then-is_continuation-clause-text
returns-then-is_continuation-clause-text c = IsUtf8-two _ _ (omega arith) (omega arith) (search rules)

pub returns-then-is_second_of_three-clause-text : goal.returns-then-is_second_of_three-clause-text
returns-then-is_second_of_three-clause-text c = IsUtf8-three _ _ _ (omega arith) (omega arith) (search rules) (search rules)

pub returns-then-is_continuation-2-clause-text : goal.returns-then-is_continuation-2-clause-text
returns-then-is_continuation-2-clause-text c =
    IsUtf8-four _ _ _ _ (omega arith) (omega arith) (search rules) (search rules) (search rules)
