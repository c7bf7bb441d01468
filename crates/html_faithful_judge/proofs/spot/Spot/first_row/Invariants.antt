use Rattle.std.proofs.Common.{◌≡◌, ◌-◌, drop, length}
use Rattle.html_rules.specs.Rules.{first_fit}
use Rattle.html_faithful.specs.Spots.{hollow}
use Rattle.html_faithful_judge.specs.Rows.{rows_in}
use Rattle.html_faithful_judge.specs.Spots.{spot_of}
use Rattle.html_faithful_judge.specs.Tokens.{token_of}
use Rattle.html_faithful_judge.proofs.spot.Spot.first_row.Given as goal

abbrev pub invariant-loop-row : goal.invariant-loop-row
invariant-loop-row l = first_fit (rows_in l.table) (token_of l.token.content) (hollow (spot_of l.self))
    ≡ first_fit (drop l.place (rows_in l.table)) (token_of l.token.content) (hollow (spot_of l.self))

abbrev pub decreases-loop-row : goal.decreases-loop-row
decreases-loop-row l = length (rows_in l.table) - l.place
