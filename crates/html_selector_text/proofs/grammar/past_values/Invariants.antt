use Rattle.std.proofs.Common.{◌≡◌, [], length}
use Rattle.html_selector_text.specs.Grammar.{past_values}
use Rattle.html_selector_text.proofs.grammar.past_values.Given as goal

abbrev pub invariant-loop-token : goal.invariant-loop-token
invariant-loop-token l = past_values [] l.tokens ≡ past_values l.opened.items l.rest

abbrev pub decreases-loop-token : goal.decreases-loop-token
decreases-loop-token l = length l.rest
