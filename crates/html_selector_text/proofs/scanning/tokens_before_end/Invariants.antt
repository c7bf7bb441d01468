use Rattle.std.proofs.Common.{◌≡◌, ◌-◌, [], length}
use Rattle.html_selector_text.specs.Scanning.{token_steps}
use Rattle.html_selector_text.proofs.scanning.tokens_before_end.Given as goal

abbrev pub invariant-loop : goal.invariant-loop
invariant-loop l = token_steps (length l.chars) (length l.chars) [] l.chars
    ≡ token_steps (length l.chars - l.counter) (length l.chars) l.tokens.items l.rest
