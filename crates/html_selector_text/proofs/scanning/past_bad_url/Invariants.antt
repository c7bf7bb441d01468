use Rattle.std.proofs.Common.{◌≡◌, ◌-◌, length}
use Rattle.html_selector_text.specs.Scanning.{past_bad_url, bad_url_steps}
use Rattle.html_selector_text.proofs.scanning.past_bad_url.Given as goal

abbrev pub invariant-loop : goal.invariant-loop
invariant-loop l = past_bad_url l.chars ≡ bad_url_steps (length l.chars - l.counter) l.rest
