use Rattle.std.proofs.Common.{◌≡◌, ◌-◌, length}
use Rattle.html_selector_text.specs.Scanning.{url, url_steps}
use Rattle.html_selector_text.proofs.scanning.url.Given as goal

abbrev pub invariant-loop : goal.invariant-loop
invariant-loop l = url l.chars ≡ url_steps (length l.chars - l.counter) l.rest
