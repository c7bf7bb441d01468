use Rattle.std.proofs.Common.{◌≡◌, ◌-◌, length}
use Rattle.html_selector_text.specs.Scanning.{string, string_steps}
use Rattle.html_selector_text.proofs.scanning.string.Given as goal

abbrev pub invariant-loop : goal.invariant-loop
invariant-loop l = string l.quote l.chars ≡ string_steps l.quote (length l.chars - l.counter) l.text l.rest
