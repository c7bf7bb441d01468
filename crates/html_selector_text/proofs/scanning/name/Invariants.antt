use Rattle.std.proofs.Common.{◌≡◌, ◌-◌, length}
use Rattle.html_selector_text.specs.Scanning.{name, name_steps}
use Rattle.html_selector_text.proofs.scanning.name.Given as goal

abbrev pub invariant-loop : goal.invariant-loop
invariant-loop l = name l.chars ≡ name_steps (length l.chars - l.counter) l.name l.rest
