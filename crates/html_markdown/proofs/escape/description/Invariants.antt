use Rattle.std.proofs.Common.{◌≡◌}
use Rattle.html_markdown.specs.Description as spec
use Rattle.html_markdown.proofs.escape.description.Given as goal

abbrev pub invariant-loop-character : goal.invariant-loop-character
invariant-loop-character l = l.made ≡ spec.description l.yielded
