use Rattle.std.proofs.Common.{◌≡◌}
use Rattle.std.specs.Prelude.{filter}
use Rattle.html_extracts.specs.Links.{is_in_line}
use Rattle.html_extracts.proofs.links.without_breaks.Given as goal

abbrev pub invariant-loop-character : goal.invariant-loop-character
invariant-loop-character l = l.line ≡ filter is_in_line l.yielded
