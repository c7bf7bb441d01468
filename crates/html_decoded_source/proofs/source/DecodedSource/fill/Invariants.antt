use Rattle.std.proofs.Common.{◌≡◌}
use Rattle.html_decoded_source.specs.Sources.{left_of}
use Rattle.html_decoded_source.proofs.source.DecodedSource.fill.Given as goal

abbrev pub invariant-loop : goal.invariant-loop
invariant-loop g l = (left_of g.R.Source.left l.self ≡ left_of g.R.Source.left l.fn.self)
    × (g.R.Source.references l.self.source ≡ g.R.Source.references l.fn.self.source)
