use Rattle.std.proofs.Common.{◌≡◌, ◌≤◌, length, take, ◌-◌}
use Rattle.std.specs.Io.KnownBytes.{prepend_known}
use Rattle.html_decoded_source.proofs.front.read_front.Given as goal

abbrev pub invariant-loop-held : goal.invariant-loop-held
invariant-loop-held g l = (l.held ≤ length l.buffer)
    × (g.R.Source.left l.fn.source ≡ prepend_known (take l.held l.buffer) (g.R.Source.left l.source))
    × (g.R.Source.references l.source ≡ g.R.Source.references l.fn.source)

abbrev pub decreases-loop-held : goal.decreases-loop-held
decreases-loop-held g l = 1024 - l.held
