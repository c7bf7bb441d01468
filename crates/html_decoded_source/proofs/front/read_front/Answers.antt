use Rattle.std.proofs.Common.{◌∙◌, ◌≤◌, length, arith}
use Rattle.html_decoded_source.proofs.Fronts.{more-fits, more-read}
use Rattle.html_decoded_source.proofs.front.read_front.Goals as goal

pub loop-held-preserved : goal.loop-held-preserved
loop-held-preserved g c =
    let within = c.in_ok-count.ensures.within in
    let same = c.read_some.auto.buffer in
    let some : c.in_ok-count.count ≤ length c.read_some.new.buffer = omega arith in (
      more-fits c.loop-held.held c.in_ok-count.count c.loop-held.buffer c.read_some.new.buffer _ c.loop-held.invariant.0 some,
      more-read c.loop-held.held c.in_ok-count.count c.loop-held.buffer c.read_some.new.buffer _ c.loop-held.invariant.0 some
          (g.R.Source.left c.args.source.now) (g.R.Source.left c.loop-held.source) (g.R.Source.left c.read_some.new.self)
          c.loop-held.invariant.1 c.in_ok-count.ensures.moved,
      c.in_ok-count.ensures.same_references ∙ c.loop-held.invariant.2,
    )
