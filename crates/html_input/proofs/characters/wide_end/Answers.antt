use Rattle.std.proofs.Common.{arith}
use Rattle.html_input.proofs.WideBytes.{text-wide}
use Rattle.html_input.proofs.characters.wide_end.Goals as goal

pub loop-at-preserved : goal.loop-at-preserved
loop-at-preserved c =
    let width = c.width_of-width.ensures.within in
    let low = c.loop-at.invariant.low in
    let within = c.loop-at.invariant.within in
    record {
      low = omega arith;
      within = omega arith;
      text = text-wide c.args.bytes.now c.args.from c.loop-at.at _ low (omega arith) width c.loop-at.invariant.text c.width_of-width.ensures.text;
    }
