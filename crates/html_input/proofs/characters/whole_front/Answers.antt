use Rattle.std.proofs.Common.{arith}
use Rattle.html_input.proofs.WideBytes.{text-ascii, text-to}
use Rattle.html_input.proofs.characters.whole_front.Goals as goal

pub returns-then-next-at-clause-text : goal.returns-then-next-at-clause-text
returns-then-next-at-clause-text c =
    let count = c.ascii_count-count.ensures.within in
    text-ascii c.args.bytes.now c.loop-at.at _ (omega arith) c.ascii_count-count.ensures.before c.loop-at.invariant.text

pub loop-at-preserved-then-count-lt16 : goal.loop-at-preserved-then-count-lt16
loop-at-preserved-then-count-lt16 c =
    let count = c.ascii_count-count.ensures.within in
    let text = text-ascii c.args.bytes.now c.loop-at.at _ (omega arith) c.ascii_count-count.ensures.before c.loop-at.invariant.text in
    record {
      within = c.wide_end-next.ensures.within;
      text = text-to c.args.bytes.now _ _ c.wide_end-next.ensures.low text c.wide_end-next.ensures.text;
    }

pub loop-at-preserved : goal.loop-at-preserved
loop-at-preserved c =
    let count = c.ascii_count-count.ensures.within in
    record {
      within = omega arith;
      text = text-ascii c.args.bytes.now c.loop-at.at _ (omega arith) c.ascii_count-count.ensures.before c.loop-at.invariant.text;
    }
