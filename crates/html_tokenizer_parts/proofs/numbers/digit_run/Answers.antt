use Rattle.html_tokenizer_parts.proofs.HeldNumbers.{run-all, run-ends, run-more}
use Rattle.html_tokenizer_parts.specs.CharRefs.{stops}
use Rattle.html_tokenizer_parts.proofs.numbers.digit_run.Goals as goal

pub loop-count-preserved : goal.loop-count-preserved
loop-count-preserved c = run-more (stops c.args.hex) c.args.text.now c.loop-count.count c.loop-count-test.true
    c.if-not-stops.ensures c.loop-count.invariant.1

pub returns-else-not-stops-clause-is : goal.returns-else-not-stops-clause-is
returns-else-not-stops-clause-is c = run-ends (stops c.args.hex) c.args.text.now c.loop-count.count
    c.loop-count-test.true c.if-not-stops.ensures c.loop-count.invariant.1

pub returns-after-loop-count-clause-is : goal.returns-after-loop-count-clause-is
returns-after-loop-count-clause-is c = run-all (stops c.args.hex) c.args.text.now c.loop-count.count
    c.loop-count-test.false c.loop-count.invariant.1
