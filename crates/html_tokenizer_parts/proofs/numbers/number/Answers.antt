use Rattle.html_tokenizer_parts.proofs.Digits.{number-more}
use Rattle.html_tokenizer_parts.proofs.numbers.number.Goals as goal

pub loop-byte-preserved : goal.loop-byte-preserved
loop-byte-preserved c = (
  c.loop-byte.invariant.0,
  number-more c.args.hex c.args.digits.now c.loop-byte.byte-index
      c.loop-byte.value c.base_of-base.result c.digit.result c.min-value.result c.loop-byte-test.true
      c.loop-byte.invariant.0 c.loop-byte.invariant.1 c.digit.ensures c.min-value.ensures,
)
