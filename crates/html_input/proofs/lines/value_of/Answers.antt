use Rattle.std.proofs.Common.{◌∙◌, arith}
use Rattle.html_input.proofs.Rows.{small, small-more, value-more, value-none, value-whole}
use Rattle.html_input.proofs.lines.value_of.Goals as goal

pub overflow_mul-value : goal.overflow_mul-value
overflow_mul-value c =
    let below = small c.loop-digit.digit-index c.loop-digit.value
    (omega (arith, c.loop-digit-test.true, c.loop-digit.invariant.short)) c.loop-digit.invariant.small in
    omega (arith, below)

pub overflow_add-value : goal.overflow_add-value
overflow_add-value c =
    let below = small c.loop-digit.digit-index c.loop-digit.value
    (omega (arith, c.loop-digit-test.true, c.loop-digit.invariant.short)) c.loop-digit.invariant.small in
    let digit = c.in_ok-value.ensures.value in
    omega (arith, below, digit)

pub returns-in_err-value : goal.returns-in_err-value
returns-in_err-value c =
    c.from_residual.ensures
    ∙ value-none c.as_bytes-digits.result.now c.loop-digit.digit-index c.loop-digit.value c.from.result _
    c.loop-digit-test.true c.from.ensures c.in_err-value.ensures.value c.loop-digit.invariant.same

pub loop-digit-preserved : goal.loop-digit-preserved
loop-digit-preserved c =
    record {
      short = c.loop-digit.invariant.short;
      small = small-more c.loop-digit.digit-index c.loop-digit.value c.from.result c.in_ok-value.field-0
          c.loop-digit.invariant.small c.in_ok-value.ensures.value;
      same = value-more c.as_bytes-digits.result.now c.loop-digit.digit-index c.loop-digit.value c.from.result
          c.in_ok-value.field-0 _ c.loop-digit-test.true c.from.ensures c.in_ok-value.ensures.value c.loop-digit.invariant.same;
    }

pub returns : goal.returns
returns c = value-whole c.as_bytes-digits.result.now c.loop-digit.digit-index c.loop-digit.value _
    c.loop-digit-test.false c.loop-digit.invariant.same
