use Rattle.std.proofs.Common.{◌∙◌, length, ap, arith}
use Rattle.std.specs.Str.{chars}
use Rattle.bench_tokenizer.proofs.Characters.{firsts-chars, counted-few, counted-on, all-counted}
use Rattle.bench_tokenizer.proofs.counts.characters.Goals as goal

pub loop-at-preserved : goal.loop-at-preserved
loop-at-preserved c =
    let loop = c.loop-at in
    let bytes = c.as_bytes-bytes.result.now in
    let one = c.one_if_first-count.ensures in (
      counted-few loop.at loop.count _ _ loop.invariant.0 one,
      omega (arith, c.loop-at-test.true),
      counted-on bytes loop.at loop.count _ c.loop-at-test.true loop.invariant.2 one,
    )

pub returns : goal.returns
returns c =
    let loop = c.loop-at in
    let bytes = c.as_bytes-bytes.result.now in
    all-counted bytes loop.at loop.count c.loop-at-test.false loop.invariant.2
    ∙ firsts-chars bytes c.as_bytes-bytes.ensures.utf8 ∙ ap (λ bs. length (chars bs)) c.as_bytes-bytes.ensures.value
